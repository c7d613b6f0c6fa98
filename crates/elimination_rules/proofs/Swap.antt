-- Unknown j replaced, in a row and in each row of a table: columns and lengths.
use Rattle.std.specs.Prelude.{◌≡◌, List, [], ◌∷◌, ℕ, ◌*◌, length, ℤ, pos, neg_ℤ, ◌-ℤ◌, ◌*ℤ◌}
use Rattle.std.proofs.Common.{sym, ◌∙◌, ap, ap₂, subst, arith}
use Rattle.whole.specs.Cases.{by_equal}
use Rattle.whole.specs.Identity.{identity, terms}
use Rattle.whole.specs.Word.{cleared, bit_cleared_other}
use Rattle.row.specs.Row.{at}
use Rattle.row.specs.Table.{each_row}
use Rattle.row.specs.Values.{at_less, length_plus}
use Rattle.row.specs.Tables.{length_each}
use Rattle.elimination_rules.specs.Round.{swap}
use Rattle.elimination_rules.specs.General.{Off}

abbrev pub swapped : ℕ → ℕ → ℕ → List ℤ → List ℤ → List ℤ
swapped w v j q t = each_row (swap j q) w v t

-- The row less its number at j times q, column by column.
pub at_swap : (j : ℕ) (q r : List ℤ) (i : ℕ) → at (swap j q r) i ≡ at r i -ℤ at r j *ℤ at q i
at_swap j q r i = at_less (at r j) r q i

-- With quotient 0 at j, the unknown stays.
pub swap_stays : (j : ℕ) (q r : List ℤ) → at q j ≡ pos 0 → at (swap j q r) j ≡ at r j
swap_stays j q r h = at_swap j q r j ∙ ap (λ x. at r j -ℤ at r j *ℤ x) h ∙ law (at r j)
  where
    law : (a : ℤ) → a -ℤ a *ℤ pos 0 ≡ a
    law a = identity (a ∷ []) (search terms depth 20) (search terms depth 20) tt

-- With quotient 1, it is gone.
pub swap_gone : (j : ℕ) (q r : List ℤ) → at q j ≡ pos 1 → at (swap j q r) j ≡ pos 0
swap_gone j q r h = at_swap j q r j ∙ ap (λ x. at r j -ℤ at r j *ℤ x) h ∙ law (at r j)
  where
    law : (a : ℤ) → a -ℤ a *ℤ pos 1 ≡ pos 0
    law a = identity (a ∷ []) (search terms depth 20) (search terms depth 20) tt

module _ (u f j : ℕ) (q r : List ℤ) (oq : Off u f q) (o : Off u f r) where
  -- A column that is 0 in row and quotients stays 0.
  pub off_swap : Off u f (swap j q r)
  off_swap i a b = at_swap j q r i ∙ ap₂ (λ x y. x -ℤ at r j *ℤ y) (o i a b) (oq i a b) ∙ law (at r j)
    where
      law : (a : ℤ) → pos 0 -ℤ a *ℤ pos 0 ≡ pos 0
      law a = identity (a ∷ []) (search terms depth 20) (search terms depth 20) tt

  pub off_gone : at q j ≡ pos 1 → Off u (cleared f j) (swap j q r)
  off_gone h i a b = by_equal i j (λ e. subst (λ k. at (swap j q r) k ≡ pos 0) (sym e) (swap_gone j q r h)) (λ e. off_swap i a (sym (bit_cleared_other f j i e) ∙ b))

-- ---- lengths
module _ (w j : ℕ) (q : List ℤ) (lq : length q ≡ w) where
  pub length_swap : (r : List ℤ) → length r ≡ w → length (swap j q r) ≡ w
  length_swap r l = length_plus (neg_ℤ (at r j)) r q (omega arith) ∙ l

  pub length_swapped : (v : ℕ) (t : List ℤ) → length t ≡ v * w → length (swapped w v j q t) ≡ v * w
  length_swapped v t l = length_each (swap j q) w length_swap v t l
