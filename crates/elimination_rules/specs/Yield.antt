-- What a table makes of a choice, and how a choice moves when an unknown is replaced.
use Rattle.std.specs.Prelude.{◌≡◌, refl, ◌≢◌, List, [], ◌∷◌, ◌++◌, ℕ, zero, suc, ◌+◌, ◌≤◌, ◌<◌, drop, ℤ, pos, ◌+ℤ◌, ◌*ℤ◌}
use Rattle.std.proofs.Math.Path.{ap}
use Rattle.std.proofs.Common.{sym, ◌∙◌, arith, get_or-drop}
use Rattle.std.proofs.Math.ListN.{get_or-append}
use Rattle.whole.specs.Identity.{identity, terms}
use Rattle.row.specs.Row.{at, plus, dot, single}
use Rattle.row.specs.Table.{row_values}
use Rattle.row.specs.Values.{at_plus, dot_plus, dot_same, dot_single, single_other}
use Rattle.row.specs.Tables.{length_values, past, values_same}

-- ---- c times the value of q added in column j
unfoldable pub moved : ℤ → List ℤ → ℕ → List ℤ → List ℤ
moved c q j z = plus (c *ℤ dot q z) z (single j)

module _ (c : ℤ) (q : List ℤ) (j : ℕ) (z : List ℤ) where
  pub dot_moved : (r : List ℤ) → dot r (moved c q j z) ≡ dot r z +ℤ c *ℤ dot q z *ℤ at r j
  unfolding moved
  dot_moved r = dot_plus (c *ℤ dot q z) r z (single j) ∙ ap (λ a. dot r z +ℤ c *ℤ dot q z *ℤ a) (dot_single r j)

  pub at_moved : (i : ℕ) → at (moved c q j z) i ≡ at z i +ℤ c *ℤ dot q z *ℤ at (single j) i
  unfolding moved
  at_moved i = at_plus (c *ℤ dot q z) z (single j) i

  pub moved_other : (i : ℕ) → i ≢ j → at (moved c q j z) i ≡ at z i
  moved_other i h = at_moved i ∙ ap (λ n. at z i +ℤ c *ℤ dot q z *ℤ n) (single_other j i h) ∙ law (at z i) c (dot q z)
    where
      law : (a c d : ℤ) → a +ℤ c *ℤ d *ℤ pos 0 ≡ a
      law a c d = identity (a ∷ c ∷ d ∷ []) (search terms depth 20) (search terms depth 20) tt

-- ---- each unknown its row's value, and what has no row as it is
abbrev pub yield : ℕ → ℕ → List ℤ → List ℤ → List ℤ
yield w v t z = row_values w v t z ++ drop v z

module _ (w v : ℕ) (t z : List ℤ) (i : ℕ) where
  pub yield_row : i < v → at (yield w v t z) i ≡ at (row_values w v t z) i
  yield_row h = get_or-append (row_values w v t z) (drop v z) (pos 0) i (omega (arith, length_values w v t z))

  pub yield_past : v ≤ i → at (yield w v t z) i ≡ at z i
  yield_past h = past (row_values w v t z) z v i (length_values w v t z) h

append_same : (l y z : List ℤ) → ((i : ℕ) → at y i ≡ at z i) → (i : ℕ) → at (l ++ y) i ≡ at (l ++ z) i
append_same [] y z h i = h i
append_same (x ∷ l) y z h zero = refl
append_same (x ∷ l) y z h (suc i) = append_same l y z h i

pub yield_same : (w v : ℕ) (t y z : List ℤ) → ((i : ℕ) → at y i ≡ at z i) → (i : ℕ) → at (yield w v t y) i ≡ at (yield w v t z) i
yield_same w v t y z h i =
    ap (λ l. at (l ++ drop v y) i) (values_same w v t y z (λ r. dot_same r y z h))
    ∙ append_same (row_values w v t z) (drop v y) (drop v z) (λ k. get_or-drop v y k (pos 0) ∙ h (v + k) ∙ sym (get_or-drop v z k (pos 0))) i
