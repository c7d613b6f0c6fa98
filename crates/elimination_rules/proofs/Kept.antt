-- The table is kept: what each move of the elimination does to columns and lengths, and how a round counts.
use Rattle.std.specs.Prelude.{◌≡◌, true, List, ℕ, ◌<◌, length, ℤ, pos, neg_ℤ}
use Rattle.std.proofs.Common.{sym, ◌∙◌, ap, subst}
use Rattle.whole.specs.Division.{Division}
use Rattle.whole.specs.Word.{bit, cleared, count_cleared}
use Rattle.row.specs.Row.{at, all_in_limit}
use Rattle.row.specs.Tables.{rows_each}
use Rattle.elimination_rules.specs.Round.{swap, upright, round}
use Rattle.elimination_rules.specs.General.{Off, Kept}
use Rattle.elimination_rules.specs.Zeros.{sized}
use Rattle.elimination_rules.specs.Upright.{at_negated}
use Rattle.elimination_rules.proofs.Upright.{upright_ind, length_upright, size_upright, upright_positive}
use Rattle.elimination_rules.proofs.Swap.{swapped, length_swap, length_swapped, off_swap, off_gone, swap_stays}
use Rattle.elimination_rules.proofs.Ways.{round_ind}
use Rattle.elimination_rules.specs.Steps.{Quotients}
use Rattle.elimination_rules.proofs.Steps.{step_ind}
use Rattle.elimination_rules.specs.Kept.{still_free, picked_free, TurnKept}

module _ (u v w j : ℕ) (q t : List ℤ) (f : ℕ) (fits : all_in_limit (swapped w v j q t) ≡ true) (k : Kept u v w t f) where
  swapped_kept : (g : ℕ) → length q ≡ w → ((i : ℕ) → bit i g ≡ 1 → bit i f ≡ 1)
      → ((r : List ℤ) → Off u f r → Off u g (swap j q r)) → Kept u v w (swapped w v j q t) g
  swapped_kept g lq b o = record {
    free = λ i h. k.free i (b i h);
    zero_else = rows_each (swap j q) w (length_swap w j q lq) (Off u f) (Off u g) (λ r _. o r) v t k.long k.zero_else;
    long = length_swapped w j q lq v t k.long;
    limit = fits;
  }

  -- 6. The unknown stays.
  pub again_kept : Quotients u w f j (pos 0) q → Kept u v w (swapped w v j q t) f
  again_kept h = swapped_kept f h.long (λ i b. b) (λ r o. off_swap u f j q r h.off o)

  -- 5. "Its column is now 0 everywhere and no longer free."
  pub last_kept : Quotients u w f j (pos 1) q → Kept u v w (swapped w v j q t) (cleared f j)
  last_kept h = swapped_kept (cleared f j) h.long (λ i b. (still_free f j i b).0) (λ r o. off_gone u f j q r h.off o h.here)

-- ---- the equation is one in the free unknowns
pub upright_off : (u f : ℕ) (e : List ℤ) (j : ℕ) → Off u f e → Off u f (upright e j)
upright_off u f e j o i a b = upright_ind e j (λ l. at l i ≡ pos 0) (at_negated e i ∙ ap neg_ℤ (o i a b)) (o i a b)

-- ---- one round: a round that solves clears one set bit, and one that goes on leaves an unknown in the equation
pub round_kept : {quo : ℤ → ℤ → ℤ} → Division quo → (u v w : ℕ) (t e : List ℤ) (f : ℕ)
    → length e ≡ w → Off u f e → Kept u v w t f → TurnKept u v w e f (round quo u v t e f)
round_kept {quo} d u v w t e f le o k =
    round_ind quo u v w t f (TurnKept u v w e f) e (λ z _. (k, z)) (λ _ _. tt)
    (λ j p. let y = upright e j in let b : bit j f ≡ 1 = picked_free u f e j o p in
    step_ind u v w t f (TurnKept u v w e f) d y j (length_upright e j ∙ le) (upright_off u f e j o) (upright_positive e j p.some) (record {
      solves = λ q h _ l. (last_kept u v w j q t f l k h, count_cleared v f j (k.free j b) b);
      clashes = λ _ _ _ _ _. tt;
      goes_on = λ q h l. (
        again_kept u v w j q t f l k h,
        off_swap u f j q y h.off (upright_off u f e j o),
        length_swap w j q h.long y (length_upright e j ∙ le),
        record {
          place = j;
          among = p.below;
          is = λ z. sized (at y j) (subst (λ n. 0 < n) (sym (size_upright e j j)) p.some) (sym (swap_stays j q y h.here) ∙ z);
        },
      );
      widens = tt;
    }))
