-- The lowest place that is not good: as a search over the places finds it, and as a loop over them does.
use Rattle.std.proofs.Common.{◌≡◌, refl, sym, ◌∙◌, ap, ℕ, zero, suc, ◌+◌, ◌-◌, ◌≤◌, ◌<◌, Bool, true, false, not, Option, Some, None, arith}
use native.Mathlib.Nat.{sub-zero}
use Rattle.std.specs.List.{find, range_with_len}
use Rattle.std.specs.Option.{option_map}
use Rattle.whole.specs.Cases.{by_test}
use Rattle.whole.specs.Place.{place, nowhere, found_of, lowest}

lowest_find : (good : ℕ → Bool) (n i : ℕ) → lowest good n i ≡ found_of (find (λ j. not (good j)) (range_with_len i n))
unfolding lowest
lowest_find good zero i = refl
lowest_find good (suc n) i = by_test (good i) (λ e. rw e (lowest_find good n (i + 1))) (λ e. rw e)

same : (r : Option ℕ) → option_map (λ i. i) r ≡ r
same None = refl
same (Some i) = refl

pub found : (good : ℕ → Bool) (n : ℕ) (r : Option ℕ) → option_map (λ i. i) r ≡ find (λ j. not (good j)) (range_with_len 0 n) → lowest good n 0 ≡ found_of r
found good n r e = lowest_find good n 0 ∙ ap found_of (sym e ∙ same r)

-- ---- the invariant after i places: what is left is to look through the others.
pub record Looked (good : ℕ → Bool) (n i : ℕ) : Type 0 where
  pub left : lowest good n 0 ≡ lowest good (n - i) i

pub looked_none : {good : ℕ → Bool} {n : ℕ} → Looked good n 0
looked_none = record { left = rw sub-zero }

module _ {good : ℕ → Bool} {n i : ℕ} (L : Looked good n i) where
  one_more : i < n → n - i ≡ suc (n - (i + 1))
  one_more h = omega arith

  pub looked_more : i < n → good i ≡ true → Looked good n (i + 1)
  unfolding lowest
  looked_more h e = record { left = L.left ∙ rw (one_more h, e) }

  pub looked_stop : i < n → good i ≡ false → lowest good n 0 ≡ place i
  unfolding lowest
  looked_stop h e = L.left ∙ rw (one_more h, e)

  pub looked_all : n ≤ i → lowest good n 0 ≡ nowhere
  unfolding lowest
  looked_all h = let z : n - i ≡ 0 = omega arith in L.left ∙ rw z
