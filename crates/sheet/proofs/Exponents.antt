-- Laws of bytes that are read as exponents.
use mathlib.Core.Path.{◌≡◌, refl, ap}
use mathlib.Core.Bool.{Bool}
use mathlib.Core.List.{List, [], ◌∷◌, map}
use Prim.Native.Nat.{ℕ, zero, suc, ◌-◌, ◌<◌}
use native.Mathlib.Omega.{arith}
use borrow.Author.Tests.{ne_eqb}
use lib.Dec.{eqb, eqb-suc-zero}
use lib.ListN.{take, drop, get_or}
use Rattle.std.specs.List.{list_all}
use Rattle.whole.specs.Bytes.{signed, signed_low, signed_high}
use Rattle.whole.specs.Cases.{both, by_less, by_test}
use Rattle.row.specs.Row.{all, is_zero}

module _ {A B : Type 0} (f : A → B) where
  pub all_map : (p : B → Bool) (s : List A) → all p (map f s) ≡ all (λ x. p (f x)) s
  unfolding all
  all_map p [] = refl
  all_map p (x ∷ s) = ap (both (p (f x))) (all_map p s)

  -- The code's `all` over bytes is the rules' `all` over what they hold.
  pub all_of_map : (p : B → Bool) (s : List A) → list_all (λ x. p (f x)) s ≡ all p (map f s)
  unfolding all
  all_of_map p [] = refl
  all_of_map p (x ∷ s) = by_test (p (f x)) (λ e. rw e (all_of_map p s)) (λ e. rw e)

  map_take : (n : ℕ) (s : List A) → map f (take n s) ≡ take n (map f s)
  map_take zero s = refl
  map_take (suc n) [] = refl
  map_take (suc n) (x ∷ s) = ap (λ t. f x ∷ t) (map_take n s)

  pub map_part : (n m : ℕ) (s : List A) → map f (take n (drop m s)) ≡ take n (drop m (map f s))
  map_part n zero s = map_take n s
  map_part n (suc m) [] = map_take n []
  map_part n (suc m) (x ∷ s) = map_part n m s

pub signed_zero : (b : ℕ) → b < 256 → is_zero (signed b) ≡ eqb b 0
signed_zero b h =
    by_less b 128
    (λ l. rw (signed_low b l))
    (λ l. let e : b ≡ 0 → ⊥ = λ z. omega arith in rw (signed_high b l h, ne_eqb b 0 e) (eqb-suc-zero (255 - b)))

-- A byte is 0 just where its exponent is.
pub zeros : (s : List ℕ) → ((i : ℕ) → get_or s i 0 < 256) → list_all (λ b. eqb b 0) s ≡ all is_zero (map signed s)
unfolding all
zeros [] h = refl
zeros (b ∷ s) h = by_test (eqb b 0) (λ e. rw (signed_zero b (h 0), e) (zeros s (λ i. h (suc i)))) (λ e. rw (signed_zero b (h 0), e))
