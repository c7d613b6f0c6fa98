-- A signed number in code is held by its bits. These laws bring it back, and say which results fit.
use mathlib.Core.Path.{◌≡◌, refl, sym, subst}
use mathlib.Core.Bool.{true, false}
use Prim.Native.Nat.{ℕ, zero, suc, ◌-◌, ◌/◌, ◌≤◌, ◌<◌, ◌^◌}
use native.Mathlib.Nat.{div-le_self}
use native.Mathlib.Omega.{arith}
use borrow.Author.Rules.{sfits_of}
use borrow.Author.Tests.{lt-leb, le-leb, ltb-true, ltb-false}
use lib.Dec.{T, ltb→lt}
use lib.IntN.{ℤ, pos, negsuc, neg_ℤ, nat_abs, ◌+ℤ◌, ◌-ℤ◌, ◌*ℤ◌, +ℤ_idl}
use lib.Signed.{◌<ℤ◌, lt_z, le_z, non_neg, mag, quot_z, rem_z, mag_rem}
use mir.Syntax.{Width, w32, w64}
use mir.Val.{Fits, SFits, to_z, of_z, hbits}
use mir.Facts.{to_z-of_z, sfits_widen}
use Rattle.whole.specs.Size.{Within, in_limit, limit, within_limit, within_add, within_sub, within_neg, within_mul, size_fits, fits_within, limit_fits}
use Rattle.std.specs.Prelude.{Result, Ok}
use Rattle.whole.specs.declared.number.PastLimit.{PastLimit}
use Rattle.whole.specs.Judge.{judge, judge_ok}

-- A parameter's, or any number's, of which it is known that it fits.
pub back : {w : Width} {z : ℤ} → SFits w z → to_z w (of_z w z) ≡ z
back f = to_z-of_z f

-- An element's, or a call's result, of which the bound alone is known.
pub read : (w : Width) (z : ℤ) → mag z < 2 ^ hbits w → to_z w (of_z w z) ≡ z
read w z h = to_z-of_z (sfits_of h)

pub wider : {z : ℤ} → SFits w32 z → SFits w64 z
wider f = sfits_widen tt f

-- ---- products and sums in 64 bits
pub product_fits : {f y : ℤ} → SFits w32 f → SFits w32 y → SFits w64 (f *ℤ y)
product_fits p q = fits_within (within_mul (size_fits p) (size_fits q)) tt

pub less_fits : {x f y : ℤ} → SFits w32 x → SFits w32 f → SFits w32 y → SFits w64 (x -ℤ f *ℤ y)
less_fits p q r = fits_within (within_sub (size_fits p) (within_mul (size_fits q) (size_fits r))) tt

pub plus_fits : {x f y : ℤ} → Within 4000000000000000000 x → SFits w32 f → SFits w32 y → SFits w64 (x +ℤ f *ℤ y)
plus_fits p q r = fits_within (within_add p (within_mul (size_fits q) (size_fits r))) tt

-- ---- the size, the negation
pub zero_less : (z : ℤ) → pos 0 -ℤ z ≡ neg_ℤ z
zero_less z = +ℤ_idl (neg_ℤ z)

pub not_negative_minus : (z : ℤ) → lt_z z (pos 0) ≡ true → T (non_neg (neg_ℤ z))
not_negative_minus (pos a) e = absurd (omega (arith, ltb-true a 0 e))
not_negative_minus (negsuc a) e = tt

pub not_negative : (z : ℤ) → lt_z z (pos 0) ≡ false → T (non_neg z)
not_negative (pos a) e = tt
not_negative (negsuc a) e = subst T e tt

pub size_unsigned : {z : ℤ} → SFits w32 z → Fits w32 (nat_abs z)
size_unsigned {z} f = record { fits = omega (arith, (size_fits f).within) }

pub minus_fits : {z : ℤ} → SFits w32 z → SFits w64 (neg_ℤ z)
minus_fits f = fits_within (within_neg (size_fits f)) tt

pub minus_in_limit : (z : ℤ) → in_limit z ≡ true → SFits w32 (neg_ℤ z)
minus_in_limit z e = fits_within (within_neg (within_limit z e)) tt

-- ---- the limit
pub below_limit : (z : ℤ) → lt_z z (negsuc 99999999) ≡ true → false ≡ in_limit z
below_limit (pos a) e = cc
below_limit (negsuc a) e = sym (lt-leb (suc a) limit (omega (arith, ltb-true 99999999 a e)))

pub not_below_limit : (z : ℤ) → lt_z z (negsuc 99999999) ≡ false → le_z z (pos limit) ≡ in_limit z
not_below_limit (pos a) e = refl
not_below_limit (negsuc a) e = sym (le-leb (suc a) limit (omega (arith, ltb-false 99999999 a e)))

-- ---- a number that was judged, as the code holds it
pub judged_number : {x y : ℤ} {r : Result ℤ PastLimit} → r ≡ judge x → r ≡ Ok y → (to_z w32 (of_z w32 y) ≡ x) × (in_limit x ≡ true)
judged_number {x} {y} {r} e k =
    let j : (y ≡ x) × (in_limit x ≡ true) = judge_ok x r e k in
    (subst (λ z. to_z w32 (of_z w32 z) ≡ x) (sym j.0) (back (limit_fits x j.1)), j.1)

-- ---- the machine's division
mag_minus : (n : ℕ) → mag (neg_ℤ (pos n)) ≤ n - 1
mag_minus zero = omega arith
mag_minus (suc n) = omega arith

mag_quot : (x p : ℤ) → pos 0 <ℤ p → mag (quot_z x p) ≤ mag x
mag_quot (pos a) (pos b) h = div-le_self a b
mag_quot (negsuc a) (pos b) h = omega (arith, mag_minus (suc a / b), div-le_self (suc a) b)
mag_quot x (negsuc b) h = absurd h.lt

pub quot_fits : {w : Width} (x p : ℤ) → pos 0 <ℤ p → SFits w x → SFits w (quot_z x p)
quot_fits x p h f = record { sfits = omega (arith, mag_quot x p h, f.sfits) }

pub rem_fits : {w : Width} (x p : ℤ) → SFits w x → SFits w (rem_z x p)
rem_fits x p f = record { sfits = omega (arith, mag_rem x p, f.sfits) }

pub above_zero : (w : Width) (p : ℤ) → pos 0 <ℤ p → 0 < of_z w p
above_zero w (pos n) h = ltb→lt 0 n h.lt
above_zero w (negsuc n) h = absurd h.lt
