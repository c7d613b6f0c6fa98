-- Sizes: the limit, and what fits a machine's number.
use Rattle.std.specs.Prelude.{◌≡◌, Bool, true, false, not, ℕ, ◌+◌, ◌*◌, ◌≤◌, ◌<◌, ◌^◌, T, leb, ltb, ℤ, neg_ℤ, ◌+ℤ◌, ◌-ℤ◌, ◌*ℤ◌, nat_abs, ◌≤ℤ◌, ◌<ℤ◌}
use Rattle.std.proofs.Common.{sym, subst, mul-le-mul, arith, leb-true, le-leb, ltb→lt}
use Rattle.std.specs.Int.Signed.{lt_z, le_z, lt_z_yes, lt_z_no, le_z_yes, nat_abs-le}
use Rattle.std.specs.Int.{Width, w32}
use mir.Val.{SFits, hbits}
use Rattle.whole.specs.Ring.{size_add, size_sub, size_neg, size_mul, mag_size}

-- "The limit is 100,000,000 in size, the limit itself allowed."
abbrev pub limit : ℕ
limit = 100000000

abbrev pub in_limit : ℤ → Bool
in_limit z = leb (nat_abs z) limit

-- ---- a bound that is carried along, and computed
pub record Within (n : ℕ) (z : ℤ) : Type 0 where
  pub within : nat_abs z ≤ n

pub within_limit : (z : ℤ) → in_limit z ≡ true → Within limit z
within_limit z e = record { within = leb-true (nat_abs z) limit e }

pub in_limit_lem : {z : ℤ} → Within limit z → in_limit z ≡ true
in_limit_lem {z} h = le-leb (nat_abs z) limit h.within

module _ {m n : ℕ} {a b : ℤ} (h : Within m a) (k : Within n b) where
  pub within_add : Within (m + n) (a +ℤ b)
  within_add = record { within = omega (arith, size_add a b, h.within, k.within) }

  pub within_sub : Within (m + n) (a -ℤ b)
  within_sub = record { within = omega (arith, size_sub a b, h.within, k.within) }

  pub within_mul : Within (m * n) (a *ℤ b)
  within_mul = record { within = subst (λ x. x ≤ m * n) (sym (size_mul a b)) (mul-le-mul h.within k.within) }

pub within_neg : {m : ℕ} {a : ℤ} → Within m a → Within m (neg_ℤ a)
within_neg {m} {a} h = record { within = omega (arith, size_neg a, h.within) }

pub within_more : {m n : ℕ} {a : ℤ} → Within m a → m ≤ n → Within n a
within_more h k = record { within = omega (arith, h.within) }

-- ---- what fits w bits
pub fits_size : (w : Width) (z : ℤ) → nat_abs z < 2 ^ hbits w → SFits w z
fits_size w z h = record { sfits = omega (arith, mag_size z) }

pub fits_within : {w : Width} {n : ℕ} {z : ℤ} → Within n z → T (ltb n (2 ^ hbits w)) → SFits w z
fits_within {w} {n} {z} h t = fits_size w z (omega (arith, h.within, ltb→lt n (2 ^ hbits w) t))

pub size_fits : {w : Width} {z : ℤ} → SFits w z → Within (2 ^ hbits w) z
size_fits {w} {z} h = record { within = nat_abs-le z h.sfits }

-- A number within the limit fits 32 bits.
pub limit_fits : (z : ℤ) → in_limit z ≡ true → SFits w32 z
limit_fits z e = fits_within (within_limit z e) tt

-- ---- what a test says
passed : {b : Bool} → b ≡ true → T b
passed e = subst T (sym e) tt

failed : {b : Bool} → b ≡ false → T (not b)
failed e = subst (λ b. T (not b)) (sym e) tt

module _ (a b : ℤ) where
  pub less_true : lt_z a b ≡ true → a <ℤ b
  less_true e = lt_z_yes (passed e)

  pub less_false : lt_z a b ≡ false → b ≤ℤ a
  less_false e = lt_z_no (failed e)

  pub most_true : le_z a b ≡ true → a ≤ℤ b
  most_true e = le_z_yes (passed e)
