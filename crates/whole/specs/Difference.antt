-- A whole number is a difference of two natural ones, so that `omega` decides what is linear in ℤ:
--     law a b = rw (as-difference a, as-difference b) (simp differences (omega arith))
-- proves an identity, an order or a bound in a and b, with its hypotheses left unbound. Degree 2 at the most.
use Rattle.std.specs.Prelude.{◌≡◌, refl, ◌↔◌, Bool, true, false, not, cond, ℕ, zero, suc, ◌+◌, ◌*◌, ◌-◌, ◌<◌, ◌≤◌, ◌^◌, T, ltb, ◌≤ℤ◌, ◌<ℤ◌, ℤ, pos, negsuc, neg_ℤ, ◌+ℤ◌, ◌*ℤ◌, nat_abs}
use Rattle.std.proofs.Math.Path.{ap}
use Rattle.std.proofs.Common.{arith, ltb→lt, nltb→le, leb→le, le→leb, lt→ltb}
use Rattle.std.specs.Int.Signed.{mag}
use Rattle.std.specs.Int.{Width}
use mir.Val.{SFits, hbits}
use Rattle.std.proofs.Math.IntN.{sub_ℕ}

-- What stands above zero, and what below.
abbrev pub up : ℤ → ℕ
up (pos n) = n
up (negsuc n) = 0

abbrev pub down : ℤ → ℕ
down (pos n) = 0
down (negsuc n) = suc n

infix 55 ◌⊖◌
unfoldable pub ◌⊖◌ : ℕ → ℕ → ℤ
a ⊖ b = sub_ℕ a b

-- ---- a number by its two parts
pub from_parts : (z w : ℤ) → up z + down w ≡ up w + down z → z ≡ w
from_parts (pos m) (pos n) e = ap pos (omega arith)
from_parts (pos m) (negsuc n) e = absurd (omega arith)
from_parts (negsuc m) (pos n) e = absurd (omega arith)
from_parts (negsuc m) (negsuc n) e = ap negsuc (omega arith)

cond_ind : (c : Bool) (x y : ℤ) (P : ℤ → Type 0) → (T c → P x) → (T (not c) → P y) → P (cond c x y)
cond_ind true x y P f g = f tt
cond_ind false x y P f g = g tt

parts : (a b : ℕ) → up (sub_ℕ a b) + b ≡ a + down (sub_ℕ a b)
parts a b =
    cond_ind (ltb a b) (negsuc (b - suc a)) (pos (a - b)) (λ z. up z + b ≡ a + down z)
    (λ t. omega (arith, ltb→lt a b t))
    (λ t. omega (arith, nltb→le a b t))

pub up_neg : (x : ℤ) → up (neg_ℤ x) ≡ down x
up_neg (pos zero) = refl
up_neg (pos (suc n)) = refl
up_neg (negsuc n) = refl

pub down_neg : (x : ℤ) → down (neg_ℤ x) ≡ up x
down_neg (pos zero) = refl
down_neg (pos (suc n)) = refl
down_neg (negsuc n) = refl

pub parts_add : (x y : ℤ) → up (x +ℤ y) + (down x + down y) ≡ (up x + up y) + down (x +ℤ y)
parts_add (pos a) (pos b) = omega arith
parts_add (pos a) (negsuc b) = omega (arith, parts a (suc b))
parts_add (negsuc a) (pos b) = omega (arith, parts b (suc a))
parts_add (negsuc a) (negsuc b) = omega arith

pub parts_mul : (x y : ℤ) → up (x *ℤ y) + (up x * down y + down x * up y) ≡ (up x * up y + down x * down y) + down (x *ℤ y)
parts_mul (pos a) (pos b) = omega arith
parts_mul (pos a) (negsuc b) = omega (arith, up_neg (pos (a * suc b)), down_neg (pos (a * suc b)))
parts_mul (negsuc a) (pos b) = omega (arith, up_neg (pos (suc a * b)), down_neg (pos (suc a * b)))
parts_mul (negsuc a) (negsuc b) = omega arith

pub parts_le : (z w : ℤ) → (z ≤ℤ w) ↔ (up z + down w ≤ up w + down z)
parts_le (pos m) (pos n) = (λ h. omega (arith, leb→le m n h.le), λ h. record { le = le→leb m n (omega arith) })
parts_le (pos m) (negsuc n) = (λ h. absurd h.le, λ h. absurd (omega arith))
parts_le (negsuc m) (pos n) = (λ h. omega arith, λ h. record { le = tt })
parts_le (negsuc m) (negsuc n) = (λ h. omega (arith, leb→le n m h.le), λ h. record { le = le→leb n m (omega arith) })

pub parts_lt : (z w : ℤ) → (z <ℤ w) ↔ (up z + down w < up w + down z)
parts_lt (pos m) (pos n) = (λ h. omega (arith, ltb→lt m n h.lt), λ h. record { lt = lt→ltb m n (omega arith) })
parts_lt (pos m) (negsuc n) = (λ h. absurd h.lt, λ h. absurd (omega arith))
parts_lt (negsuc m) (pos n) = (λ h. omega arith, λ h. record { lt = tt })
parts_lt (negsuc m) (negsuc n) = (λ h. omega (arith, ltb→lt n m h.lt), λ h. record { lt = lt→ltb n m (omega arith) })

parts_abs : (z : ℤ) → nat_abs z ≡ (up z - down z) + (down z - up z)
parts_abs (pos n) = omega arith
parts_abs (negsuc n) = omega arith

parts_mag : (z : ℤ) → mag z ≡ (up z - down z) + (down z - suc (up z))
parts_mag (pos n) = omega arith
parts_mag (negsuc n) = omega arith

-- ---- a number as a difference, and what becomes of differences
pub as_difference : (z : ℤ) → z ≡ up z ⊖ down z
unfolding ◌⊖◌
as_difference z = from_parts z (up z ⊖ down z) (omega (arith, parts (up z) (down z)))

pub pos_difference : (n : ℕ) → pos n ≡ n ⊖ 0
unfolding ◌⊖◌
pos_difference n = from_parts (pos n) (n ⊖ 0) (omega (arith, parts n 0))

pub negsuc_difference : (n : ℕ) → negsuc n ≡ 0 ⊖ suc n
unfolding ◌⊖◌
negsuc_difference n = from_parts (negsuc n) (0 ⊖ suc n) (omega (arith, parts 0 (suc n)))

module _ (a b : ℕ) where
  pub difference_neg : neg_ℤ (a ⊖ b) ≡ b ⊖ a
  unfolding ◌⊖◌
  difference_neg = from_parts (neg_ℤ (a ⊖ b)) (b ⊖ a) (omega (arith, parts a b, parts b a, up_neg (a ⊖ b), down_neg (a ⊖ b)))

  pub difference_abs : nat_abs (a ⊖ b) ≡ (a - b) + (b - a)
  unfolding ◌⊖◌
  difference_abs = omega (arith, parts_abs (a ⊖ b), parts a b)

  pub difference_mag : mag (a ⊖ b) ≡ (a - b) + (b - suc a)
  unfolding ◌⊖◌
  difference_mag = omega (arith, parts_mag (a ⊖ b), parts a b)

module _ (a b c d : ℕ) where
  pub difference_eq : (a ⊖ b ≡ c ⊖ d) ↔ (a + d ≡ c + b)
  unfolding ◌⊖◌
  difference_eq =
      (λ e. omega (arith, parts a b, parts c d, ap up e, ap down e), λ e. from_parts (a ⊖ b) (c ⊖ d) (omega (arith, parts a b, parts c d)))

  pub difference_le : (a ⊖ b ≤ℤ c ⊖ d) ↔ (a + d ≤ c + b)
  unfolding ◌⊖◌
  difference_le =
      (λ h. omega (arith, parts a b, parts c d, (parts_le (a ⊖ b) (c ⊖ d)).0 h), λ h. (parts_le (a ⊖ b) (c ⊖ d)).1 (omega (arith, parts a b, parts c d)))

  pub difference_lt : (a ⊖ b <ℤ c ⊖ d) ↔ (a + d < c + b)
  unfolding ◌⊖◌
  difference_lt =
      (λ h. omega (arith, parts a b, parts c d, (parts_lt (a ⊖ b) (c ⊖ d)).0 h), λ h. (parts_lt (a ⊖ b) (c ⊖ d)).1 (omega (arith, parts a b, parts c d)))

  pub difference_add : (a ⊖ b) +ℤ (c ⊖ d) ≡ (a + c) ⊖ (b + d)
  unfolding ◌⊖◌
  difference_add =
      from_parts ((a ⊖ b) +ℤ (c ⊖ d)) ((a + c) ⊖ (b + d))
      (omega (arith, parts a b, parts c d, parts (a + c) (b + d), parts_add (a ⊖ b) (c ⊖ d)))

  pub difference_mul : (a ⊖ b) *ℤ (c ⊖ d) ≡ (a * c + b * d) ⊖ (a * d + b * c)
  unfolding ◌⊖◌
  difference_mul =
      let e : up (a ⊖ b) + b ≡ a + down (a ⊖ b) = parts a b in
      let f : up (c ⊖ d) + d ≡ c + down (c ⊖ d) = parts c d in
      from_parts ((a ⊖ b) *ℤ (c ⊖ d)) ((a * c + b * d) ⊖ (a * d + b * c))
      (omega
      (arith, ap (λ n. n * c) e, ap (λ n. n * d) e, ap (λ n. up (a ⊖ b) * n) f, ap (λ n. down (a ⊖ b) * n) f, parts_mul (a ⊖ b) (c ⊖ d), parts (a * c + b * d) (a * d + b * c)))

pub fits_mag : (w : Width) (z : ℤ) → SFits w z ↔ (mag z < 2 ^ hbits w)
fits_mag w z = (λ h. h.sfits, λ h. record { sfits = h })

pub ruleset differences = (difference_add, difference_neg, difference_mul, pos_difference, negsuc_difference, difference_eq, difference_le, difference_lt, difference_abs, difference_mag, fits_mag)
