-- How `omega` reads whole numbers that are in scope:
--     omega (arith, orders, sum a b)
-- takes orders and equations of ℤ as hypotheses and proves them, with a record of facts for each compound number.
use Rattle.std.specs.Prelude.{◌≡◌, refl, ◌≢◌, suc, ◌+◌, ◌*◌, ◌<◌, ◌≤◌, min, ℤ, pos, negsuc, neg_ℤ, ◌+ℤ◌, ◌-ℤ◌, ◌*ℤ◌, nat_abs, ◌≤ℤ◌, ◌<ℤ◌}
use Rattle.std.proofs.Common.{arith}
use Rattle.std.specs.Int.Signed.{mag}
use Rattle.whole.specs.Difference.{up, down, from_parts, parts_le, parts_lt, parts_add, parts_mul, up_neg, down_neg}
use Rattle.whole.specs.Ring.{size_add, size_sub, size_mul}

module _ (z w : ℤ) where
  pub read_le : z ≤ℤ w → up z + down w ≤ up w + down z
  read_le h = (parts_le z w).0 h

  pub read_lt : z <ℤ w → up z + down w < up w + down z
  read_lt h = (parts_lt z w).0 h

  pub read_eq : z ≡ w → up z + down w ≡ up w + down z
  read_eq h = rw h refl

  pub show_le : up z + down w ≤ up w + down z → z ≤ℤ w
  show_le h = (parts_le z w).1 h

  pub show_lt : up z + down w < up w + down z → z <ℤ w
  show_lt h = (parts_lt z w).1 h

  -- An inequality goes into the list by itself.
  pub read_unequal : z ≢ w → up z + down w ≢ up w + down z
  read_unequal h e = h (from_parts z w e)

pub ruleset orders = (read_le, read_lt, read_eq, show_le, show_lt, from_parts)

-- ---- what is known of a number, a sum, a difference, a negation, a product. None of these splits the proof
pub record Number (z : ℤ) : Type 0 where
  pub size : nat_abs z ≡ up z + down z
  pub mag_below : mag z ≤ nat_abs z
  pub mag_above : nat_abs z ≤ suc (mag z)

pub number : (z : ℤ) → Number z
number (pos n) = record { size = omega arith; mag_below = omega arith; mag_above = omega arith }
number (negsuc n) = record { size = omega arith; mag_below = omega arith; mag_above = omega arith }

-- One of the two parts is 0. This one does split: at most six of them.
pub side : (z : ℤ) → min (up z) (down z) ≡ 0
side (pos n) = omega arith
side (negsuc n) = omega arith

pub record Sum (x y : ℤ) : Type 0 where
  pub is : up (x +ℤ y) + (down x + down y) ≡ (up x + up y) + down (x +ℤ y)
  pub it : Number (x +ℤ y)
  pub within : nat_abs (x +ℤ y) ≤ nat_abs x + nat_abs y

pub sum : (x y : ℤ) → Sum x y
sum x y = record { is = parts_add x y; it = number (x +ℤ y); within = size_add x y }

pub record Difference (x y : ℤ) : Type 0 where
  pub is : up (x -ℤ y) + (down x + up y) ≡ (up x + down y) + down (x -ℤ y)
  pub it : Number (x -ℤ y)
  pub within : nat_abs (x -ℤ y) ≤ nat_abs x + nat_abs y

pub difference : (x y : ℤ) → Difference x y
difference x y = record { is = omega (arith, parts_add x (neg_ℤ y), up_neg y, down_neg y); it = number (x -ℤ y); within = size_sub x y }

pub record Negation (x : ℤ) : Type 0 where
  pub high : up (neg_ℤ x) ≡ down x
  pub low : down (neg_ℤ x) ≡ up x
  pub it : Number (neg_ℤ x)

pub negation : (x : ℤ) → Negation x
negation x = record { high = up_neg x; low = down_neg x; it = number (neg_ℤ x) }

pub record Product (x y : ℤ) : Type 0 where
  pub is : up (x *ℤ y) + (up x * down y + down x * up y) ≡ (up x * up y + down x * down y) + down (x *ℤ y)
  pub it : Number (x *ℤ y)
  pub size : nat_abs (x *ℤ y) ≡ nat_abs x * nat_abs y

pub product : (x y : ℤ) → Product x y
product x y = record { is = parts_mul x y; it = number (x *ℤ y); size = size_mul x y }
