-- The laws of ℤ that the kit lacks: products, sizes, cancellation.
use Rattle.std.specs.Prelude.{◌≡◌, refl, ◌≢◌, ◌↔◌, ℕ, zero, suc, ◌+◌, ◌*◌, ◌≤◌, ℤ, pos, negsuc, neg_ℤ, ◌+ℤ◌, ◌-ℤ◌, ◌*ℤ◌, nat_abs}
use Rattle.std.proofs.Common.{sym, ◌∙◌, ap, arith}
use Rattle.std.specs.Int.Signed.{mag}
use Rattle.whole.specs.Difference.{differences, as_difference}

module _ (a b c : ℤ) where
  pub mul_assoc : a *ℤ b *ℤ c ≡ a *ℤ (b *ℤ c)
  mul_assoc = rw (as_difference a, as_difference b, as_difference c) (simp differences (omega arith))

  pub mul_left_comm : a *ℤ (b *ℤ c) ≡ b *ℤ (a *ℤ c)
  mul_left_comm = rw (as_difference a, as_difference b, as_difference c) (simp differences (omega arith))

  pub add_left_comm : a +ℤ (b +ℤ c) ≡ b +ℤ (a +ℤ c)
  add_left_comm = rw (as_difference a, as_difference b, as_difference c) (simp differences (omega arith))

  pub mul_add : a *ℤ (b +ℤ c) ≡ a *ℤ b +ℤ a *ℤ c
  mul_add = rw (as_difference a, as_difference b, as_difference c) (simp differences (omega arith))

  pub add_mul : (a +ℤ b) *ℤ c ≡ a *ℤ c +ℤ b *ℤ c
  add_mul = rw (as_difference a, as_difference b, as_difference c) (simp differences (omega arith))

pub one_mul : (a : ℤ) → pos 1 *ℤ a ≡ a
one_mul a = rw (as_difference a) (simp differences (omega arith))

pub minus_one_mul : (a : ℤ) → negsuc 0 *ℤ a ≡ neg_ℤ a
minus_one_mul a = rw (as_difference a) (simp differences (omega arith))

pub equal_by_difference : (a b : ℤ) → (a -ℤ b ≡ pos 0) ↔ (a ≡ b)
equal_by_difference a b = rw (as_difference a, as_difference b) (simp differences (omega arith))

-- ---- sizes
pub size_add : (a b : ℤ) → nat_abs (a +ℤ b) ≤ nat_abs a + nat_abs b
size_add a b = rw (as_difference a, as_difference b) (simp differences (omega arith))

pub size_sub : (a b : ℤ) → nat_abs (a -ℤ b) ≤ nat_abs a + nat_abs b
size_sub a b = rw (as_difference a, as_difference b) (simp differences (omega arith))

pub size_neg : (a : ℤ) → nat_abs (neg_ℤ a) ≡ nat_abs a
size_neg a = rw (as_difference a) (simp differences (omega arith))

pub size_mul : (a b : ℤ) → nat_abs (a *ℤ b) ≡ nat_abs a * nat_abs b
size_mul (pos a) (pos b) = refl
size_mul (pos a) (negsuc b) = size_neg (pos (a * suc b))
size_mul (negsuc a) (pos b) = size_neg (pos (suc a * b))
size_mul (negsuc a) (negsuc b) = refl

pub size_zero : (a : ℤ) → nat_abs a ≡ 0 → a ≡ pos 0
size_zero a = rw (as_difference a) (simp differences (omega arith))

pub mag_size : (a : ℤ) → mag a ≤ nat_abs a
mag_size a = rw (as_difference a) (simp differences (omega arith))

-- ---- no zero divisors, and cancellation
some_zero : (m n : ℕ) → (m ≡ 0 → ⊥) → m * n ≡ 0 → n ≡ 0
some_zero zero n h e = absurd (h refl)
some_zero (suc m) n h e = omega arith

pub no_divisors : (p x : ℤ) → p ≢ pos 0 → p *ℤ x ≡ pos 0 → x ≡ pos 0
no_divisors p x h e = size_zero x (some_zero (nat_abs p) (nat_abs x) (λ z. h (size_zero p z)) (sym (size_mul p x) ∙ ap nat_abs e))

zero_product : (p x y : ℤ) → p *ℤ x ≡ p *ℤ y → p *ℤ (x -ℤ y) ≡ pos 0
zero_product p x y = rw (as_difference p, as_difference x, as_difference y) (simp differences (omega arith))

pub cancel : (p x y : ℤ) → p ≢ pos 0 → p *ℤ x ≡ p *ℤ y → x ≡ y
cancel p x y h e = (equal_by_difference x y).0 (no_divisors p (x -ℤ y) h (zero_product p x y e))
