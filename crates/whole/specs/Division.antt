-- Division by a number above zero.
use Rattle.std.specs.Prelude.{◌≡◌, refl, ℕ, zero, suc, ◌*◌, ◌/◌, ◌<◌, ℤ, pos, negsuc, ◌+ℤ◌, ◌-ℤ◌, ◌*ℤ◌, nat_abs, ◌≤ℤ◌, ◌<ℤ◌}
use Rattle.std.proofs.Common.{sym, ◌∙◌, ap, div-add-mod', mod-lt, arith}
use Rattle.std.specs.Int.Signed.{quot_z, rem_z}
use Rattle.whole.specs.Difference.{differences, as_difference}
use Rattle.whole.specs.Ring.{size_mul, size_neg, size_zero, equal_by_difference}

-- "quotient q, remainder r with 0 ≤ r < p, x = qp + r": rounded down, so that −3 by 2 is −2, 1.
unfoldable pub quotient : ℤ → ℤ → ℤ
quotient (pos a) p = pos (a / nat_abs p)
quotient (negsuc a) p = negsuc (a / nat_abs p)

abbrev pub remainder : ℤ → ℤ → ℤ
remainder x p = x -ℤ quotient x p *ℤ p

pub record Divided (x p q r : ℤ) : Type 0 where
  pub whole : x ≡ q *ℤ p +ℤ r
  pub low : pos 0 ≤ℤ r
  pub high : r <ℤ p

-- Any division whose remainder is smaller than the divisor.
pub record Division (quo : ℤ → ℤ → ℤ) : Type 0 where
  pub small : (x p : ℤ) → pos 0 <ℤ p → nat_abs (x -ℤ quo x p *ℤ p) < nat_abs p

-- ---- of two divisions of the same numbers: one quotient, one remainder
apart : (x p q r s t : ℤ) → x ≡ q *ℤ p +ℤ r → x ≡ s *ℤ p +ℤ t → (q -ℤ s) *ℤ p ≡ t -ℤ r
apart x p q r s t = rw (as_difference x, as_difference p, as_difference q, as_difference r, as_difference s, as_difference t) (simp differences (omega arith))

close_by : (p r t : ℤ) → pos 0 ≤ℤ r → r <ℤ p → pos 0 ≤ℤ t → t <ℤ p → nat_abs (t -ℤ r) < nat_abs p
close_by p r t = rw (as_difference p, as_difference r, as_difference t) (simp differences (omega arith))

pub none_of : (m n : ℕ) → m * n < n → m ≡ 0
none_of zero n h = refl
none_of (suc m) n h = absurd (omega arith)

pub same_quotient : {x p q r s t : ℤ} → Divided x p q r → Divided x p s t → q ≡ s
same_quotient {x} {p} {q} {r} {s} {t} d e =
    let h : nat_abs (t -ℤ r) < nat_abs p = close_by p r t d.low d.high e.low e.high in
    let k : nat_abs (q -ℤ s) * nat_abs p ≡ nat_abs (t -ℤ r) = sym (size_mul (q -ℤ s) p) ∙ ap nat_abs (apart x p q r s t d.whole e.whole) in
    (equal_by_difference q s).0 (size_zero (q -ℤ s) (none_of (nat_abs (q -ℤ s)) (nat_abs p) (omega arith)))

rest_of : (x p q r t : ℤ) → x ≡ q *ℤ p +ℤ r → x ≡ q *ℤ p +ℤ t → r ≡ t
rest_of x p q r t = rw (as_difference x, as_difference p, as_difference q, as_difference r, as_difference t) (simp differences (omega arith))

pub same_remainder : {x p q r s t : ℤ} → Divided x p q r → Divided x p s t → r ≡ t
same_remainder {x} {p} {q} {r} {s} {t} d e = rest_of x p q r t d.whole (rw (same_quotient d e) e.whole)

-- ---- the machine's division, toward zero
pub above : (n : ℕ) → pos 0 <ℤ pos n → 0 < n
above n = simp differences (omega arith)

pub toward_zero : (x p : ℤ) → pos 0 <ℤ p → x ≡ quot_z x p *ℤ p +ℤ rem_z x p
toward_zero (pos a) (pos b) h = simp differences (omega (arith, div-add-mod' a b))
toward_zero (negsuc a) (pos b) h = simp differences (omega (arith, div-add-mod' (suc a) b))
toward_zero x (negsuc b) h = absurd h.lt

pub size_rem : (x p : ℤ) → pos 0 <ℤ p → nat_abs (rem_z x p) < nat_abs p
size_rem (pos a) (pos b) h = mod-lt a (above b h)
size_rem (negsuc a) (pos b) h = let k : 0 < b = above b h in simp size_neg (mod-lt (suc a) k)
size_rem x (negsuc b) h = absurd h.lt
