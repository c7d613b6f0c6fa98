-- The laws of division by a number above zero.
use Rattle.std.specs.Prelude.{◌≡◌, [], ◌∷◌, ◌/◌, ◌≤◌, ◌<◌, ℤ, pos, negsuc, ◌+ℤ◌, ◌-ℤ◌, ◌*ℤ◌, nat_abs, ◌≤ℤ◌, ◌<ℤ◌}
use Rattle.std.proofs.Common.{div-add-mod', mod-lt, div-le_self, arith, SFits}
use Rattle.std.specs.Int.Signed.{quot_z, rem_z, mag}
use Rattle.std.specs.Int.{Width}
use Rattle.whole.specs.Difference.{differences, as_difference}
use Rattle.whole.specs.Identity.{identity, terms}
use Rattle.whole.specs.Division.{quotient, remainder, Divided, Division, above, same_quotient, same_remainder, toward_zero, size_rem}

-- ---- the quotient and the remainder are what the document says, and the only ones
back : (x q p : ℤ) → x ≡ q *ℤ p +ℤ (x -ℤ q *ℤ p)
back x q p = identity (x ∷ q ∷ p ∷ []) (search terms depth 20) (search terms depth 20) tt

pub divided : (x p : ℤ) → pos 0 <ℤ p → Divided x p (quotient x p) (remainder x p)
unfolding quotient
divided (pos a) (pos b) h =
    let k : 0 < b = above b h in
    record {
      whole = back (pos a) (pos (a / b)) (pos b);
      low = simp differences (omega (arith, div-add-mod' a b));
      high = simp differences (omega (arith, div-add-mod' a b, mod-lt a k));
    }
divided (negsuc a) (pos b) h =
    let k : 0 < b = above b h in
    record {
      whole = back (negsuc a) (negsuc (a / b)) (pos b);
      low = simp differences (omega (arith, div-add-mod' a b, mod-lt a k));
      high = simp differences (omega (arith, div-add-mod' a b));
    }
divided x (negsuc b) h = absurd h.lt

small_of : (x p q r : ℤ) → x ≡ q *ℤ p +ℤ r → pos 0 ≤ℤ r → r <ℤ p → nat_abs (x -ℤ q *ℤ p) < nat_abs p
small_of x p q r = rw (as_difference x, as_difference p, as_difference q, as_difference r) (simp differences (omega arith))

-- Document 01's division is one of those.
pub rounded_down : Division quotient
rounded_down = record { small = λ x p h. let d = divided x p h in small_of x p (quotient x p) (remainder x p) d.whole d.low d.high }

-- ---- how the other is made of the machine's
down_of : (x p q r : ℤ) → x ≡ q *ℤ p +ℤ r → nat_abs r < nat_abs p → pos 0 <ℤ p → r <ℤ pos 0 → (x ≡ (q -ℤ pos 1) *ℤ p +ℤ (r +ℤ p)) × (pos 0 ≤ℤ (r +ℤ p)) × ((r +ℤ p) <ℤ p)
down_of x p q r = rw (as_difference x, as_difference p, as_difference q, as_difference r) (simp differences (omega arith))

high_of : (p r : ℤ) → nat_abs r < nat_abs p → pos 0 <ℤ p → r <ℤ p
high_of p r = rw (as_difference p, as_difference r) (simp differences (omega arith))

module _ (x p : ℤ) (h : pos 0 <ℤ p) where
  -- Where the machine's remainder is below zero: one less, and a divisor more.
  lowered : rem_z x p <ℤ pos 0 → Divided x p (quot_z x p -ℤ pos 1) (rem_z x p +ℤ p)
  lowered k = let d = down_of x p (quot_z x p) (rem_z x p) (toward_zero x p h) (size_rem x p h) h k in record { whole = d.0; low = d.1; high = d.2 }

  kept : pos 0 ≤ℤ rem_z x p → Divided x p (quot_z x p) (rem_z x p)
  kept k = record { whole = toward_zero x p h; low = k; high = high_of p (rem_z x p) (size_rem x p h) h }

  pub lowered_quotient : rem_z x p <ℤ pos 0 → quot_z x p -ℤ pos 1 ≡ quotient x p
  lowered_quotient k = same_quotient (lowered k) (divided x p h)

  pub lowered_remainder : rem_z x p <ℤ pos 0 → rem_z x p +ℤ p ≡ remainder x p
  lowered_remainder k = same_remainder (lowered k) (divided x p h)

  pub kept_quotient : pos 0 ≤ℤ rem_z x p → quot_z x p ≡ quotient x p
  kept_quotient k = same_quotient (kept k) (divided x p h)

  pub kept_remainder : pos 0 ≤ℤ rem_z x p → rem_z x p ≡ remainder x p
  kept_remainder k = same_remainder (kept k) (divided x p h)

-- ---- neither grows: the quotient fits where the dividend does, the remainder where the divisor does
pub size_quotient : (x p : ℤ) → nat_abs (quotient x p) ≤ nat_abs x
unfolding quotient
size_quotient (pos a) p = div-le_self a (nat_abs p)
size_quotient (negsuc a) p = omega (arith, div-le_self a (nat_abs p))

mag_quotient : (x p : ℤ) → mag (quotient x p) ≤ mag x
unfolding quotient
mag_quotient (pos a) p = div-le_self a (nat_abs p)
mag_quotient (negsuc a) p = div-le_self a (nat_abs p)

pub quotient_fits : {w : Width} {x : ℤ} (p : ℤ) → SFits w x → SFits w (quotient x p)
quotient_fits {w} {x} p f = record { sfits = omega (arith, mag_quotient x p, f.sfits) }

mag_below : (r p : ℤ) → pos 0 ≤ℤ r → r <ℤ p → mag r ≤ mag p
mag_below r p = rw (as_difference r, as_difference p) (simp differences (omega arith))

pub remainder_fits : {w : Width} {p : ℤ} (x : ℤ) → pos 0 <ℤ p → SFits w p → SFits w (remainder x p)
remainder_fits {w} {p} x h f = let d = divided x p h in record { sfits = omega (arith, mag_below (remainder x p) p d.low d.high, f.sfits) }
