-- The smallest unknown's size, and the table after a round.
use Rattle.std.specs.Prelude.{◌≡◌, true, List, ℕ, ◌*◌, ◌≤◌, ◌<◌, length, take, ℤ, pos, nat_abs}
use Rattle.std.proofs.Common.{ap, arith, leb-true}
use Rattle.std.proofs.Math.ListN.{get_or-eq_default}
use Rattle.whole.specs.Cases.{by_less}
use Rattle.whole.specs.Size.{limit, in_limit}
use Rattle.row.specs.Row.{at, all_in_limit}
use Rattle.row.specs.Smallest.{Pick, nothing, column, smallest, size_of}
use Rattle.row.specs.Smaller.{Least}
use Rattle.row.specs.Tables.{all_at}
use Rattle.elimination_rules.specs.Round.{Turn, holds, solved, again, clash, wide}
use Rattle.elimination_rules.specs.Upright.{least_unknown}

-- The smallest size is at most that of any unknown that is there.
pub smallest_of : (u : ℕ) (e : List ℤ) (i : ℕ) → i < u → 0 < nat_abs (at e i) → (0 < size_of (smallest (take u e))) × (size_of (smallest (take u e)) ≤ nat_abs (at e i))
smallest_of u e i h p = by (smallest (take u e)) (least_unknown u e)
  where
    by : (b : Pick) → Least e u b → (0 < size_of b) × (size_of b ≤ nat_abs (at e i))
    by nothing l = absurd (omega (arith, l i h))
    by (column j a) l = (l.2, l.3 i h p)

pub size_in_limit : (e : List ℤ) (i : ℕ) → all_in_limit e ≡ true → nat_abs (at e i) ≤ limit
size_in_limit e i h =
    by_less i (length e) (λ l. leb-true (nat_abs (at e i)) limit (all_at in_limit (pos 0) e i h l))
    (λ l. omega (arith, ap nat_abs (get_or-eq_default e (pos 0) l)))

-- The smallest size of an equation within the limit, so that more fuel than that is enough.
pub smallest_in_limit : (u : ℕ) (e : List ℤ) → all_in_limit e ≡ true → size_of (smallest (take u e)) ≤ limit
smallest_in_limit u e h = by (smallest (take u e)) (least_unknown u e)
  where
    by : (b : Pick) → Least e u b → size_of b ≤ limit
    by nothing l = omega arith
    by (column j a) l = omega (arith, l.1, size_in_limit e j h)

-- ---- the table after the round: as long as it was, and within the limit
pub record Tabled (v w : ℕ) (t : List ℤ) : Type 0 where
  pub long : length t ≡ v * w
  pub limited : all_in_limit t ≡ true

abbrev pub TurnTabled : ℕ → ℕ → List ℤ → Turn → Type 0
TurnTabled v w t (holds t') = t' ≡ t
TurnTabled v w t (solved t' f') = Tabled v w t'
TurnTabled v w t (again t' e') = Tabled v w t'
TurnTabled v w t clash = Unit {0}
TurnTabled v w t wide = Unit {0}
