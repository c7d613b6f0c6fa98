-- The public call's checks: what they say.
use Rattle.std.specs.Prelude.{◌≡◌, List, ℕ, ◌*◌, ◌/◌, ◌≤◌, length, ℤ}
use Rattle.row.specs.Table.{Rows}
use Rattle.elimination_rules.specs.General.{Gap}

-- V is at most u, the length is whole rows, the columns from V to u - 1 hold 0, and the table has room.
pub record Checked (u w v : ℕ) (es lent : List ℤ) : Type 0 where
  pub unknowns : v ≤ u
  pub whole : length es ≡ length es / w * w
  pub gap : Rows (Gap u v) w (length es / w) es
  pub room : w * v ≤ length lent
