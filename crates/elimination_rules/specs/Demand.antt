-- The public call: what an accepted one is said to give.
use Rattle.std.specs.Prelude.{◌≡◌, List, ℕ, ◌*◌, ◌/◌, ◌≤◌, length, take, drop, ℤ}
use Rattle.elimination_rules.specs.Call.{fuel}
use Rattle.elimination_rules.specs.General.{General}
use Rattle.elimination_rules.specs.Units.{Agree, MostGeneral}
use Rattle.elimination_rules.specs.Checked.{Checked}

-- What an accepted call gives: v rows of w numbers that are most general for the equations, and after them what was lent.
pub record Accepted (u w v : ℕ) (es lent : List ℤ) (k f : ℕ) (t : List ℤ) : Type 0 where
  pub checked : Checked u w v es lent
  pub general : General u v w (length es / w) es (take (w * v) t) f
  pub units : MostGeneral u v w (Agree u v w (length es / w) es) (take (w * v) t) f
  pub rest : drop (w * v) t ≡ drop (w * v) lent
  pub rounds : k ≤ fuel * v
