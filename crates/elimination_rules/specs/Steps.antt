-- A row of quotients: all that the moves of a table need.
use Rattle.std.specs.Prelude.{◌≡◌, List, ℕ, length, ℤ}
use Rattle.row.specs.Row.{at}
use Rattle.elimination_rules.specs.General.{Off}

-- A row of quotients in the free unknowns, x in the picked column: 1 where the unknown goes, 0 where it stays.
pub record Quotients (u w f j : ℕ) (x : ℤ) (q : List ℤ) : Type 0 where
  pub long : length q ≡ w
  pub off : Off u f q
  pub here : at q j ≡ x
