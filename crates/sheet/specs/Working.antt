-- What the work on a sheet asks of its room, and of its state.
use Rattle.std.specs.Prelude.{◌≡◌, List, ◌+◌, ◌*◌, ◌≤◌, ℤ, length}
use Rattle.whole.specs.Word.{count}
use Rattle.elimination_rules.specs.Call.{fuel}
use Rattle.elimination_rules.specs.General.{Kept}
use Rattle.elimination.specs.declared.progress.Progress.{Progress}
use Rattle.elimination.specs.declared.room.Elimination.{Elimination}
use Rattle.sheet_rules.specs.Shape.{Shape}

-- Room for the sheet's unknowns, and for two more rows.
pub record Roomy (sh : Shape) (e : Elimination) (row other : List ℤ) : Type 0 where
  pub unknown_columns : e.unknown_columns ≡ sh.unknown_columns
  pub unknowns : e.unknowns ≡ sh.unknowns
  pub equation_room : length e.equation.now ≡ sh.columns
  pub sums_room : length e.sums.now ≡ sh.columns
  pub row_room : length row ≡ sh.columns
  pub other_room : length other ≡ sh.columns

-- Before a line: the table t is as the work keeps it, and the rounds still fit.
pub record Stepping (sh : Shape) (p : Progress) (t : List ℤ) : Type 0 where
  pub kept : Kept sh.unknown_columns sh.unknowns sh.columns t p.free
  pub counted : p.rounds + fuel * count sh.unknowns p.free ≤ fuel * sh.unknowns
