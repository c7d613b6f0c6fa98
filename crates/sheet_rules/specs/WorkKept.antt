-- The table that the work keeps.
use Rattle.std.specs.Prelude.{ℤ}
use mathlib.Core.List.{List}
use Prim.Native.Nat.{ℕ}
use Rattle.elimination_rules.specs.General.{Kept}
use Rattle.sheet_rules.specs.Shape.{Shape}

-- ---- the table and the count
abbrev pub TableKept : Shape → List ℤ → ℕ → Type 0
TableKept sh t f = Kept sh.unknown_columns sh.unknowns sh.columns t f
