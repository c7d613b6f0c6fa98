-- The store of line units, and what may be asked of it.
use Rattle.std.specs.Prelude.{◌≡◌, true, List, ℕ, ◌*◌, ◌≤◌, ◌<◌, ℤ, length, take, drop, Option, Some, None}
use Rattle.sheet_rules.specs.Shape.{Shape, Line}
use Rattle.sheet_rules.specs.Good.{code_of, good_operands}
use Rattle.sheet_rules.specs.Lines.{unit_at, line_unit, line_equations}
use Rattle.sheet.specs.Sources.{sum_row, equation_rows}
use Rattle.sheet.specs.declared.line.Source as S
use Rattle.sheet.specs.declared.line.Sum as M

-- The units of the first k lines stand end to end, and there is room for all lines.
pub record Stored (sh : Shape) (s : List ℕ) (k : ℕ) (store : List ℤ) : Type 0 where
  pub room : sh.columns * sh.lines ≤ length store
  pub so_far : k ≤ sh.lines
  pub holds : (i : ℕ) → i < k → take sh.columns (drop (sh.columns * i) store) ≡ unit_at sh s i

-- The source is there, for line k.
abbrev pub Sourced : Shape → ℕ → S.Source → Type 0
Sourced sh k S.TheVariants.Nothing = Unit {0}
Sourced sh k (S.TheVariants.Line i) = i < k
Sourced sh k (S.TheVariants.Channel c) = c < sh.channels
Sourced sh k (S.TheVariants.Record i) = i < sh.records
Sourced sh k (S.TheVariants.Unknown j) = j < sh.unknowns

abbrev pub Summed : Shape → ℕ → M.Sum → Type 0
Summed sh k (M.TheVariants.Alone x) = Sourced sh k x
Summed sh k (M.TheVariants.Less x f y) = Sourced sh k x × Sourced sh k y

abbrev pub Equated : Shape → ℕ → Option M.Sum → Type 0
Equated sh k None = Unit {0}
Equated sh k (Some m) = Summed sh k m

-- m is the unit of a line, over the units us of the lines before it.
pub record UnitSum (l : Line) (m : M.Sum) : Type 0 where
  pub is : (sh : Shape) (s : List ℕ) (us : List (List ℤ)) → sum_row sh s us m ≡ line_unit sh s us l
  pub there : (sh : Shape) (k : ℕ) → good_operands sh k (code_of l.code) l.a l.b ≡ true → Summed sh k m

pub record EquationSum (l : Line) (e : Option M.Sum) : Type 0 where
  pub is : (sh : Shape) (s : List ℕ) (us : List (List ℤ)) → equation_rows sh s us e ≡ line_equations sh s us l
  pub there : (sh : Shape) (k : ℕ) → good_operands sh k (code_of l.code) l.a l.b ≡ true → Equated sh k e
