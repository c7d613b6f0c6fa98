-- The shape and the bytes of a sheet, and the rows of its sources and sums, in the words of the rules.
use Rattle.std.specs.Prelude.{List, ℕ, ℤ}
use Rattle.sheet_rules.specs.Shape.{Shape}
use Rattle.sheet_rules.specs.Lines.{units}
use Rattle.sheet.specs.Views.{shape_view}
use Rattle.sheet.specs.Sources.{source_row, sum_row}
use Rattle.sheet.specs.declared.parts.Sheet as D
use Rattle.sheet.specs.declared.line.Source as S
use Rattle.sheet.specs.declared.line.Sum as M

abbrev pub shape_in : D.Sheet → Shape
shape_in sheet = shape_view sheet.parts.shape

abbrev pub bytes_in : D.Sheet → List ℕ
bytes_in sheet = sheet.parts.bytes.now

-- Over the units of the first k lines.
abbrev pub source_in : D.Sheet → ℕ → S.Source → List ℤ
source_in sheet k x = source_row (shape_in sheet) (bytes_in sheet) (units (shape_in sheet) (bytes_in sheet) k) x

abbrev pub sum_in : D.Sheet → ℕ → M.Sum → List ℤ
sum_in sheet k m = sum_row (shape_in sheet) (bytes_in sheet) (units (shape_in sheet) (bytes_in sheet) k) m
