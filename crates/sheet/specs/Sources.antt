-- The rows that the code's sources and sums stand for.
use Rattle.std.specs.Prelude.{List, [], ◌∷◌, ℕ, ℤ, Option, Some, None}
use Rattle.row.specs.Row.{less}
use Rattle.sheet_rules.specs.Shape.{Shape, unit_record}
use Rattle.sheet_rules.specs.Lines.{none, unknown, reads, unit_of}
use Rattle.sheet.specs.declared.line.Source as S
use Rattle.sheet.specs.declared.line.Sum as M

abbrev pub source_row : Shape → List ℕ → List (List ℤ) → S.Source → List ℤ
source_row sh s us S.TheVariants.Nothing = none sh
source_row sh s us (S.TheVariants.Line i) = unit_of us i
source_row sh s us (S.TheVariants.Channel c) = reads sh s c
source_row sh s us (S.TheVariants.Record i) = unit_record sh s i
source_row sh s us (S.TheVariants.Unknown j) = unknown sh j

abbrev pub sum_row : Shape → List ℕ → List (List ℤ) → M.Sum → List ℤ
sum_row sh s us (M.TheVariants.Alone x) = source_row sh s us x
sum_row sh s us (M.TheVariants.Less x f y) = less f (source_row sh s us x) (source_row sh s us y)

abbrev pub equation_rows : Shape → List ℕ → List (List ℤ) → Option M.Sum → List (List ℤ)
equation_rows sh s us None = []
equation_rows sh s us (Some m) = sum_row sh s us m ∷ []
