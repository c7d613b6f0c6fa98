-- "Lines": the line table over rows. "Line units are written over the sheet's own unknowns, unsolved."
use Rattle.std.specs.Prelude.{List, [], ◌∷◌, ◌++◌, ℕ, zero, suc, get_or, replicate, ℤ, pos}
use Rattle.row.specs.Row.{plus, less}
use Rattle.row.specs.Table.{itself}
use Rattle.sheet_rules.specs.Shape.{Shape, Line, unit_record, channel, line}
use Rattle.sheet_rules.specs.Good.{Code, number, reading, add, subtract, multiply, divide, root, less_than, stated, no_code, code_of}

-- "all exponents 0"
abbrev pub none : Shape → List ℤ
none sh = replicate sh.columns (pos 0)

-- unknown j
abbrev pub unknown : Shape → ℕ → List ℤ
unknown sh j = itself sh.columns j

-- "the channel's record"
abbrev pub reads : Shape → List ℕ → ℕ → List ℤ
reads sh s c = unit_record sh s (channel sh s c)

-- The unit of line i, of the units of the lines so far.
abbrev pub unit_of : List (List ℤ) → ℕ → List ℤ
unit_of us i = get_or us i []

-- The column "unit of this line".
abbrev pub unit_by : Shape → List ℕ → List (List ℤ) → Code → ℕ → ℕ → List ℤ
unit_by sh s us number a b = none sh
unit_by sh s us reading a b = reads sh s a
unit_by sh s us add a b = unit_of us a
unit_by sh s us subtract a b = unit_of us a
unit_by sh s us multiply a b = plus (pos 1) (unit_of us a) (unit_of us b)
unit_by sh s us divide a b = less (pos 1) (unit_of us a) (unit_of us b)
unit_by sh s us root a b = unknown sh b
unit_by sh s us less_than a b = none sh
unit_by sh s us stated a b = unit_record sh s b
unit_by sh s us no_code a b = none sh

-- The column "equation": "the left row minus the right row, set to zero", "a = twice unknown b". A list, of one at the
-- most: a later edition has lines with more.
abbrev pub equations_by : Shape → List ℕ → List (List ℤ) → Code → ℕ → ℕ → List (List ℤ)
equations_by sh s us number a b = []
equations_by sh s us reading a b = []
equations_by sh s us add a b = less (pos 1) (unit_of us a) (unit_of us b) ∷ []
equations_by sh s us subtract a b = less (pos 1) (unit_of us a) (unit_of us b) ∷ []
equations_by sh s us multiply a b = []
equations_by sh s us divide a b = []
equations_by sh s us root a b = less (pos 2) (unit_of us a) (unknown sh b) ∷ []
equations_by sh s us less_than a b = less (pos 1) (unit_of us a) (unit_of us b) ∷ []
equations_by sh s us stated a b = less (pos 1) (unit_of us a) (unit_record sh s b) ∷ []
equations_by sh s us no_code a b = []

-- A line, after the lines whose units are us.
abbrev pub line_unit : Shape → List ℕ → List (List ℤ) → Line → List ℤ
line_unit sh s us l = unit_by sh s us (code_of l.code) l.a l.b

abbrev pub line_equations : Shape → List ℕ → List (List ℤ) → Line → List (List ℤ)
line_equations sh s us l = equations_by sh s us (code_of l.code) l.a l.b

-- "Lines are worked in order": the units of the first k lines.
abbrev pub with_unit : Shape → List ℕ → ℕ → List (List ℤ) → List (List ℤ)
with_unit sh s k us = us ++ (line_unit sh s us (line sh s k) ∷ [])

unfoldable pub units : Shape → List ℕ → ℕ → List (List ℤ)
units sh s zero = []
units sh s (suc k) = with_unit sh s k (units sh s k)

-- The unit of line k over the sheet, and its equations.
abbrev pub unit_at : Shape → List ℕ → ℕ → List ℤ
unit_at sh s k = line_unit sh s (units sh s k) (line sh s k)

abbrev pub equations_at : Shape → List ℕ → ℕ → List (List ℤ)
equations_at sh s k = line_equations sh s (units sh s k) (line sh s k)
