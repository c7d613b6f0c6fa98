-- When units make the lines of a sheet agree: Kennedy's rules, worked in units. Every unknown is given a unit, a whole exponent for
-- each base. The line table stands here a second time, and apart from the one over rows: neither is made from the other.
use Rattle.std.specs.Prelude.{◌≡◌, List, ℕ, zero, suc, ◌+◌, ◌*◌, ◌<◌, ℤ, pos, ◌+ℤ◌, ◌-ℤ◌, ◌*ℤ◌}
use Rattle.whole.specs.Bytes.{signed}
use Rattle.elimination_rules.specs.Units.{Units}
use Rattle.sheet_rules.specs.Shape.{Shape, byte, channel, line}
use Rattle.sheet_rules.specs.Good.{Code, number, reading, add, subtract, multiply, divide, root, less_than, stated, no_code, code_of}

-- A unit: of each base, its exponent. (`Units` are one for each unknown.)
abbrev pub Exponents : Type 0
Exponents = ℕ → ℤ

-- "columns 24 to 31 are the bases": base b is in column 24 + b.
abbrev pub IsBase : Shape → ℕ → Type 0
IsBase sh b = sh.unknown_columns + b < sh.columns

-- Two units are equal: in every base.
abbrev pub Same : Shape → Exponents → Exponents → Type 0
Same sh y z = (base : ℕ) → IsBase sh base → y base ≡ z base

-- The sum of g j over the unknowns j < v.
unfoldable pub sum : ℕ → (ℕ → ℤ) → ℤ
sum zero g = pos 0
sum (suc v) g = g 0 +ℤ sum v (λ j. g (suc j))

-- "Each byte is a signed exponent": column c of unit record i.
abbrev pub exponent : Shape → List ℕ → ℕ → ℕ → ℤ
exponent sh s i c = signed (byte s (sh.columns * i + c))

module _ (sh : Shape) (s : List ℕ) (x : Units) where
  -- The unit that record i is, where the unknowns have the units x.
  abbrev pub record_unit : ℕ → Exponents
  record_unit i base = sum sh.unknowns (λ j. exponent sh s i j *ℤ x j base) +ℤ exponent sh s i (sh.unknown_columns + base)

  -- The unit of a reading of channel c: "the channel's record".
  abbrev pub reading_unit : ℕ → Exponents
  reading_unit c = record_unit (channel sh s c)

  -- The unit of a line, where the lines before it have the units y.
  abbrev pub unit_by : (ℕ → Exponents) → Code → ℕ → ℕ → Exponents
  unit_by y number a b base = pos 0
  unit_by y reading a b base = reading_unit a base
  unit_by y add a b base = y a base
  unit_by y subtract a b base = y a base
  unit_by y multiply a b base = y a base +ℤ y b base
  unit_by y divide a b base = y a base -ℤ y b base
  unit_by y root a b base = x b base
  unit_by y less_than a b base = pos 0
  unit_by y stated a b base = record_unit b base
  unit_by y no_code a b base = pos 0

  -- When its two sides are equal units.
  abbrev pub AgreesBy : (ℕ → Exponents) → Code → ℕ → ℕ → Type 0
  AgreesBy y number a b = Unit {0}
  AgreesBy y reading a b = Unit {0}
  AgreesBy y add a b = Same sh (y a) (y b)
  AgreesBy y subtract a b = Same sh (y a) (y b)
  AgreesBy y multiply a b = Unit {0}
  AgreesBy y divide a b = Unit {0}
  AgreesBy y root a b = Same sh (y a) (λ base. pos 2 *ℤ x b base)
  AgreesBy y less_than a b = Same sh (y a) (y b)
  AgreesBy y stated a b = Same sh (y a) (record_unit b)
  AgreesBy y no_code a b = Unit {0}

  -- The unit of line k, where the table is followed back at most n times.
  unfoldable pub unit_within : ℕ → ℕ → Exponents
  unit_within zero k base = pos 0
  unit_within (suc n) k base = let l = line sh s k in unit_by (unit_within n) (code_of l.code) l.a l.b base

  -- "Line a is an earlier line", so that k + 1 times are enough. `line-unit-by` (Bridge.antt): the table holds of these units.
  abbrev pub line_unit : ℕ → Exponents
  line_unit k = unit_within (suc k) k

  abbrev pub LineAgrees : ℕ → Type 0
  LineAgrees k = let l = line sh s k in AgreesBy line_unit (code_of l.code) l.a l.b

-- The first n lines agree under the units x.
abbrev pub Agrees : Shape → List ℕ → ℕ → Units → Type 0
Agrees sh s n x = (k : ℕ) → k < n → LineAgrees sh s x k

-- There are units under which the first n lines agree.
pub record Agreeing (sh : Shape) (s : List ℕ) (n : ℕ) : Type 0 where
  pub units : Units
  pub agree : Agrees sh s n units

-- "the line named is the first whose lines so far, itself included, have none"
pub record FirstClash (sh : Shape) (s : List ℕ) (n : ℕ) : Type 0 where
  pub among : n < sh.lines
  pub before : Agreeing sh s n
  pub none : Agreeing sh s (suc n) → ⊥
