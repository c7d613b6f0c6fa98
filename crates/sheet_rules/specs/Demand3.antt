-- The units that the table of a calibration sheet yields, and the unit that a row is.
use Rattle.std.specs.Prelude.{List, ℕ, ◌+◌, ◌*◌, take, ℤ}
use Rattle.elimination_rules.specs.General.{val}
use Rattle.elimination_rules.specs.Units.{Units, in_base, yields}
use Rattle.sheet_rules.specs.Shape.{shape_of}
use Rattle.sheet_rules.specs.Agree.{Exponents}

module _ (s : List ℕ) where
  -- V and N
  abbrev pub unknowns : ℕ
  unknowns = (shape_of s).unknowns

  abbrev pub lines : ℕ
  lines = (shape_of s).lines

  -- The units that the first 32V numbers of t yield, where x is chosen.
  abbrev pub yielded : List ℤ → Units → Units
  yielded t x = yields 24 unknowns 32 (take (32 * unknowns) t) x

  -- The unit that the first 32 numbers of t are, where x is chosen.
  abbrev pub row_unit : List ℤ → Units → Exponents
  row_unit t x base = val 24 (24 + base) (take 32 t) (in_base unknowns x base)
