-- When a record, a channel and a line are good, over numbers and not over places in a file.
use Rattle.std.specs.Prelude.{Bool, true, false, List, ℕ, zero, suc, leb, ltb, eqb, ℤ, nat_abs}
use Rattle.whole.specs.Cases.{both}
use Rattle.row.specs.Row.{all}
use Rattle.elimination_rules.specs.Call.{unused}
use Rattle.sheet_rules.specs.Shape.{Shape, Line}

-- "from −64 to 64 .. Columns V to 23 hold 0."
abbrev pub good_record : Shape → List ℤ → Bool
good_record sh r = both (all (λ (z : ℤ). leb (nat_abs z) 64) r) (unused sh.unknown_columns sh.unknowns r)

-- "channel byte ≥ U" is not.
abbrev pub good_channel : Shape → ℕ → Bool
good_channel sh b = ltb b sh.records

-- The codes of the line table.
pub data Code : Type 0 where
  number reading add subtract multiply divide root less_than stated : Code
  no_code : Code

abbrev pub code_of : ℕ → Code
code_of zero = number
code_of (suc zero) = reading
code_of (suc (suc zero)) = add
code_of (suc (suc (suc zero))) = subtract
code_of (suc (suc (suc (suc zero)))) = multiply
code_of (suc (suc (suc (suc (suc zero))))) = divide
code_of (suc (suc (suc (suc (suc (suc zero)))))) = root
code_of (suc (suc (suc (suc (suc (suc (suc zero))))))) = less_than
code_of (suc (suc (suc (suc (suc (suc (suc (suc zero)))))))) = stated
code_of (suc (suc (suc (suc (suc (suc (suc (suc (suc n))))))))) = no_code

-- The column "a, b" of the line table, for line k. A number is any "value a + 256b, zero included". "Line a is an earlier line: its index is less than the line's own."
abbrev pub good_operands : Shape → ℕ → Code → ℕ → ℕ → Bool
good_operands sh k number a b = true
good_operands sh k reading a b = both (ltb a sh.channels) (eqb b 0)
good_operands sh k add a b = both (ltb a k) (ltb b k)
good_operands sh k subtract a b = both (ltb a k) (ltb b k)
good_operands sh k multiply a b = both (ltb a k) (ltb b k)
good_operands sh k divide a b = both (ltb a k) (ltb b k)
good_operands sh k root a b = both (ltb a k) (ltb b sh.unknowns)
good_operands sh k less_than a b = both (ltb a k) (ltb b k)
good_operands sh k stated a b = both (ltb a k) (ltb b sh.records)
good_operands sh k no_code a b = false

-- "line's code above 8, an operand out of range, an unused byte nonzero" is not good.
abbrev pub good_line : Shape → ℕ → Line → Bool
good_line sh k l = both (eqb l.last 0) (good_operands sh k (code_of l.code) l.a l.b)
