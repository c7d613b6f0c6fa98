-- The code that an operation has in the line table.
use Rattle.std.specs.Prelude.{Result, Ok, Err}
use Rattle.sheet_rules.specs.Good.{Code, number, reading, add, subtract, multiply, divide, root, less_than, stated, no_code}
use Rattle.sheet.specs.declared.operation.NoSuchCode.{NoSuchCode}
use Rattle.sheet.specs.declared.operation.Operation as O

abbrev pub code_for : Result O.Operation NoSuchCode → Code
code_for (Err e) = no_code
code_for (Ok O.TheVariants.Number) = number
code_for (Ok O.TheVariants.Reading) = reading
code_for (Ok O.TheVariants.Add) = add
code_for (Ok O.TheVariants.Subtract) = subtract
code_for (Ok O.TheVariants.Multiply) = multiply
code_for (Ok O.TheVariants.Divide) = divide
code_for (Ok O.TheVariants.Root) = root
code_for (Ok O.TheVariants.LessThan) = less_than
code_for (Ok O.TheVariants.Stated) = stated
