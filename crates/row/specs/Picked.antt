-- What the code's answer says of the smallest column.
use Rattle.std.specs.Prelude.{Option, Some, None}
use Rattle.row.specs.declared.smallest.Picked.{Picked}
use Rattle.row.specs.Smallest.{Pick, nothing, column}

abbrev pub pick_of : Option Picked → Pick
pick_of None = nothing
pick_of (Some p) = column p.column p.size
