use Rattle.row.specs.Table.{constants as row_constants}
use Rattle.row.proofs.Loops.{Painted, always}
use Rattle.row.proofs.add.constants.Given as goal

abbrev pub invariant-loop-i : goal.invariant-loop-i
invariant-loop-i l = Painted always (row_constants l.u l.e) l.initial.sums l.sums l.i
