use Rattle.row.specs.Row.{plus}
use Rattle.row.proofs.Loops.{Painted, always}
use Rattle.row.proofs.add.add_row.Given as goal

abbrev pub invariant-loop-i : goal.invariant-loop-i
invariant-loop-i l = Painted always (plus l.f l.initial.sums l.row) l.initial.sums l.sums l.i
