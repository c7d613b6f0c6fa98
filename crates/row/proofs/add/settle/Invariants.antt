use Rattle.whole.specs.Size.{in_limit}
use Rattle.row.proofs.Loops.{Painted}
use Rattle.row.proofs.add.settle.Given as goal

abbrev pub invariant-loop-i : goal.invariant-loop-i
invariant-loop-i l = Painted in_limit l.sums l.initial.out l.out l.i
