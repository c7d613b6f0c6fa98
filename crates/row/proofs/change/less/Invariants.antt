use Rattle.std.proofs.Common.{◌≡◌, length}
use Rattle.whole.specs.Size.{in_limit}
use Rattle.row.specs.Row.{less}
use Rattle.row.proofs.Loops.{Painted}
use Rattle.row.proofs.change.less.Given as goal

abbrev pub invariant-loop-i : goal.invariant-loop-i
invariant-loop-i l = (length l.q ≡ length l.initial.r) × Painted in_limit (less l.f l.initial.r l.q) l.initial.r l.r l.i
