use Rattle.std.proofs.Common.{◌++◌, ◌≤◌, length, drop}
use Rattle.row.proofs.Loops.{Painted, always}
use Rattle.row.proofs.change.copy.Given as goal

abbrev pub invariant-loop-i : goal.invariant-loop-i
invariant-loop-i l =
    (length l.from ≤ length l.initial.to) × Painted always (l.from ++ drop (length l.from) l.initial.to) l.initial.to l.to l.i
