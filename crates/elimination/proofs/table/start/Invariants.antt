use Rattle.std.proofs.Common.{◌*◌}
use Rattle.elimination.proofs.Tables.{Started}
use Rattle.elimination.proofs.table.start.Given as goal

abbrev pub invariant-loop-j : goal.invariant-loop-j
invariant-loop-j l = Started l.w l.v l.table (l.j * l.w) l.j
