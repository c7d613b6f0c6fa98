use Rattle.std.proofs.Common.{◌*◌}
use Rattle.row.proofs.Sums.{Added}
use Rattle.row.proofs.add.add_rows.Given as goal

abbrev pub invariant-loop-j : goal.invariant-loop-j
invariant-loop-j l = Added l.numbers l.table l.initial.sums l.sums (l.j * l.w) l.j
