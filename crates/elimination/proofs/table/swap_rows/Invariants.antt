use Rattle.std.proofs.Common.{length, ◌-◌, ◌*◌}
use Rattle.elimination.proofs.Tables.{Swapping}
use Rattle.elimination.proofs.table.swap_rows.Given as goal

abbrev pub invariant-loop-i : goal.invariant-loop-i
invariant-loop-i l = Swapping l.initial.table l.q l.j l.v l.table (l.i * length l.q) (l.v - l.i)
