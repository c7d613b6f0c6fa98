use Rattle.std.proofs.Common.{◌≡◌, drop}
use Rattle.row.specs.Picked.{pick_of}
use Rattle.row.specs.Smallest.{smallest_from, smallest as smallest_pick}
use Rattle.row.proofs.smallest.smallest.Given as goal

abbrev pub invariant-loop-i : goal.invariant-loop-i
invariant-loop-i l = smallest_from l.i (pick_of l.best) (drop l.i l.r) ≡ smallest_pick l.r
