use Rattle.std.proofs.Common.{◌≡◌, pos, length, ◌<ℤ◌}
use Rattle.row.specs.Divide.{quotients, remainders}
use Rattle.row.proofs.Loops.{Painted, always}
use Rattle.row.proofs.change.divide.Given as goal

abbrev pub invariant-loop-i : goal.invariant-loop-i
invariant-loop-i l =
    (pos 0 <ℤ l.p) × (length l.initial.r ≡ length l.initial.q) × Painted always (remainders l.p l.initial.r) l.initial.r l.r l.i × Painted always (quotients l.p l.initial.r) l.initial.q l.q l.i
