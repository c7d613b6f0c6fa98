use Rattle.std.proofs.Common.{◌≡◌, true}
use Rattle.row.specs.Row.{all_in_limit}
use Rattle.row.specs.Divide.{negated}
use Rattle.row.proofs.Loops.{Painted, always}
use Rattle.row.proofs.change.negate.Given as goal

abbrev pub invariant-loop-x : goal.invariant-loop-x
invariant-loop-x l = (all_in_limit l.initial.r ≡ true) × Painted always (negated l.initial.r) l.initial.r l.r l.x-index
