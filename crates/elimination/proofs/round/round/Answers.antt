-- `elimination::round::round` meets its contract.
use Rattle.std.proofs.Common.{sym, ap, ◌∙◌}
use Rattle.row.specs.Picked.{pick_of}
use Rattle.elimination.proofs.Turns.{is_picked}
use Rattle.elimination.proofs.round.round.Goals as goal

pub turn-requires : goal.turn-requires
turn-requires c = (c.requires, is_picked _ _ _ _ (sym c.smallest.ensures ∙ ap pick_of c.in-Some.is))
