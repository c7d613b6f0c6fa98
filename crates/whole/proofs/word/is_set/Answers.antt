-- The lowest digit of what stands from place j on.
use Rattle.std.proofs.Common.{◌/◌, ◌^◌}
use lib.Bits.{and_mask}
use Rattle.whole.specs.Word.{bit}
use Rattle.whole.proofs.word.is_set.Goals as goal

pub returns : goal.returns
unfolding bit
returns c = rw (and_mask (c.args.word / 2 ^ c.args.j) 1)
