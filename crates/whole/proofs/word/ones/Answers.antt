-- The kit's count, of all 64 digits.
use Rattle.std.proofs.Common.{◌∙◌, ap, sym, mod-eq_of_lt}
use lib.Count.{ones}
use Rattle.whole.specs.Word.{count_ones}
use Rattle.whole.proofs.word.ones.Goals as goal

pub returns : goal.returns
returns c = sym (count_ones 64 c.args.word ∙ ap ones (mod-eq_of_lt c.ranges.word.fits))
