-- A mask with every bit but bit j.
use Rattle.whole.proofs.Mask.{masked}
use Rattle.whole.proofs.word.without.Goals as goal

pub returns : goal.returns
returns c = masked 64 c.args.word c.args.j c.requires c.ranges.word.fits
