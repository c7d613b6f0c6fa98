-- `sheet::check::in_range` meets its contract.
use Rattle.std.proofs.Common.{rules, ◌∙◌, leb, nat_abs}
use Rattle.std.proofs.lemmas.Iterator.{YieldsList-from_slice}
use Rattle.std.proofs.lemmas.Iterator.Search.{all_from_yields_List}
use borrow.Author.Tests.{tests}
use Rattle.whole.specs.Bytes.{signed}
use Rattle.sheet.proofs.Exponents.{all_of_map}
use Rattle.sheet.proofs.check.in_range.Goals as goal

pub returns : goal.returns
returns c =
    all_from_yields_List (λ b. leb (nat_abs (signed b)) 64) _ _ _ c.all.ensures.ran (YieldsList-from_slice c.args.bytes.now cc) (λ x b q k. search (rules, tests))
    ∙ all_of_map signed (λ z. leb (nat_abs z) 64) c.args.bytes.now
