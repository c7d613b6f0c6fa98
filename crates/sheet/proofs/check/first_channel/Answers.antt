-- `sheet::check::first_channel` meets its contract.
use Rattle.std.proofs.Common.{rules, refl, not}
use Rattle.std.proofs.lemmas.Iterator.{YieldsList-from_range}
use Rattle.std.proofs.lemmas.Iterator.Search.{find_from_yields_List}
use borrow.Author.Tests.{tests}
use native.Mathlib.Nat.{sub-zero}
use Rattle.sheet_rules.specs.Shape.{channel}
use Rattle.sheet_rules.specs.Good.{good_channel}
use Rattle.sheet.specs.Views.{shape_view}
use Rattle.sheet.proofs.Lowest.{found}
use Rattle.sheet.proofs.check.first_channel.Goals as goal

pub returns : goal.returns
returns c =
    let sh = shape_view c.args.parts.now.shape in
    found (λ i. good_channel sh (channel sh c.args.parts.now.bytes.now i)) sh.channels c.find.result
    (find_from_yields_List (λ i. not (good_channel sh (channel sh c.args.parts.now.bytes.now i))) _ _ c.find.result c.find.ensures.ran
    (YieldsList-from_range 0 sh.channels sh.channels refl (sub-zero _)) (λ x b q k. search (rules, tests)))
