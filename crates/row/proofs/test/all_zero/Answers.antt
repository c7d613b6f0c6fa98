use Rattle.std.proofs.Common.{rules, ◌∙◌}
use Rattle.std.proofs.lemmas.Iterator.{YieldsList-from_slice}
use Rattle.std.proofs.lemmas.Iterator.Search.{all_from_yields_List}
use borrow.Author.Tests.{tests}
use Rattle.row.specs.Row.{is_zero}
use Rattle.row.proofs.Loops.{all_list}
use Rattle.row.proofs.test.all_zero.Goals as goal

pub returns : goal.returns
returns c =
    let r = c.args.r.now in
    all_from_yields_List is_zero _ _ _ c.all.ensures.ran (YieldsList-from_slice r cc) (λ x b q k. search (rules, tests)) ∙ all_list is_zero r
