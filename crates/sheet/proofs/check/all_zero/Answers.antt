-- `sheet::check::all_zero` meets its contract.
use Rattle.std.proofs.Common.{rules, ◌∙◌, arith, eqb}
use Rattle.std.proofs.lemmas.Iterator.{YieldsList-from_slice}
use Rattle.std.proofs.lemmas.Iterator.Search.{all_from_yields_List}
use borrow.Author.Tests.{tests}
use Rattle.sheet.proofs.Exponents.{zeros}
use Rattle.sheet.proofs.check.all_zero.Goals as goal

pub returns : goal.returns
returns c =
    all_from_yields_List (λ b. eqb b 0) _ _ _ c.all.ensures.ran (YieldsList-from_slice c.args.bytes.now cc) (λ x b q k. search (rules, tests))
    ∙ zeros c.args.bytes.now (λ i. omega (arith, c.type_inv.bytes i))
