-- `elimination::columns::first_used` meets its contract.
use Rattle.std.proofs.Common.{rules, refl, not}
use Rattle.std.proofs.lemmas.Iterator.{YieldsList-from_range}
use Rattle.std.proofs.lemmas.Iterator.Search.{find_from_yields_List}
use borrow.Author.Tests.{tests}
use native.Mathlib.Nat.{sub-zero}
use Rattle.elimination_rules.specs.Call.{unused}
use Rattle.elimination.proofs.Unused.{equation, used_found}
use Rattle.elimination.proofs.columns.first_used.Goals as goal

pub returns : goal.returns
returns c =
    let x = c.args in
    used_found x.u x.v x.w x.es.now x.count c.find.result
    (find_from_yields_List (λ i. not (unused x.u x.v (equation x.u x.v x.w x.es.now i))) _ _ c.find.result c.find.ensures.ran
    (YieldsList-from_range 0 x.count x.count refl (sub-zero _)) (λ x b q k. search (rules, tests)))
