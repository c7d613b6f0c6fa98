-- `row::add::settle` meets its contract. The loop's invariant: the first i numbers are the sums', and each is within the limit.
use Rattle.std.proofs.Common.{refl, sym, ap, ◌∙◌, arith, pos, w64, to_z, of_z}
use Rattle.whole.specs.Size.{in_limit}
use Rattle.whole.specs.Judge.{judge_err}
use Rattle.whole.proofs.Signed.{read, judged_number}
use Rattle.row.specs.Row.{at}
use Rattle.row.proofs.Loops.{painted_more, judged_stop, judged_all}
use Rattle.row.proofs.add.settle.Goals as goal

pub returns-in_err-out : goal.returns-in_err-out
returns-in_err-out c =
    let l = c.loop-i in
    let x = at c.args.sums.now l.i in
    let e = ap in_limit (read w64 x (omega arith)) in
    judged_stop l.invariant (omega arith) x refl (sym e ∙ judge_err (to_z w64 (of_z w64 x)) _ c.judge.ensures c.in_err-out.was) _ c.from_residual.ensures.0

pub loop-i-preserved : goal.loop-i-preserved
loop-i-preserved c =
    let l = c.loop-i in
    let h = read w64 (at c.args.sums.now l.i) (omega arith) in
    let k = judged_number c.judge.ensures c.in_ok-out.was in
    let e = k.0 ∙ h in
    painted_more in_limit (pos 0) _ _ l.out l.i l.invariant (omega arith) _ e (ap in_limit k.0 ∙ k.1)

pub returns : goal.returns
returns c = let l = c.loop-i in judged_all l.invariant (omega arith)
