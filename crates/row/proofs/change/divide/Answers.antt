-- `row::change::divide` meets its contract. The loop paints the remainders over r and the quotients over q.
use Rattle.std.proofs.Common.{ap, ◌∙◌, arith, ℤ, w32, to_z, of_z}
use Rattle.whole.specs.Division.{quotient, remainder}
use Rattle.whole.proofs.Signed.{read}
use Rattle.row.proofs.Loops.{painted_held}
use Rattle.row.proofs.Changed.{mapped_more}
use Rattle.row.proofs.change.divide.Goals as goal

pub loop-i-preserved : goal.loop-i-preserved
loop-i-preserved c =
    let a = c.args in
    let l = c.loop-i in
    let d = c.divide-divided in
    let p : ℤ = to_z w32 (of_z w32 a.p) in
    let e = painted_held w32 l.invariant.2 (omega arith) (omega arith) in (
      l.invariant.0,
      l.invariant.1,
      mapped_more _ a.r.now l.invariant.2 (omega arith) _ (read w32 d.result.r (omega arith) ∙ d.ensures.1 ∙ ap (λ x. remainder x p) e),
      mapped_more _ a.r.now l.invariant.3 (omega arith) _ (read w32 d.result.q (omega arith) ∙ d.ensures.0 ∙ ap (λ x. quotient x p) e),
    )
