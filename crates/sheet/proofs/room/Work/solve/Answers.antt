-- `sheet::work::Work::solve` meets its contract. The loop's invariant: what the rest of the lines comes to, from the table, the rounds
-- and the word so far, is what all of them come to.
use Rattle.std.proofs.Common.{refl, arith, rules}
use Rattle.elimination.proofs.Courses.{mapped_err, mapped_ok}
use Rattle.sheet.proofs.Courses.{work_again, lining_none, lining_end, lining_stop, lining_more}
use Rattle.sheet.proofs.room.Work.solve.Goals as goal

pub loop-k-init : goal.loop-k-init
loop-k-init c =
    let s = c.args.self.now in
    (record { sheet = refl; store_room = refl; store = refl; elimination = c.start.ensures.room; row = refl; other = refl }, c.requires, rw (c.start-done.ensures.0, c.start-done.ensures.1) (lining_none s.units.sheet.formed (rw (s.roomy.equation_room, s.roomy.unknowns) at c.start.ensures.begins)))

pub returns-in_err-done-clause-verdict : goal.returns-in_err-done-clause-verdict
returns-in_err-done-clause-verdict c =
    let l = c.loop-k.invariant in
    let m = mapped_err c.work_line.result _ c.map_err.ensures.cases c.in_err-done.was in
    let k = m.1.1 in
    lining_stop l.2 c.loop-k-test.true m.0 _ (rw (l.0.sheet, l.1, m.1.0) at c.work_line.ensures.outcome) c.in_err-done.field-0.0 (search rules) c.from_residual.result
    c.from_residual.ensures.1

pub loop-k-preserved : goal.loop-k-preserved
loop-k-preserved c =
    let l = c.loop-k.invariant in
    let o = mapped_ok c.work_line.result _ c.map_err.ensures.cases c.in_ok-done.was in
    let n = rw o at c.work_line.ensures in
    (work_again l.0 n.room, rw l.1 at n.done, lining_more l.2 c.loop-k-test.true c.args.self.now.units.sheet.formed (rw (l.0.sheet, l.1) at n.outcome))

pub returns-clause-verdict : goal.returns-clause-verdict
returns-clause-verdict c = lining_end c.loop-k.invariant.2 (omega (arith, c.loop-k-test.false))
