-- `elimination::equation::Elimination::each` meets its contract. The loop's invariant: what the rest of the equations comes to, from the table, the
-- rounds and the word so far, is what all of them come to; the room stays.
use Rattle.std.proofs.Common.{length, arith, rules}
use native.Mathlib.Nat.{zero-mul, add-sub_cancel_left}
use Rattle.row.proofs.RowLoops.{next_row}
use Rattle.elimination.proofs.Courses.{lining_none, lining_end, lining_stop, lining_more, mapped_err, mapped_ok, room_again}
use Rattle.elimination.proofs.room.Elimination.each.Goals as goal

pub loop-i-init : goal.loop-i-init
loop-i-init c = (c.start.ensures.room, rw (c.start-done.ensures.0, c.start-done.ensures.1, c.start.ensures.room.unknowns, zero-mul) (lining_none c.requires c.start.new.self.table.now c.start.ensures.begins))

pub returns-in_err-done-clause-verdict : goal.returns-in_err-done-clause-verdict
returns-in_err-done-clause-verdict c =
    let l = c.loop-i.invariant in
    let m = mapped_err c.one.result _ c.map_err.ensures.cases c.in_err-done.was in
    let k = m.1.1 in
    lining_stop c.requires l.1 c.loop-i-test.true m.0 _
    (rw (l.0.unknown_columns, l.0.unknowns, c.start.ensures.room.width, next_row c.loop-i.i-counter (length c.args.self.now.equation.now), add-sub_cancel_left, m.1.0) at c.one.ensures.outcome)
    c.in_err-done.field-0.0 (search rules) c.from_residual.result c.from_residual.ensures.1

pub loop-i-preserved : goal.loop-i-preserved
loop-i-preserved c =
    let l = c.loop-i.invariant in
    let n = next_row c.loop-i.i-counter (length c.args.self.now.equation.now) in
    let k = mapped_ok c.one.result _ c.map_err.ensures.cases c.in_ok-done.was in (
      room_again l.0 c.one.ensures.room,
      rw n
          (lining_more c.requires l.1 c.loop-i-test.true c.one.new.self.table.now c.in_ok-done.done.rounds c.in_ok-done.done.free
          (rw (l.0.unknown_columns, l.0.unknowns, c.start.ensures.room.width, n, add-sub_cancel_left, k) at c.one.ensures.outcome)),
    )

pub returns-clause-verdict : goal.returns-clause-verdict
returns-clause-verdict c = lining_end c.requires c.loop-i.invariant.1 (omega (arith, c.loop-i-test.false))
