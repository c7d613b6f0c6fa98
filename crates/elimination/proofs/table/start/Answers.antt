-- `elimination::table::start` meets its contract. The loop's invariant: the rows that are written, and those that are left to write, give the start.
use native.Mathlib.Nat.{add-sub_cancel_left}
use Rattle.row.proofs.RowLoops.{next_row}
use Rattle.elimination.proofs.Tables.{started_all, started_part, started_more}
use Rattle.elimination.proofs.table.start.Goals as goal

pub loop-j-preserved : goal.loop-j-preserved
loop-j-preserved c =
    let s = c.itself in
    let l = c.loop-j in
    let p = started_part l.invariant c.loop-j-test.true in
    rw (next_row l.j c.args.w, add-sub_cancel_left) (started_more l.invariant c.loop-j-test.true s.new.r (rw (next_row l.j c.args.w, add-sub_cancel_left, p) at s.ensures))

pub returns : goal.returns
returns c = started_all c.loop-j.invariant c.loop-j-test.false
