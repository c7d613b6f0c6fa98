-- `row::add::add_rows` meets its contract. The loop's invariant: the rows that are left, added to the sums, give the result, and the sums leave room for them.
use Rattle.std.proofs.Common.{sym, ap, ◌∙◌, arith, length, w32, to_z}
use native.Mathlib.Nat.{add-sub_cancel_left}
use Rattle.whole.proofs.Signed.{read}
use Rattle.row.specs.Row.{at}
use Rattle.row.proofs.RowLoops.{next_row}
use Rattle.row.proofs.Sums.{added_all, added_small, added_part, added_more, added_skip}
use Rattle.row.proofs.add.add_rows.Goals as goal
use Rattle.row.proofs.add.add_rows.Goals.{then-f-ne0, else-f-ne0}

pub add_row-requires : goal.add_row-requires
add_row-requires c =
    rw add-sub_cancel_left (added_small c.loop-j.invariant, added_part c.loop-j.invariant c.loop-j-test.true)

pub loop-j-preserved : goal.loop-j-preserved
loop-j-preserved c =
    let l = c.loop-j in
    let f = read w32 (at c.args.numbers.now l.j) (omega arith) in
    elim c.if-f-ne0.branch [
      | then-f-ne0 w ↦ rw (next_row l.j (length c.args.sums.now)) (added_more l.invariant c.loop-j-test.true c.if-f-ne0.sums (w.sums-is ∙ rw (f, add-sub_cancel_left) at w.add_row.ensures))
      | else-f-ne0 w ↦ rw (w.sums-is, next_row l.j (length c.args.sums.now)) (added_skip l.invariant c.loop-j-test.true (sym f ∙ ap (to_z w32) w.if-f-ne0.false))
    ]

pub returns : goal.returns
returns c = added_all c.loop-j.invariant (omega arith)
