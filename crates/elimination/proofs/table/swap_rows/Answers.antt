-- `elimination::table::swap_rows` meets its contract. The loop's invariant: the rows that are done, and those left with j replaced, give the result; each is within the limit.
use Rattle.std.proofs.Common.{◌≡◌, ◌-◌, ◌+◌, length, arith}
use native.Mathlib.Nat.{add-sub_cancel_left, zero-mul, sub-zero}
use Rattle.row.proofs.RowLoops.{next_row}
use Rattle.elimination.proofs.Tables.{swapping_none, swapping_all, swapping_row, swapping_stop, swapping_more}
use Rattle.elimination.proofs.table.swap_rows.Goals as goal

pub loop-i-init : goal.loop-i-init
loop-i-init c = rw (zero-mul, sub-zero) (swapping_none c.args.v c.args.j c.args.table.now c.args.q.now c.requires)

pub swap_row-requires : goal.swap_row-requires
swap_row-requires c =
    rw (next_row c.loop-i.i (length c.args.q.now), add-sub_cancel_left) (swapping_row c.loop-i.invariant (omega (arith, c.loop-i-test.true)))

pub returns-in_err-swap_row : goal.returns-in_err-swap_row
returns-in_err-swap_row c =
    let s = c.swap_row in
    let e = rw (next_row c.loop-i.i (length c.args.q.now), add-sub_cancel_left) at s.ensures in
    swapping_stop c.loop-i.invariant (omega (arith, c.loop-i-test.true)) s.result s.new.r e c.in_err-swap_row.was c.from_residual.result _ c.from_residual.ensures.0

pub loop-i-preserved : goal.loop-i-preserved
loop-i-preserved c =
    let s = c.swap_row in
    let n = next_row c.loop-i.i (length c.args.q.now) in
    let k = rw (n, add-sub_cancel_left) at s.auto.r in
    let e = rw (n, add-sub_cancel_left) at s.ensures in
    let d : c.args.v - c.loop-i.i - 1 ≡ c.args.v - (c.loop-i.i + 1) = omega arith in
    rw (n, add-sub_cancel_left, ← d) (swapping_more c.loop-i.invariant (omega (arith, c.loop-i-test.true)) s.result s.new.r e c.in_ok-swap_row.was k)

pub returns : goal.returns
returns c = swapping_all c.loop-i.invariant (omega (arith, c.loop-i-test.false))
