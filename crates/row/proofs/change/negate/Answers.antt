-- `row::change::negate` meets its contract.
use Rattle.std.proofs.Common.{◌≡◌, ◌∙◌, arith, pos, neg_ℤ, ◌-ℤ◌, ℤ, true, w32, FitsSigned}
use lib.IntN.{+ℤ_idl}
use Rattle.whole.specs.Size.{in_limit}
use Rattle.row.specs.Row.{at}
use Rattle.whole.proofs.Signed.{back, minus_in_limit}
use Rattle.row.specs.Tables.{all_at}
use Rattle.row.proofs.Loops.{painted_held}
use Rattle.row.proofs.Changed.{mapped_more}
use Rattle.row.proofs.change.negate.Goals as goal

-- Zero less a number is its negation, and fits where the number is within the limit.
zero_less : (z : ℤ) → pos 0 -ℤ z ≡ neg_ℤ z
zero_less z = +ℤ_idl (neg_ℤ z)

fits : (z : ℤ) → in_limit z ≡ true → FitsSigned w32 (pos 0 -ℤ z)
fits z e = rw (zero_less z) (minus_in_limit z e)

pub overflow_sub-x : goal.overflow_sub-x
overflow_sub-x c =
    let l = c.loop-x in
    let r = c.args.r.now in
    let e = painted_held w32 l.invariant.1 (omega arith) (omega arith) in
    rw e (fits (at r l.x-index) (all_at in_limit (pos 0) r l.x-index l.invariant.0 (omega arith)))

pub loop-x-preserved : goal.loop-x-preserved
loop-x-preserved c =
    let l = c.loop-x in
    let r = c.args.r.now in
    let e = painted_held w32 l.invariant.1 (omega arith) (omega arith) in
    let f = fits (at r l.x-index) (all_at in_limit (pos 0) r l.x-index l.invariant.0 (omega arith)) in
    (l.invariant.0, rw e (mapped_more neg_ℤ r l.invariant.1 (omega arith) _ (back f ∙ zero_less (at r l.x-index))))
