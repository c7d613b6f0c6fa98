-- `row::change::less` meets its contract. The loop paints the row less f times q over the row; at a number past the limit it leaves.
use Rattle.std.proofs.Common.{◌≡◌, ◌<◌, ◌^◌, ap, ◌∙◌, List, ℕ, length, arith, ℤ, pos, ◌-ℤ◌, ◌*ℤ◌, w32, w64, to_z, of_z}
use Rattle.std.specs.Int.Signed.{mag}
use mir.Val.{hbits}
use Rattle.whole.specs.Size.{in_limit}
use Rattle.whole.specs.Judge.{judge_err}
use Rattle.whole.proofs.Signed.{back, read, judged_number}
use Rattle.row.specs.Row.{at, less}
use Rattle.row.specs.Values.{length_plus}
use Rattle.row.proofs.Loops.{Painted, painted_none, painted_held, painted_more, judged_stop, judged_all}
use Rattle.row.proofs.Changed.{less_turn}
use Rattle.row.proofs.change.less.Goals as goal

-- What `less_times` gives, as the code holds it, is the number in column i of the row that is to be.
turned : (f : ℤ) (q : List ℤ) {x : ℤ} {r l : List ℤ} {i : ℕ} → Painted in_limit (less f r q) r l i → i < length l
    → mag x < 2 ^ hbits w64 → mag (at l i) < 2 ^ hbits w32 → mag (at q i) < 2 ^ hbits w32
    → x ≡ to_z w32 (of_z w32 (at l i)) -ℤ f *ℤ to_z w32 (of_z w32 (at q i)) → to_z w64 (of_z w64 x) ≡ at (less f r q) i
turned f q {x} {r} {l} {i} P h a b d e = read w64 x a ∙ less_turn f r q i e (painted_held w32 P h b) (read w32 (at q i) d)

pub loop-i-init : goal.loop-i-init
loop-i-init c = (c.requires, painted_none in_limit (pos 0) _ _ (length_plus _ c.args.r.now c.args.q.now (omega arith)))

pub returns-in_err-r : goal.returns-in_err-r
returns-in_err-r c =
    let l = c.loop-i in
    let x = c.less_times in
    let t = turned (to_z w32 (of_z w32 c.args.f)) c.args.q.now l.invariant.1 (omega arith) x.type_inv (omega arith) (omega arith) x.ensures in
    rw (back c.ranges.f) at
    (judged_stop l.invariant.1 (omega arith) _ t (judge_err (to_z w64 (of_z w64 x.result)) _ c.judge.ensures c.in_err-r.was) _ c.from_residual.ensures.0)

pub loop-i-preserved : goal.loop-i-preserved
loop-i-preserved c =
    let l = c.loop-i in
    let x = c.less_times in
    let t = turned (to_z w32 (of_z w32 c.args.f)) c.args.q.now l.invariant.1 (omega arith) x.type_inv (omega arith) (omega arith) x.ensures in
    let k = judged_number c.judge.ensures c.in_ok-r.was in
    (l.invariant.0, painted_more in_limit (pos 0) _ _ l.r l.i l.invariant.1 (omega arith) _ (k.0 ∙ t) (ap in_limit k.0 ∙ k.1))

pub returns : goal.returns
returns c = rw (back c.ranges.f) at (judged_all c.loop-i.invariant.1 (omega arith))
