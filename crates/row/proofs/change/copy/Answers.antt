-- `row::change::copy` meets its contract. The loop paints `from`, and what follows it in `to`, over `to`, and ends with `from`.
use Rattle.std.proofs.Common.{refl, sym, ◌∙◌, arith, pos, length, drop, w32}
use lib.ListN.{get_or-append}
use Rattle.whole.proofs.Signed.{read}
use Rattle.row.specs.Row.{at}
use Rattle.row.proofs.Loops.{always, painted_more}
use Rattle.row.proofs.change.copy.Goals as goal

pub loop-i-preserved : goal.loop-i-preserved
loop-i-preserved c =
    let l = c.loop-i in
    let s = c.args.from.now in
    let r = c.args.to.now in
    let e = read w32 (at s l.i) (omega arith) ∙ sym (get_or-append s (drop (length s) r) (pos 0) l.i (omega arith)) in
    (l.invariant.0, painted_more always (pos 0) _ r l.to l.i l.invariant.1 (omega arith) _ e refl)
