-- `row::smallest::smallest` meets its contract. The loop's invariant: the best so far, held against the columns that are left, gives the pick of all.
use Rattle.std.proofs.Common.{sym, ◌∙◌, arith, w32}
use Rattle.whole.proofs.Signed.{read}
use Rattle.row.specs.Row.{at}
use Rattle.row.specs.Picked.{pick_of}
use Rattle.row.specs.Smaller.{smallest_more, smallest_end}
use Rattle.row.proofs.smallest.smallest.Goals as goal

pub loop-i-preserved : goal.loop-i-preserved
loop-i-preserved c =
    let l = c.loop-i in
    let r = c.args.r.now in
    let x = read w32 (at r l.i) (omega arith) in
    rw (c.better-best.ensures, x, ← smallest_more (pick_of l.best) r l.i (omega arith)) l.invariant

pub returns : goal.returns
returns c = let l = c.loop-i in sym (smallest_end (pick_of l.best) c.args.r.now l.i (omega arith)) ∙ l.invariant
