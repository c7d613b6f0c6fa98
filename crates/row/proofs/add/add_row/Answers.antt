-- `row::add::add_row` meets its contract. The loop's invariant: the first i sums are those of the result, the others as they were lent.
use Rattle.std.proofs.Common.{refl, ◌∙◌, arith, pos, w32, w64}
use Rattle.whole.proofs.Signed.{read}
use Rattle.row.specs.Row.{at}
use Rattle.row.specs.Values.{at_plus, length_plus}
use Rattle.row.proofs.Loops.{always, painted_none, painted_held, painted_more}
use Rattle.row.proofs.Sums.{at_within}
use Rattle.row.proofs.add.add_row.Goals as goal

pub loop-i-init : goal.loop-i-init
loop-i-init c = painted_none always (pos 0) _ _ (length_plus _ c.args.sums.now c.args.row.now (omega arith))

-- The sum in column i is still the one that was lent.
pub plus_times-requires : goal.plus_times-requires
plus_times-requires c =
    let e = painted_held w64 c.loop-i.invariant (omega arith) (omega arith) in
    rw e (at_within 4000000000000000000 c.args.sums.now c.requires.0 c.loop-i.i (omega arith))

pub loop-i-preserved : goal.loop-i-preserved
loop-i-preserved c =
    let l = c.loop-i in
    let s = c.args in
    let x = painted_held w64 l.invariant (omega arith) (omega arith) in
    let y = read w32 (at s.row.now l.i) (omega arith) in
    painted_more always (pos 0) _ _ l.sums l.i l.invariant (omega arith) _
    (read w64 c.plus_times.result c.plus_times.type_inv
    ∙ rw (x, y, ← at_plus _ s.sums.now s.row.now l.i) at c.plus_times.ensures)
    refl
