-- `row::add::constants` meets its contract. The loop's invariant: the first i numbers are those of the result.
use Rattle.std.proofs.Common.{rules, refl, sym, ◌∙◌, arith, pos, replicate, length, ◌≡◌, w32, w64}
use Rattle.whole.proofs.Signed.{read}
use Rattle.row.specs.Row.{at}
use Rattle.row.specs.Tables.{constants_high}
use Rattle.row.proofs.Loops.{always, painted_more, painted_all}
use Rattle.row.proofs.Sums.{constants_begin}
use Rattle.row.proofs.add.constants.Goals as goal

pub loop-i-init : goal.loop-i-init
loop-i-init c =
    let u = c.args.u in
    let e = c.args.e.now in
    let f : c.fill.new.self ≡ replicate (length c.args.sums.now) (pos 0) = search rules in
    rw f (constants_begin u (length c.args.sums.now) e c.requires.0 c.requires.1)

pub loop-i-preserved : goal.loop-i-preserved
loop-i-preserved c =
    let l = c.loop-i in
    let s = c.args in
    let x = read w32 (at s.e.now l.i) (omega arith) in
    painted_more always (pos 0) _ _ l.sums l.i l.invariant (omega arith) _
    (read w64 c.from.result c.from.type_inv ∙ c.from.ensures ∙ x ∙ sym (constants_high s.u s.e.now l.i l.auto.i))
    refl

pub returns : goal.returns
returns c = painted_all always (pos 0) _ _ _ _ c.loop-i.invariant (omega arith)
