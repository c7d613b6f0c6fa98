-- `elimination::table::swap_row` meets its contract.
use Rattle.std.proofs.Common.{sym, ap, ◌∙◌, w32, to_z, arith}
use Rattle.whole.proofs.Signed.{read}
use Rattle.row.specs.Row.{at}
use Rattle.elimination.proofs.Tables.{swap_none}
use Rattle.elimination.proofs.table.swap_row.Goals as goal

pub returns-then-f-eq0 : goal.returns-then-f-eq0
returns-then-f-eq0 c =
    let f = read w32 (at c.args.r.now c.args.j) (omega arith) in
    swap_none c.args.j c.args.q.now c.args.r.now c.requires.0 c.requires.1 (sym f ∙ ap (to_z w32) c.if-f-eq0.true)
