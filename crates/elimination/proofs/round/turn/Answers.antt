-- `elimination::round::turn` meets its contract.
use Rattle.std.proofs.Common.{sym, ◌∙◌, w32}
use Rattle.whole.proofs.Signed.{read}
use Rattle.elimination.proofs.Turns.{part_end, said_wide, turn_clash, turn_solved, turn_again}
use Rattle.elimination.proofs.round.turn.Goals as goal

pub returns-then-not-all_zero : goal.returns-then-not-all_zero
returns-then-not-all_zero c =
    turn_clash _ _ _ _ _ _ c.divide_by-p.ensures (sym c.all_zero.ensures ∙ c.if-all_zero.true) (sym (rw (part_end c.args.u c.divide_by-p.new.e) at c.all_zero-then-all_zero.ensures) ∙ c.if-not-all_zero.true)

pub returns-in-Err : goal.returns-in-Err
returns-in-Err c =
    let y = c.swap_rows in
    turn_solved _ _ _ _ _ _ c.divide_by-p.ensures y.new.table (sym c.all_zero.ensures ∙ c.if-all_zero.true) (sym (rw (part_end c.args.u c.divide_by-p.new.e) at c.all_zero-then-all_zero.ensures) ∙ c.if-not-all_zero.false)
    y.ensures c.in-Err.is

pub returns-then-all_zero : goal.returns-then-all_zero
returns-then-all_zero c =
    let y = c.swap_rows in
    rw c.without.ensures
    (turn_solved _ _ _ _ _ _ c.divide_by-p.ensures y.new.table (sym c.all_zero.ensures ∙ c.if-all_zero.true) (sym (rw (part_end c.args.u c.divide_by-p.new.e) at c.all_zero-then-all_zero.ensures) ∙ c.if-not-all_zero.false)
    y.ensures c.in_default.is)

pub returns-in_err-swap_rows : goal.returns-in_err-swap_rows
returns-in_err-swap_rows c =
    let y = c.swap_rows-2 in
    said_wide
    (turn_again _ _ _ _ _ _ c.divide_by-p.ensures y.new.table (sym c.all_zero.ensures ∙ c.if-all_zero.false) y.ensures c.in_err-swap_rows.was)
    c.from_residual.result _ _ c.from_residual.ensures.1

pub returns : goal.returns
returns c =
    let d = c.divide_by-p in
    let y = c.swap_rows-2 in
    rw (read w32 d.result d.type_inv)
    (turn_again _ _ _ _ _ _ d.ensures y.new.table (sym c.all_zero.ensures ∙ c.if-all_zero.false) y.ensures c.in_ok-swap_rows.was)
