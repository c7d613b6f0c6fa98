-- `elimination::equation::Elimination::one` meets its contract.
use Rattle.std.proofs.Common.{sym, ap, ◌∙◌}
use Rattle.row.specs.Row.{all_in_limit}
use Rattle.elimination.proofs.Courses.{one_wide, said_widened, replaced_wide, replaced_countable, one_solves}
use Rattle.elimination.proofs.room.Elimination.one.Goals as goal

pub returns-then-not-all_in_limit-clause-outcome : goal.returns-then-not-all_in_limit-clause-outcome
returns-then-not-all_in_limit-clause-outcome c = one_wide _ _ _ _ _ _ (sym c.all_in_limit.ensures ∙ c.if-not-all_in_limit.true)

pub returns-in_err-replace_first-clause-outcome : goal.returns-in_err-replace_first-clause-outcome
returns-in_err-replace_first-clause-outcome c =
    said_widened
    (replaced_wide _ _ _ _ _ _ (sym c.all_in_limit.ensures ∙ c.if-not-all_in_limit.false) (rw c.in_err-replace_first.was at c.replace_first.ensures.judged))
    c.from_residual.result _ c.from_residual.ensures.1

pub solve-requires : goal.solve-requires
solve-requires c =
    let s = c.replace_first.new.self in
    let r = replaced_countable s.unknown_columns c.args.done.rounds _ s.equation.now (rw c.in_ok-replace_first.was at c.replace_first.ensures.judged) c.requires.count in
    (record { table = ap all_in_limit c.replace_first.ensures.table ∙ c.requires.table; equation = r.0 }, r.1)

pub returns-clause-outcome : goal.returns-clause-outcome
returns-clause-outcome c =
    let r = c.replace_first.ensures in
    one_solves _ _ _ _ _ _ (sym c.all_in_limit.ensures ∙ c.if-not-all_in_limit.false) c.replace_first.new.self.equation.now _ (rw c.in_ok-replace_first.was at r.judged)
    (rw (r.room.unknown_columns, r.room.unknowns, r.table) at c.solve.ensures.solved)
