-- `sheet::room::Work::work_line` meets its contract.
use Rattle.std.proofs.Common.{◌∙◌}
use Rattle.row.specs.Judged.{good, wide}
use Rattle.elimination.proofs.Courses.{said_widened}
use Rattle.sheet.proofs.Courses.{unit_wide, no_equation, one_equation}
use Rattle.sheet.proofs.room.Work.work_line.Goals as goal

pub returns-in_err-add_next-clause-outcome : goal.returns-in_err-add_next-clause-outcome
returns-in_err-add_next-clause-outcome c =
    said_widened (unit_wide _ _ _ _ _ _ (rw c.in_err-add_next.was at c.add_next.ensures.judged)) c.from_residual.result _ c.from_residual.ensures.1

pub returns-in_err-equation-clause-outcome : goal.returns-in_err-equation-clause-outcome
returns-in_err-equation-clause-outcome c =
    said_widened
    (one_equation _ _ _ _ _ _ (rw c.in_ok-add_next.was at c.add_next.ensures.judged) wide (rw (c.in_err-equation.was, c.known.ensures.sheet, c.add_next.ensures.sheet) at c.equation.ensures))
    c.from_residual-in_err-equation.result _ c.from_residual-in_err-equation.ensures.1

pub returns-then-not-branch-clause-outcome : goal.returns-then-not-branch-clause-outcome
returns-then-not-branch-clause-outcome c =
    no_equation _ _ _ _ _ _ (rw c.in_ok-add_next.was at c.add_next.ensures.judged) (rw (c.in_ok-equation.was, c.if-not-branch.true, c.known.ensures.sheet, c.add_next.ensures.sheet) at c.equation.ensures)

pub returns-clause-outcome : goal.returns-clause-outcome
returns-clause-outcome c =
    one_equation _ _ _ _ _ _ (rw c.in_ok-add_next.was at c.add_next.ensures.judged) (good c.equation.new.e)
    (rw (c.in_ok-equation.was, c.if-not-branch.false, c.known.ensures.sheet, c.add_next.ensures.sheet) at c.equation.ensures)
    ∙ rw (c.args.self.now.roomy.unknown_columns, c.args.self.now.roomy.unknowns) at c.one.ensures.outcome
