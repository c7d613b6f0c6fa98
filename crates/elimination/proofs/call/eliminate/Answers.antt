-- `elimination::call::eliminate` meets its contract.
use Rattle.std.proofs.Common.{◌∙◌}
use Rattle.elimination.specs.Refusals.{stopped_as}
use Rattle.elimination.proofs.Courses.{refuses_unknowns, refuses_length, refuses_column, refuses_room, is_worked, said_refused}
use Rattle.elimination.proofs.call.eliminate.Goals as goal

pub returns-then-v-gt-UNKNOWN_COLUMNS : goal.returns-then-v-gt-UNKNOWN_COLUMNS
returns-then-v-gt-UNKNOWN_COLUMNS c = refuses_unknowns _ _ _ c.if-v-gt-UNKNOWN_COLUMNS.true

pub returns-then-numbers-ne0 : goal.returns-then-numbers-ne0
returns-then-numbers-ne0 c = refuses_length _ _ _ c.if-v-gt-UNKNOWN_COLUMNS.false c.if-numbers-ne0.true

pub returns-in-Some : goal.returns-in-Some
returns-in-Some c = refuses_column _ _ _ c.if-v-gt-UNKNOWN_COLUMNS.false c.if-numbers-ne0.false _ (rw c.in-Some.is at c.first_used.ensures)

pub returns-then-table-v : goal.returns-then-table-v
returns-then-table-v c = refuses_room _ _ _ c.if-v-gt-UNKNOWN_COLUMNS.false c.if-numbers-ne0.false (rw c.in_default.is at c.first_used.ensures) c.if-table-v.true

pub returns-in_err-owner : goal.returns-in_err-owner
returns-in_err-owner c =
    is_worked _ _ _ c.if-v-gt-UNKNOWN_COLUMNS.false c.if-numbers-ne0.false (rw c.in_default.is at c.first_used.ensures) c.if-table-v.false
    ∙ rw c.in_err-owner.was at c.owner.ensures ∙ said_refused (stopped_as c.in_err-owner.field-0.0) c.from_residual.result _ c.from_residual.ensures.1

pub returns : goal.returns
returns c =
    is_worked _ _ _ c.if-v-gt-UNKNOWN_COLUMNS.false c.if-numbers-ne0.false (rw c.in_default.is at c.first_used.ensures) c.if-table-v.false
    ∙ rw c.in_ok-owner.was at c.owner.ensures
