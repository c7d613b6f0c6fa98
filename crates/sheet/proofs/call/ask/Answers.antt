-- `sheet::call::ask` meets its contract.
use Rattle.std.proofs.Common.{sym, ◌∙◌}
use Rattle.sheet.proofs.Calling.{asked_refused, asked_absent, asked_short, asked_answered}
use Rattle.sheet.proofs.Questions.{said_refused}
use Rattle.sheet.proofs.call.ask.Goals as goal

pub returns-in_err-sheet : goal.returns-in_err-sheet
returns-in_err-sheet c =
    asked_refused _ c.args.question c.args.table.now (rw c.in_err-sheet.was at c.check_sheet.ensures.checked)
    ∙ said_refused c.in_err-sheet.field-0.0 c.from_residual.result c.args.table.now c.from_residual.ensures.1

pub returns-then-not-is_there : goal.returns-then-not-is_there
returns-then-not-is_there c =
    let e = c.in_ok-sheet.ensures in
    asked_absent _ e.checked e.sheet.1 c.args.question c.args.table.now (sym c.is_there.ensures ∙ c.if-not-is_there.true)

pub returns-then-table-room : goal.returns-then-table-room
returns-then-table-room c =
    let e = c.in_ok-sheet.ensures in
    asked_short _ e.checked e.sheet.1 c.args.question c.args.table.now (sym c.is_there.ensures ∙ c.if-not-is_there.false) (rw c.room.ensures at c.if-table-room.true)

pub returns : goal.returns
returns c =
    let e = c.in_ok-sheet.ensures in
    asked_answered _ e.checked e.sheet.1 c.args.question c.args.table.now (sym c.is_there.ensures ∙ c.if-not-is_there.false) (rw c.room.ensures at c.if-table-room.false)
    ∙ rw e.sheet.0 at c.owner.ensures
