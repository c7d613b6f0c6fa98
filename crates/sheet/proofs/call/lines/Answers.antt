-- `sheet::call::lines` meets its contract.
use Rattle.std.proofs.Common.{sym}
use native.Mathlib.Nat.{add-sub_cancel_left}
use Rattle.sheet.proofs.Calling.{lines_refused, lines_there}
use Rattle.sheet.proofs.call.lines.Goals as goal

pub returns-in_default : goal.returns-in_default
returns-in_default c = sym (lines_refused _ (rw c.in_default.is at c.check_sheet.ensures.checked))

pub returns : goal.returns
returns c =
    let e = c.in-Ok.ensures in
    rw (add-sub_cancel_left, c.lines_at-from.ensures) (sym (lines_there _ e.checked e.sheet.1))
