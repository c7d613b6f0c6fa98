-- `sheet::check::good_record` meets its contract.
use Rattle.std.proofs.Common.{sym, ap, ◌∙◌, ◌-◌}
use Rattle.whole.specs.Bytes.{signed}
use Rattle.row.specs.Row.{all_zero}
use Rattle.sheet.proofs.Exponents.{map_part}
use Rattle.sheet.proofs.check.good_record.Goals as goal

pub returns-then-in_range : goal.returns-then-in_range
returns-then-in_range c =
    let sh = c.args.parts.now.shape in
    let e = rw c.record_bytes-row.ensures at (c.all_zero.ensures ∙ ap all_zero (map_part signed (sh.unknown_columns - sh.unknowns) sh.unknowns _)) in
    let r = rw c.record_bytes-row.ensures at (sym c.in_range.ensures ∙ c.if-in_range.true) in
    rw r e
