-- `sheet::units::give` meets its contract.
use Rattle.std.proofs.Common.{sym, ap, ◌∙◌, ◌*◌, length}
use native.Mathlib.Nat.{add-sub_cancel_left}
use Rattle.sheet_rules.specs.Parts.{part_long}
use Rattle.sheet.proofs.Stores.{copied, stored_room, stored_more}
use Rattle.sheet.proofs.units.give.Goals as goal

pub returns : goal.returns
returns c =
    let w = c.args.shape.columns in
    let a = w * c.args.k in
    let long = part_long w a c.args.store.now (stored_room c.requires.0 c.args.k c.requires.1) in
    let e = rw (add-sub_cancel_left a w) at c.copy.ensures ∙ copied c.args.unit.now _ (long ∙ sym c.requires.2) in
    stored_more c.requires.0 _ _ c.requires.1 (add-sub_cancel_left a w) (ap length e ∙ c.requires.2) (e ∙ c.requires.3)
