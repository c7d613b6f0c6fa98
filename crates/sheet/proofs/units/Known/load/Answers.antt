-- `sheet::units::Known::load` meets its contract.
use Rattle.std.proofs.Common.{sym, ◌∙◌}
use Rattle.sheet_rules.proofs.Prefix.{unit_of_lem}
use Rattle.sheet.proofs.units.Known.load.Goals as goal

pub returns-in-Line : goal.returns-in-Line
returns-in-Line c =
    let e = c.in-Line in
    rw e.is (c.read.ensures ∙ sym (unit_of_lem _ _ c.args.self.now.done e.i (rw e.is at c.requires.0)))
