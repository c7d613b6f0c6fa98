-- `sheet::check::check_sheet` meets its contract.
use Rattle.std.proofs.Common.{◌≡◌, arith}
use Rattle.std.proofs.lemmas.Grind.{common_steps}
use Rattle.sheet_rules.specs.Checks.{well_formed, checked_sheet}
use Rattle.sheet_rules.specs.FormedLaws.{formed}
use Rattle.sheet.proofs.check.check_sheet.Goals as goal

pub invariant_of-result : goal.invariant_of-result
unfolding checked_sheet
invariant_of-result c =
    let e : checked_sheet c.args.s.now ≡ well_formed = grind (arith, common_steps) in record { formed = rw c.read-shape.ensures (formed c.args.s.now e) }
