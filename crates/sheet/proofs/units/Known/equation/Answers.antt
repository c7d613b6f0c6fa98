-- `sheet::units::Known::equation` meets its contract.
use Rattle.std.proofs.Common.{sym, ap, ◌∙◌, ◌∷◌, [], arith}
use Rattle.sheet.proofs.Sources.{equation_there, equation_is, wide_stated}
use Rattle.sheet.proofs.units.Known.equation.Goals as goal

pub work_out-requires : goal.work_out-requires
work_out-requires c =
    (equation_there c.args.self.now.sheet.formed (omega arith) c.line.ensures (rw c.in-Some.is at c.equation.ensures) c.args.self.now.done c.requires.0, c.requires.1, c.requires.2)

pub returns-in_err-work_out : goal.returns-in_err-work_out
returns-in_err-work_out c =
    let e = equation_is c.args.self.now.sheet.formed (omega arith) c.line.ensures (rw c.in-Some.is at c.equation.ensures) c.args.self.now.done c.requires.0 in
    e ∙ ap (λ j. j ∷ []) c.in_err-work_out.ensures ∙ sym (wide_stated c.from_residual.result c.work_out.new.out c.from_residual.ensures.0)

pub returns : goal.returns
returns c =
    let e = equation_is c.args.self.now.sheet.formed (omega arith) c.line.ensures (rw c.in-Some.is at c.equation.ensures) c.args.self.now.done c.requires.0 in
    e ∙ ap (λ j. j ∷ []) c.in_ok-work_out.ensures
