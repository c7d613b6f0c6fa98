-- `sheet::ask::Work::answer_question` meets its contract. An accepted sheet's table and units are within the limit.
use Rattle.std.proofs.Common.{◌≡◌, refl, rules, ◌∙◌}
use Rattle.row.specs.Judged.{good, wide}
use Rattle.sheet_rules.proofs.WorkKept.{solved_kept}
use Rattle.sheet.specs.Sheets.{shape_in}
use Rattle.elimination.proofs.Courses.{mapped_err, mapped_ok}
use Rattle.sheet.specs.declared.refusal.Refusal as R
use Rattle.sheet.proofs.Questions.{Sought, sought_in_limit, sought_answer, said_refused}
use Rattle.sheet.proofs.room.Work.answer_question.Goals.{in-Line, in-Channel}
use Rattle.sheet.proofs.room.Work.answer_question.Goals as goal

pub put_in-requires-clause-row : goal.put_in-requires-clause-row
put_in-requires-clause-row c =
    let sheet = c.args.self.now.units.sheet in
    let p = c.match-question.source in
    let v = rw c.in_ok-done.was at c.requires.worked in
    let d = rw c.in_ok-done.was at c.requires.all_done in
    let o : Sought (shape_in sheet) c.args.question p.0 p.1 = elim c.match-question.branch [ in-Line w ↦ rw (w.in-Line.is, w.source-is) (refl, refl) | in-Channel w ↦ rw (w.in-Channel.is, w.source-is) (refl, refl) ] in
    rw d (sought_in_limit sheet.formed v c.args.question p.0 p.1 o c.requires.asked.there)

pub put_in-requires-clause-table : goal.put_in-requires-clause-table
put_in-requires-clause-table c =
    let v = rw c.in_ok-done.was at c.requires.worked in
    let d = rw c.in_ok-done.was at c.requires.all_done in
    (solved_kept _ _ c.args.self.now.units.sheet.formed v).kept.limit

pub returns-in_err-map_err-clause-answer : goal.returns-in_err-map_err-clause-answer
returns-in_err-map_err-clause-answer c =
    let w = c.args.self.now in
    let p = c.match-question.source in
    let v = rw c.in_ok-done.was at c.requires.worked in
    let d = rw c.in_ok-done.was at c.requires.all_done in
    let o : Sought (shape_in w.units.sheet) c.args.question p.0 p.1 = elim c.match-question.branch [ in-Line w ↦ rw (w.in-Line.is, w.source-is) (refl, refl) | in-Channel w ↦ rw (w.in-Channel.is, w.source-is) (refl, refl) ] in
    let m = mapped_err c.put_in.result _ c.map_err.ensures.cases c.in_err-map_err.was in
    let k = m.1.1 in
    let x : c.in_err-map_err.field-0.0 ≡ R.TheVariants.Wide p.1 = search rules in
    let judge = rw (m.1.0, c.args.self.now.roomy.unknown_columns, c.args.self.now.roomy.unknowns, d) at c.put_in.ensures.judged in
    sought_answer w.units.sheet.formed v c.args.question p.0 p.1 o c.requires.asked.there c.args.table.now wide judge
    ∙ said_refused (R.TheVariants.Wide p.1) c.from_residual-in_err-map_err.result c.args.table.now (rw x at c.from_residual-in_err-map_err.ensures.1)

pub returns-clause-answer : goal.returns-clause-answer
returns-clause-answer c =
    let w = c.args.self.now in
    let p = c.match-question.source in
    let v = rw c.in_ok-done.was at c.requires.worked in
    let d = rw c.in_ok-done.was at c.requires.all_done in
    let o : Sought (shape_in w.units.sheet) c.args.question p.0 p.1 = elim c.match-question.branch [ in-Line w ↦ rw (w.in-Line.is, w.source-is) (refl, refl) | in-Channel w ↦ rw (w.in-Channel.is, w.source-is) (refl, refl) ] in
    let m = mapped_ok c.put_in.result _ c.map_err.ensures.cases c.in_ok-map_err.was in
    let judge = rw (m, c.args.self.now.roomy.unknown_columns, c.args.self.now.roomy.unknowns, d) at c.put_in.ensures.judged in
    rw c.write_equation.ensures (sought_answer w.units.sheet.formed v c.args.question p.0 p.1 o c.requires.asked.there c.args.table.now (good c.put_in.new.self.elimination.equation.now) judge)
