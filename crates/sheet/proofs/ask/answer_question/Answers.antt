-- `sheet::ask::answer_question` meets its contract. An accepted sheet's table and units are within the limit.
use Rattle.std.proofs.Common.{refl, arith}
use Rattle.std.proofs.lemmas.Bool.{ltb-true}
use Rattle.sheet_rules.proofs.WorkKept.{solved_kept}
use Rattle.sheet.specs.declared.ask.Question as Q
use Rattle.sheet.specs.declared.line.Source as S
use Rattle.sheet.proofs.Questions.{sought_in_limit}
use Rattle.sheet.proofs.ask.answer_question.Goals as goal

pub copy-requires : goal.copy-requires
copy-requires c =
    let w = c.args.worked.now in
    let k = (solved_kept _ _ w.sheet.formed (rw c.in_ok-done.was at w.solved)).kept in
    omega (arith, k.long, rw c.in-Table.is at c.requires.asked.room)

pub put_in-requires-clause-limit : goal.put_in-requires-clause-limit
put_in-requires-clause-limit c =
    let w = c.args.worked.now in
    let s = solved_kept _ _ w.sheet.formed (rw c.in_ok-done.was at w.solved) in
    rw c.read.ensures (s.units c.in-Line.k (ltb-true c.in-Line.k w.sheet.parts.shape.lines (rw c.in-Line.is at c.requires.asked.there)))

pub put_in-requires-in-Channel-clause-limit : goal.put_in-requires-in-Channel-clause-limit
put_in-requires-in-Channel-clause-limit c =
    let w = c.args.worked.now in
    let v = rw c.in_ok-done.was at w.solved in
    let a = rw c.in-Channel.is at c.requires.asked.there in
    rw (c.record.ensures, c.channel.ensures) (sought_in_limit w.sheet.formed v (Q.TheVariants.Channel c.in-Channel.c) (S.TheVariants.Channel c.in-Channel.c) _ (refl, refl) a)
