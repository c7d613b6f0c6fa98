-- What the code answers, in the words of the rules.
use Rattle.std.specs.Prelude.{List, ℕ, ℤ, Result, Ok, Err}
use Rattle.elimination_rules.specs.Round.{Turn, holds, solved, again, clash, wide}
use Rattle.elimination_rules.specs.Equation.{Outcome, done, clashed, widened}
use Rattle.elimination_rules.specs.Equation as E
use Rattle.elimination.specs.declared.progress.Progress.{Progress}
use Rattle.elimination.specs.declared.progress.Stop as S
use Rattle.elimination.specs.declared.progress.Stopped.{Stopped}
use Rattle.elimination.specs.declared.round.Turned as T

-- A round, with the table and the equation that it leaves.
abbrev pub turn_of : Result T.Turned S.Stop → List ℤ → List ℤ → Turn
turn_of (Ok T.TheVariants.Holds) t e = holds t
turn_of (Ok (T.TheVariants.Solved f)) t e = solved t f
turn_of (Ok T.TheVariants.Again) t e = again t e
turn_of (Err S.TheVariants.Clash) t e = clash
turn_of (Err S.TheVariants.Wide) t e = wide

-- An equation, with the table that it leaves.
abbrev pub outcome_of : Result Progress S.Stop → List ℤ → Outcome
outcome_of (Ok p) t = done t p.rounds p.free
outcome_of (Err S.TheVariants.Clash) t = clashed
outcome_of (Err S.TheVariants.Wide) t = widened

-- The equations in order, with the own table.
abbrev pub stopped_at : S.Stop → ℕ → E.Verdict
stopped_at S.TheVariants.Clash i = E.clash_at i
stopped_at S.TheVariants.Wide i = E.wide_at i

abbrev pub verdict_of : Result Progress Stopped → List ℤ → E.Verdict
verdict_of (Ok p) t = E.accepted t p.rounds p.free
verdict_of (Err s) t = stopped_at s.why s.at
