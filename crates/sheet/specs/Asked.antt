-- Questions: what is asked of a sheet, and what the answer is.
use Rattle.std.specs.Prelude.{◌≡◌, Bool, true, List, ℕ, ◌*◌, ◌≤◌, ltb, ℤ, length}
use Rattle.elimination_rules.specs.Equation.{Verdict}
use Rattle.elimination_rules.specs.Answer.{Answer}
use Rattle.elimination_rules.specs.Call.{on_verdict}
use Rattle.sheet_rules.specs.Shape.{Shape}
use Rattle.sheet_rules.specs.Lines.{unit_at, reads}
use Rattle.sheet_rules.specs.Calls.{check, ask_line, ask_channel, put_in}
use Rattle.sheet.specs.declared.ask.Question as Q

-- There is such a line or channel.
abbrev pub is_there : Shape → Q.Question → Bool
is_there sh Q.TheVariants.Table = true
is_there sh (Q.TheVariants.Line k) = ltb k sh.lines
is_there sh (Q.TheVariants.Channel c) = ltb c sh.channels

-- How many numbers the lent table has to have.
abbrev pub room_for : Shape → Q.Question → ℕ
room_for sh Q.TheVariants.Table = sh.columns * sh.unknowns
room_for sh (Q.TheVariants.Line k) = sh.columns
room_for sh (Q.TheVariants.Channel c) = sh.columns

-- There is what is asked for, and room for it in the lent table.
pub record Askable (sh : Shape) (question : Q.Question) (lent : List ℤ) : Type 0 where
  pub there : is_there sh question ≡ true
  pub room : room_for sh question ≤ length lent

-- The answer of a well-formed sheet that came to a verdict.
abbrev pub answer_on : Shape → List ℕ → Q.Question → List ℤ → Verdict → Answer
answer_on sh s Q.TheVariants.Table lent v = on_verdict lent v
answer_on sh s (Q.TheVariants.Line k) lent v = put_in sh k (unit_at sh s k) lent v
answer_on sh s (Q.TheVariants.Channel c) lent v = put_in sh sh.lines (reads sh s c) lent v

-- The call that asks it.
abbrev pub asked : List ℕ → Q.Question → List ℤ → Answer
asked s Q.TheVariants.Table lent = check s lent
asked s (Q.TheVariants.Line k) lent = ask_line s k lent
asked s (Q.TheVariants.Channel c) lent = ask_channel s c lent
