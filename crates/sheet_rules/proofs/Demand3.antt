-- Demand 3 for calibration sheets: what the answers to `check`, the line question and the channel question say in units, for every
-- sheet and every lent table. `Units` are a unit for each unknown, "exponents as large as you like"; Agree.antt says which unit a
-- line has under them, and when it agrees.
use Rattle.std.specs.Prelude.{◌≡◌, refl, ◌≢◌, ◌↔◌, true, List, ℕ, ◌*◌, ◌≤◌, ◌<◌, ◌^◌, length, take, ℤ}
use Rattle.std.proofs.Common.{◌∙◌, ap, arith}
use Rattle.row.specs.Row.{all_in_limit}
use Rattle.elimination_rules.specs.Equation.{Verdict, accepted, clash_at, wide_at, spent_all}
use Rattle.elimination_rules.specs.Answer.{heard, unanswered, refuses}
use Rattle.elimination_rules.specs.Call.{on_verdict}
use Rattle.elimination_rules.specs.Units.{Units, MostGeneral}
use Rattle.sheet_rules.specs.Shape.{shape_of}
use Rattle.sheet_rules.specs.Checks.{well_formed, checked_sheet}
use Rattle.sheet_rules.specs.Calls.{check, ask_line, ask_channel}
use Rattle.sheet_rules.specs.Work.{solved}
use Rattle.sheet_rules.specs.Agree.{Same, reading_unit, line_unit, Agrees, Agreeing, FirstClash}
use Rattle.sheet_rules.specs.FormedLaws.{formed}
use Rattle.sheet_rules.proofs.WorkKept.{solved_kept, solved_ends}
use Rattle.sheet_rules.proofs.Bridge.{line_value, reading_value}
use Rattle.sheet_rules.specs.LinesStand.{general_agrees, clash_all}
use Rattle.sheet_rules.proofs.LinesStand.{solved_general, solved_clash}
use Rattle.sheet_rules.proofs.Answers.{check_accepted, line_asked, channel_asked, check_clash, check_is, check_answered, line_answered, channel_answered, asked_unit}
use Rattle.sheet_rules.specs.Demand3.{unknowns, lines, yielded, row_unit}

module _ (s : List ℕ) (lent : List ℤ) where
  -- ---- accepted
  module _ (k f : ℕ) (t : List ℤ) (h : check s lent ≡ heard 0 0 k f t) where
    -- "Take an accepted sheet. Give each free unknown any unit in the eight base units, exponents as large as you like, and the table
    -- yields units under which every line agrees. Every set of units under which all lines agree comes out of the table this way, from
    -- exactly one choice." The fields of MostGeneral are these sentences; f is the word in which the free unknowns' bits are set.
    pub most_general : MostGeneral 24 (unknowns s) 32 (Agrees (shape_of s) s (lines s)) (take (32 * unknowns s) t) f
    most_general = let a = check_accepted s lent k f t h in solved_general (shape_of s) s a.is_formed a.solved_is

    pub every_choice_agrees : (x : Units) → Agrees (shape_of s) s (lines s) (yielded s t x)
    every_choice_agrees x = most_general.solves x

    -- "No exponent in its work may pass 100,000,000 either way."
    pub table_in_limit : all_in_limit (take (32 * unknowns s) t) ≡ true
    table_in_limit = let a = check_accepted s lent k f t h in (solved_kept (shape_of s) s a.is_formed a.solved_is).kept.limit

    -- The rounds fit the answer's word.
    pub rounds_fit : k < 2 ^ 32
    rounds_fit =
        let a = check_accepted s lent k f t h in
        omega (arith, (solved_kept (shape_of s) s a.is_formed a.solved_is).rounds, a.is_formed.laid)

    module _ (lent' : List ℤ) (k' f' : ℕ) (row : List ℤ) where
      -- The line question's row, with a choice put in, is the unit of line i under the units that the table yields of that choice,
      pub line_is : (i : ℕ) → ask_line s i lent' ≡ heard 0 0 k' f' row → (x : Units) → Same (shape_of s) (row_unit s row x) (line_unit (shape_of s) s (yielded s t x) i)
      line_is i q x base l =
          let a = line_asked s lent' k' f' row i q in
          asked_unit (check_accepted s lent k f t h) a x base ∙ line_value (shape_of s) s a.is_formed (yielded s t x) i base a.among l

      -- and so is the channel question's that of a reading of channel c.
      pub channel_is : (c : ℕ) → ask_channel s c lent' ≡ heard 0 0 k' f' row → (x : Units) → Same (shape_of s) (row_unit s row x) (reading_unit (shape_of s) s (yielded s t x) c)
      channel_is c q x base l =
          let a = channel_asked s lent' k' f' row c q in
          asked_unit (check_accepted s lent k f t h) a x base ∙ reading_value (shape_of s) s a.is_formed (yielded s t x) c base a.among l

  -- ---- a clash
  -- "the line named is the first whose lines so far, itself included, have none."
  pub clash_place : (n k f : ℕ) (t : List ℤ) → check s lent ≡ heard 10 n k f t → FirstClash (shape_of s) s n
  clash_place n k f t h = let c = check_clash s lent n k f t h in solved_clash (shape_of s) s c.0 c.1

  -- "And where the sheet is well formed, the table has room and no exponent passes the limit, the sheet is refused as a clash exactly
  -- when no such set exists".
  pub clash_exactly : checked_sheet s ≡ well_formed → 32 * unknowns s ≤ length lent → ((i : ℕ) → check s lent ≢ refuses 9 i lent)
      → ((i : ℕ) × (check s lent ≡ refuses 10 i lent)) ↔ (Agreeing (shape_of s) s (lines s) → ⊥)
  clash_exactly h room narrow =
      (λ c. clash_all (shape_of s) s (clash_place c.0 0 0 lent c.1), by (solved (shape_of s) s) refl)
    where
      by : (a : Verdict) → solved (shape_of s) s ≡ a → (Agreeing (shape_of s) s (lines s) → ⊥) → (i : ℕ) × (check s lent ≡ refuses 10 i lent)
      by (accepted t k f) e none = absurd (none (general_agrees (shape_of s) s (lines s) (solved_general (shape_of s) s (formed s h) e)))
      by (clash_at i) e none = (i, check_is s lent h room ∙ ap (on_verdict lent) e)
      by (wide_at i) e none = absurd (narrow i (check_is s lent h room ∙ ap (on_verdict lent) e))
      by spent_all e none = absurd (solved_ends (shape_of s) s (formed s h) e)

  -- ---- "No exponent in its work may pass 100,000,000 either way": a question's row
  module _ (k f : ℕ) (row : List ℤ) where
    pub line_in_limit : (i : ℕ) → ask_line s i lent ≡ heard 0 0 k f row → all_in_limit (take 32 row) ≡ true
    line_in_limit i q = (line_asked s lent k f row i q).limit

    pub channel_in_limit : (c : ℕ) → ask_channel s c lent ≡ heard 0 0 k f row → all_in_limit (take 32 row) ≡ true
    channel_in_limit c q = (channel_asked s lent k f row c q).limit

  -- ---- "The checker takes every string of bytes and ends."
  pub check_ends : check s lent ≢ unanswered
  check_ends = check_answered s lent

  pub line_ends : (i : ℕ) → ask_line s i lent ≢ unanswered
  line_ends i = line_answered s lent i

  pub channel_ends : (c : ℕ) → ask_channel s c lent ≢ unanswered
  channel_ends c = channel_answered s lent c
