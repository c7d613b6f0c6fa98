-- "What the caller hears": the calls on a sheet.
use Rattle.std.specs.Prelude.{List, [], ℕ, ◌-◌, ◌*◌, eqb, leb, ltb, length, take, drop, ℤ}
use Rattle.whole.specs.Cases.{if}
use Rattle.row.specs.Judged.{judged, on_judged}
use Rattle.row.specs.Table.{replaced}
use Rattle.elimination_rules.specs.Equation.{Verdict}
use Rattle.elimination_rules.specs.Answer.{Answer, refuses, accepts}
use Rattle.elimination_rules.specs.Call.{on_accepted, on_verdict}
use Rattle.sheet_rules.specs.Shape.{Shape, shape_of, lines_at}
use Rattle.sheet_rules.specs.Checks.{on_checked, checked_sheet}
use Rattle.sheet_rules.specs.Lines.{unit_at, reads}
use Rattle.sheet_rules.specs.Work.{solved}

-- "Checking a sheet needs a table of at least 32V numbers."
unfoldable pub check_by : Shape → List ℕ → List ℤ → Answer
check_by sh s lent = if (ltb (length lent) (sh.columns * sh.unknowns)) (refuses 8 0 lent) (on_verdict lent (solved sh s))

unfoldable pub check : List ℕ → List ℤ → Answer
check s lent = on_checked (λ n i. refuses n i lent) (check_by (shape_of s) s lent) (checked_sheet s)

-- A row with the final table put in: a result past the limit is 9 at a place.
abbrev pub put_in : Shape → ℕ → List ℤ → List ℤ → Verdict → Answer
put_in sh place r lent v =
    on_accepted (λ t n f. on_judged (refuses 9 place lent) (λ row. accepts n f row lent) (judged (replaced sh.unknown_columns sh.unknowns t r)))
    lent v

-- A question k of n: "11 for k ≥ N and 8 below 32".
abbrev pub ask_by : Shape → List ℕ → ℕ → ℕ → ℕ → List ℤ → List ℤ → Answer
ask_by sh s n k place r lent =
    if (leb n k) (refuses 11 0 lent) (if (ltb (length lent) sh.columns) (refuses 8 0 lent) (put_in sh place r lent (solved sh s)))

-- "The line question asks for line k's unit with the final table put in"; "a result past the limit is 9 with place k".
unfoldable pub ask_line : List ℕ → ℕ → List ℤ → Answer
ask_line s k lent =
    let sh = shape_of s in
    on_checked (λ n i. refuses n i lent) (ask_by sh s sh.lines k k (unit_at sh s k) lent) (checked_sheet s)

-- The solved unit of channel c, as if a reading of it stood after the last line: a result past the limit has the place N, which
-- no line of the sheet has, and 11 says that there is no such channel.
unfoldable pub ask_channel : List ℕ → ℕ → List ℤ → Answer
ask_channel s c lent =
    let sh = shape_of s in
    on_checked (λ n i. refuses n i lent) (ask_by sh s sh.channels c sh.lines (reads sh s c) lent) (checked_sheet s)

-- "A third call hands back the caller's own bytes that hold the lines .. For refusals 1 to 7 and for N = 0 that part is empty."
unfoldable pub lines_part : List ℕ → List ℕ
lines_part s = let sh = shape_of s in on_checked (λ n i. []) (take (4 * sh.lines) (drop (lines_at sh) s)) (checked_sheet s)

-- Where that part begins: the lines stand before the trailer; 0 when there are none.
unfoldable pub lines_start : List ℕ → ℕ
lines_start s = if (eqb (length (lines_part s)) 0) 0 (length s - 16 - length (lines_part s))
