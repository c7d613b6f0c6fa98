-- "The listing". Only here places and names count from one.
use Rattle.std.specs.Prelude.{List, [], ◌++◌, ℕ, zero, suc, ◌+◌, eqb, take, drop, ℤ}
use Rattle.whole.specs.Cases.{if}
use Rattle.whole.specs.Word.{count}
use Rattle.row.specs.Judged.{Judged, good, wide, judged}
use Rattle.row.specs.Table.{replaced}
use Rattle.elimination_rules.specs.Equation.{Verdict, accepted, clash_at, wide_at, spent_all}
use Rattle.sheet_rules.specs.Shape.{Shape, shape_of}
use Rattle.sheet_rules.specs.Checks.{on_checked, checked_sheet}
use Rattle.sheet_rules.specs.Lines.{reads}
use Rattle.sheet_rules.specs.Work.{solved}
use Rattle.sheet_rules.specs.Quoted.{text}
use Rattle.sheet_rules.specs.Text.{decimal, counted, unit_text}

-- "the kind of place (record, channel, line) where 5, 6, 7, 9 or 10 has one".
pub data Kind : Type 0 where
  record' channel' line' : Kind
  placeless : Kind

abbrev pub kind_of : ℕ → Kind
kind_of n =
    if (eqb n 5) record' (if (eqb n 6) channel' (if (eqb n 7) line' (if (eqb n 9) line' (if (eqb n 10) line' placeless))))

abbrev pub place_text : Kind → ℕ → List ℕ
place_text record' i = counted (text " record ") i
place_text channel' i = counted (text " channel ") i
place_text line' i = counted (text " line ") i
place_text placeless i = []

-- "`refused 9 line 4`, the number, the kind of place .., and the place counted from one; otherwise `refused 2`."
abbrev pub refusal_text : ℕ → ℕ → List ℕ
refusal_text n i = text "refused " ++ decimal n ++ place_text (kind_of n) i ++ text "\n"

-- "`accepted`, rounds, number of free unknowns": the ones of the free word, which has 64 bits.
abbrev pub accepted_text : ℕ → ℕ → List ℕ
accepted_text k f = text "accepted " ++ decimal k ++ text " " ++ decimal (count 64 f) ++ text "\n"

-- "name, `=`, factors in column order".
abbrev pub line_text : ℕ → List ℕ → ℕ → List ℤ → List ℕ
line_text u letter i r = counted letter i ++ text " = " ++ unit_text (text " ") u r ++ text "\n"

-- A line for each of n unknowns, from unknown i on: its row of the table.
unfoldable pub unknown_lines : ℕ → ℕ → ℕ → ℕ → List ℤ → List ℕ
unknown_lines u w zero i t = []
unknown_lines u w (suc n) i t = line_text u (text "U") i (take w t) ++ unknown_lines u w n (i + 1) (drop w t)

-- The solved unit of channel c. "A channel past the limit after solving prints `C2 wide`."
abbrev pub channel_unit : Shape → List ℕ → List ℤ → ℕ → Judged
channel_unit sh s t c = judged (replaced sh.unknown_columns sh.unknowns t (reads sh s c))

abbrev pub channel_text : ℕ → ℕ → Judged → List ℕ
channel_text u c (good r) = line_text u (text "C") c r
channel_text u c wide = counted (text "C") c ++ text " wide\n"

-- A line for each of n channels, from channel c on.
unfoldable pub channel_lines : Shape → List ℕ → List ℤ → ℕ → ℕ → List ℕ
channel_lines sh s t zero c = []
channel_lines sh s t (suc n) c = channel_text sh.unknown_columns c (channel_unit sh s t c) ++ channel_lines sh s t n (c + 1)

abbrev pub verdict_text : Shape → List ℕ → Verdict → List ℕ
verdict_text sh s (accepted t k f) =
    accepted_text k f ++ unknown_lines sh.unknown_columns sh.columns sh.unknowns 0 t ++ channel_lines sh s t sh.channels 0
verdict_text sh s (clash_at i) = refusal_text 10 i
verdict_text sh s (wide_at i) = refusal_text 9 i
verdict_text sh s spent_all = []

unfoldable pub listing : List ℕ → List ℕ
listing s = on_checked refusal_text (verdict_text (shape_of s) s (solved (shape_of s) s)) (checked_sheet s)
