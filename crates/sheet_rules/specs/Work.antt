-- The work on a well-formed sheet: its lines in order, each through the elimination.
use Rattle.std.specs.Prelude.{List, [], ◌∷◌, ℕ, zero, suc, ◌+◌, ℤ}
use Rattle.whole.specs.Division.{quotient}
use Rattle.whole.specs.Word.{first_set}
use Rattle.row.specs.Judged.{judged, on_judged}
use Rattle.row.specs.Table.{start}
use Rattle.elimination_rules.specs.Equation.{Outcome, done, clashed, widened, spent, one, Verdict, accepted, on_outcome}
use Rattle.elimination_rules.specs.Call.{fuel}
use Rattle.sheet_rules.specs.Shape.{Shape}
use Rattle.sheet_rules.specs.Lines.{unit_at, equations_at}

-- The equations of one line, in order; k rounds are behind, f is the free word.
abbrev pub on_done : (List ℤ → ℕ → ℕ → Outcome) → Outcome → Outcome
on_done go (done t k f) = go t k f
on_done go clashed = clashed
on_done go widened = widened
on_done go spent = spent

unfoldable pub equations : Shape → List (List ℤ) → List ℤ → ℕ → ℕ → Outcome
equations sh [] t k f = done t k f
equations sh (e ∷ es) t k f =
    on_done (λ t' k' f'. equations sh es t' k' f') (one quotient fuel sh.unknown_columns sh.unknowns t e k f)

-- What line i comes to. The limit is applied, "in this order for each line, to the line's unit, the equation, the equation after
-- replacing, and every row after each round".
unfoldable pub line_outcome : Shape → List ℕ → ℕ → List ℤ → ℕ → ℕ → Outcome
line_outcome sh s i t k f = on_judged widened (λ _. equations sh (equations_at sh s i) t k f) (judged (unit_at sh s i))

-- m lines from line i on.
unfoldable pub work : Shape → List ℕ → ℕ → ℕ → List ℤ → ℕ → ℕ → Verdict
work sh s zero i t k f = accepted t k f
work sh s (suc m) i t k f = on_outcome (λ t' k' f'. work sh s m (i + 1) t' k' f') i (line_outcome sh s i t k f)

abbrev pub solved : Shape → List ℕ → Verdict
solved sh s = work sh s sh.lines 0 (start sh.columns sh.unknowns) 0 (first_set sh.unknowns)
