-- "Elimination", the rounds of one equation and the equations in order.
use Rattle.std.specs.Prelude.{List, ℕ, zero, suc, ◌+◌, ℤ, take, drop}
use Rattle.whole.specs.Word.{first_set}
use Rattle.row.specs.Judged.{judged, on_judged}
use Rattle.row.specs.Table.{replaced, start}
use Rattle.elimination_rules.specs.Round.{Turn, holds, solved, again, clash, wide, round}

-- What an equation comes to: done, with the table, the rounds so far and the free word. `spent` says that the fuel ran out,
-- which no answer ever says.
pub data Outcome : Type 0 where
  done : List ℤ → ℕ → ℕ → Outcome
  clashed widened spent : Outcome

-- k rounds are behind. "This is not counted as a round." "Count one round."
abbrev pub on_turn : (List ℤ → List ℤ → Outcome) → ℕ → ℕ → Turn → Outcome
on_turn go k f (holds t) = done t k f
on_turn go k f (solved t f') = done t (k + 1) f'
on_turn go k f (again t e) = go t e
on_turn go k f clash = clashed
on_turn go k f wide = widened

-- "in rounds", with fuel.
unfoldable pub solve : (ℤ → ℤ → ℤ) → ℕ → ℕ → ℕ → List ℤ → List ℤ → ℕ → ℕ → Outcome
solve quo zero u v t e k f = spent
solve quo (suc n) u v t e k f = on_turn (λ t' e'. solve quo n u v t' e' (k + 1) f) k f (round quo u v t e f)

-- "For each equation, replace every unknown by its row; then, in rounds". The limit is applied to "the equation, the equation
-- after replacing, and every row after each round".
unfoldable pub one : (ℤ → ℤ → ℤ) → ℕ → ℕ → ℕ → List ℤ → List ℤ → ℕ → ℕ → Outcome
one quo n u v t e k f =
    on_judged widened (λ e. on_judged widened (λ e'. solve quo n u v t e' k f) (judged (replaced u v t e))) (judged e)

-- What the equations come to, with the place of the one that ended the work.
pub data Verdict : Type 0 where
  accepted : List ℤ → ℕ → ℕ → Verdict
  clash_at wide_at : ℕ → Verdict
  spent_all : Verdict

abbrev pub on_outcome : (List ℤ → ℕ → ℕ → Verdict) → ℕ → Outcome → Verdict
on_outcome go i (done t k f) = go t k f
on_outcome go i clashed = clash_at i
on_outcome go i widened = wide_at i
on_outcome go i spent = spent_all

-- m equations of w numbers, end to end, of which the first is number i.
unfoldable pub each : (ℤ → ℤ → ℤ) → ℕ → ℕ → ℕ → ℕ → ℕ → ℕ → List ℤ → List ℤ → ℕ → ℕ → Verdict
each quo n u v w zero i es t k f = accepted t k f
each quo n u v w (suc m) i es t k f =
    on_outcome (λ t' k' f'. each quo n u v w m (i + 1) (drop w es) t' k' f') i (one quo n u v t (take w es) k f)

-- "It starts with unknown j equal to itself, all V columns free."
abbrev pub eliminate : (ℤ → ℤ → ℤ) → ℕ → ℕ → ℕ → ℕ → ℕ → List ℤ → Verdict
eliminate quo n u v w m es = each quo n u v w m 0 es (start w v) 0 (first_set v)
