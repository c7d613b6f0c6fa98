-- The elimination as other bench tools call it: "it takes V and equations of 32 numbers end to end".
use Rattle.std.specs.Prelude.{Bool, not, List, ℕ, zero, suc, ◌+◌, ◌-◌, ◌*◌, ◌/◌, ◌%◌, eqb, ltb, length, take, drop, ℤ}
use Rattle.whole.specs.Cases.{if}
use Rattle.whole.specs.Division.{quotient}
use Rattle.whole.specs.Place.{Found, place, nowhere, on_found}
use Rattle.row.specs.Row.{all_zero}
use Rattle.elimination_rules.specs.Equation.{Verdict, accepted, clash_at, wide_at, spent_all, eliminate}
use Rattle.elimination_rules.specs.Answer.{Answer, refuses, accepts, unanswered}

-- Columns v to u - 1 of a row hold 0.
abbrev pub unused : ℕ → ℕ → List ℤ → Bool
unused u v r = all_zero (take (u - v) (drop v r))

-- The first of m equations, from number i on, that is nonzero in a column that is not used.
unfoldable pub first_used : ℕ → ℕ → ℕ → ℕ → ℕ → List ℤ → Found
first_used u v w zero i es = nowhere
first_used u v w (suc m) i es = if (unused u v (take w es)) (first_used u v w m (i + 1) (drop w es)) (place i)

-- The fuel: more than the size of any exponent within the limit, so that no equation runs out of it.
abbrev pub fuel : ℕ
fuel = 100000001

-- "then 9 and 10 as equations come up", or what the accepted come to.
abbrev pub on_accepted : (List ℤ → ℕ → ℕ → Answer) → List ℤ → Verdict → Answer
on_accepted k lent (accepted t n f) = k t n f
on_accepted k lent (clash_at i) = refuses 10 i lent
on_accepted k lent (wide_at i) = refuses 9 i lent
on_accepted k lent spent_all = unanswered

abbrev pub on_verdict : List ℤ → Verdict → Answer
on_verdict lent v = on_accepted (λ t n f. accepts n f t lent) lent v

-- "It checks in this order: 3 if V > 24; 4 if the length is not a multiple of 32; 5 if a column from V to 23 is nonzero; 8 below
-- 32V numbers of table; then 9 and 10 as equations come up. The place of 5, 9 and 10 is the equation, lowest first; of the
-- others 0." Here for u unknown columns of w.
abbrev pub eliminated_by : ℕ → ℕ → ℕ → List ℤ → List ℤ → Answer
eliminated_by u w v es lent =
    if (ltb u v) (refuses 3 0 lent)
    (if (not (eqb (length es % w) 0)) (refuses 4 0 lent)
    (on_found (λ i. refuses 5 i lent)
    (if (ltb (length lent) (w * v)) (refuses 8 0 lent) (on_verdict lent (eliminate quotient fuel u v w (length es / w) es)))
    (first_used u v w (length es / w) 0 es)))

unfoldable pub eliminated : ℕ → List ℤ → List ℤ → Answer
eliminated v es lent = eliminated_by 24 32 v es lent
