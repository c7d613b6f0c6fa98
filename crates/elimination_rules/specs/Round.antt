-- "Elimination", one round. The table t has v rows; an equation e has u unknown columns and constants after them; f is the
-- word of free unknowns. The division is a parameter, named by its quotient. The steps stand from the last to the first: `round`,
-- at the end, is the whole.
use Rattle.std.specs.Prelude.{List, ℕ, ℤ, pos, length, take, drop, set}
use Rattle.std.specs.Int.Signed.{lt_z}
use Rattle.whole.specs.Cases.{if}
use Rattle.whole.specs.Word.{cleared}
use Rattle.row.specs.Row.{at, all_zero, less}
use Rattle.row.specs.Divide.{negated, quotients_by, remainders_by}
use Rattle.row.specs.Judged.{judged, on_judged}
use Rattle.row.specs.Smallest.{Pick, nothing, column, smallest}
use Rattle.row.specs.Table.{each_row}

-- Unknown j of a row replaced: the row less its number at j times q. With q 1 at j, the unknown is gone from the row; with q 0
-- at j, it stays.
abbrev pub swap : ℕ → List ℤ → List ℤ → List ℤ
swap j q r = less (at r j) r q

-- .. of every row of the table.
abbrev pub swaps : ℕ → ℕ → List ℤ → List ℤ → List ℤ
swaps v j q t = each_row (swap j q) (length q) v t

-- What a round comes to: nothing was to be done; solved, with the table and the free word; to be repeated, with the table and
-- what remains of the equation; a clash; past the limit.
pub data Turn : Type 0 where
  holds : List ℤ → Turn
  solved : List ℤ → ℕ → Turn
  again : List ℤ → List ℤ → Turn
  clash wide : Turn

-- 4. "If every unknown's r is 0 and some base's is not: a clash."
-- 5. "If every r is 0: in every row replace the picked unknown by the product of the others and the bases, each to −q. Its
-- column is now 0 everywhere and no longer free. Done."
-- 6. "Otherwise replace it in every row by itself times that same product. The equation becomes p in the picked column and the
-- remainders elsewhere, and repeat with what remains."
-- The quotient of p itself is 1, its remainder 0. "every row after each round" is judged.
abbrev pub turn_by : ℕ → ℕ → List ℤ → ℕ → ℕ → ℤ → List ℤ → List ℤ → Turn
turn_by u v t f j p q r =
    if (all_zero (take u r))
    (if (all_zero (drop u r)) (on_judged wide (λ t'. solved t' (cleared f j)) (judged (swaps v j q t))) clash)
    (on_judged wide (λ t'. again t' (set r j p)) (judged (swaps v j (set q j (pos 0)) t)))

-- 3. "Divide every other exponent x by p: quotient q, remainder r": the round that picked j, where e's number at j is above 0.
unfoldable pub turn : (ℤ → ℤ → ℤ) → ℕ → ℕ → List ℤ → List ℤ → ℕ → ℕ → Turn
turn quo u v t e f j = turn_by u v t f j (at e j) (quotients_by quo (at e j) e) (remainders_by quo (at e j) e)

-- 2. "If its exponent p is negative, negate the whole equation, so p > 0."
abbrev pub upright : List ℤ → ℕ → List ℤ
upright e j = if (lt_z (at e j) (pos 0)) (negated e) e

-- 1. "If no unknown column is nonzero: done if all bases are 0, else a clash."
abbrev pub round_by : (ℤ → ℤ → ℤ) → ℕ → ℕ → List ℤ → List ℤ → ℕ → Pick → Turn
round_by quo u v t e f nothing = if (all_zero (drop u e)) (holds t) clash
round_by quo u v t e f (column j a) = turn quo u v t (upright e j) f j

-- 2. "Pick the unknown with the smallest nonzero size, the lowest column on a tie."
abbrev pub round : (ℤ → ℤ → ℤ) → ℕ → ℕ → List ℤ → List ℤ → ℕ → Turn
round quo u v t e f = round_by quo u v t e f (smallest (take u e))
