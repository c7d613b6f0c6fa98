-- A table: rows of w numbers each, end to end in one list.
use Rattle.std.specs.Prelude.{List, [], ◌∷◌, ◌++◌, ℕ, zero, suc, length, take, drop, set, replicate, ℤ, pos}
use Rattle.row.specs.Row.{plus, dot}

-- g of each of the v rows.
unfoldable pub each_row : (List ℤ → List ℤ) → ℕ → ℕ → List ℤ → List ℤ
each_row g w zero t = t
each_row g w (suc v) t = g (take w t) ++ each_row g w v (drop w t)

-- The rows of t, each times its number in fs, added to r.
unfoldable pub add_rows : ℕ → List ℤ → List ℤ → List ℤ → List ℤ
add_rows w [] t r = r
add_rows w (f ∷ fs) t r = add_rows w fs (drop w t) (plus f r (take w t))

-- The constants of e: its columns from u on, with 0 for the u unknowns.
abbrev pub constants : ℕ → List ℤ → List ℤ
constants u e = replicate u (pos 0) ++ drop u e

-- "replace every unknown by its row": v unknowns of u unknown columns.
abbrev pub replaced : ℕ → ℕ → List ℤ → List ℤ → List ℤ
replaced u v t e = add_rows (length e) (take v e) t (constants u e)

-- "unknown j equal to itself": a row of w numbers.
abbrev pub itself : ℕ → ℕ → List ℤ
itself w j = set (replicate w (pos 0)) j (pos 1)

-- n such rows, for the unknowns from j on.
unfoldable pub start_from : ℕ → ℕ → ℕ → List ℤ
start_from w j zero = []
start_from w j (suc n) = itself w j ++ start_from w (suc j) n

abbrev pub start : ℕ → ℕ → List ℤ
start w v = start_from w 0 v

-- P of each of the v rows.
abbrev pub Rows : (List ℤ → Type 0) → ℕ → ℕ → List ℤ → Type 0
Rows P w zero t = Unit {0}
Rows P w (suc v) t = P (take w t) × Rows P w v (drop w t)

-- The value of each of the v rows at an assignment.
unfoldable pub row_values : ℕ → ℕ → List ℤ → List ℤ → List ℤ
row_values w zero t a = []
row_values w (suc v) t a = dot (take w t) a ∷ row_values w v (drop w t) a
