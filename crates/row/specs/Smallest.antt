-- "the unknown with the smallest nonzero size, the lowest column on a tie".
use Rattle.std.specs.Prelude.{List, [], ◌∷◌, ℕ, suc, eqb, ltb, ℤ, nat_abs}
use Rattle.whole.specs.Cases.{if}

-- A column with the size that stands in it.
pub data Pick : Type 0 where
  nothing : Pick
  column : ℕ → ℕ → Pick

-- Column i, of size a, against the best of those before it.
abbrev pub better : ℕ → ℕ → Pick → Pick
better i a nothing = if (eqb a 0) nothing (column i a)
better i a (column j b) = if (eqb a 0) (column j b) (if (ltb a b) (column i a) (column j b))

-- The columns from i on, with the best of those before.
unfoldable pub smallest_from : ℕ → Pick → List ℤ → Pick
smallest_from i b [] = b
smallest_from i b (x ∷ r) = smallest_from (suc i) (better i (nat_abs x) b) r

abbrev pub smallest : List ℤ → Pick
smallest r = smallest_from 0 nothing r

-- The size that was picked, or 0.
abbrev pub size_of : Pick → ℕ
size_of nothing = 0
size_of (column j a) = a
