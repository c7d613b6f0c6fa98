-- What the functions of the elimination ask of their callers.
use Rattle.std.specs.Prelude.{◌≡◌, true, List, ℕ, ◌+◌, ◌*◌, ◌≤◌, ◌<◌, ◌^◌, length, take, ℤ, nat_abs}
use Rattle.row.specs.Row.{at, all_in_limit}
use Rattle.row.specs.Smallest.{smallest, size_of}

-- A table that unknown j can be replaced in by q.
pub record Swappable (v j : ℕ) (t q : List ℤ) : Type 0 where
  pub table : all_in_limit t ≡ true
  pub rows : length t ≡ v * length q
  pub column : j < length q

-- An equation of u unknown columns, with the table and room for its quotients: what `Ready` and the room's invariants say.
pub record ReadyLists (u v : ℕ) (t e q : List ℤ) : Type 0 where
  pub table : all_in_limit t ≡ true
  pub equation : all_in_limit e ≡ true
  pub columns : u ≤ length e
  pub word : u ≤ 64
  pub rows : length t ≡ v * length e
  pub room : length q ≡ length e

-- Column j is an unknown's, and not 0.
pub record Picked (u j : ℕ) (e : List ℤ) : Type 0 where
  pub unknown : j < u
  pub some : 0 < nat_abs (at e j)

-- The size of the smallest unknown, or 0: at least as many rounds are left to the count.
abbrev pub smallest_size : ℕ → List ℤ → ℕ
smallest_size u e = size_of (smallest (take u e))

abbrev pub Countable : ℕ → ℕ → List ℤ → Type 0
Countable u k e = k + smallest_size u e < 2 ^ 32
