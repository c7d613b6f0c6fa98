-- What the functions on rows ask of their callers.
use Rattle.std.specs.Prelude.{◌≡◌, Bool, true, List, ℕ, ◌*◌, ◌≤◌, leb, ℤ, nat_abs, length}
use Rattle.row.specs.Row.{all, all_in_limit}

-- Every size is at most m.
abbrev pub all_within : ℕ → List ℤ → Bool
all_within m r = all (λ (z : ℤ). leb (nat_abs z) m) r

-- Rows that can be added up in 64 bits: a row for each number of fs.
pub record Addable (fs t r : List ℤ) : Type 0 where
  pub numbers : all_in_limit fs ≡ true
  pub table : all_in_limit t ≡ true
  pub row : all_in_limit r ≡ true
  pub few : length fs ≤ 64
  pub rows : length t ≡ length fs * length r

-- An equation of u unknown columns whose first v unknowns have rows, with room for sums and for the result.
pub record Replaceable (u v : ℕ) (t e sums out : List ℤ) : Type 0 where
  pub table : all_in_limit t ≡ true
  pub equation : all_in_limit e ≡ true
  pub unknowns : v ≤ u
  pub columns : u ≤ length e
  pub few : v ≤ 64
  pub rows : length t ≡ v * length e
  pub sums_long : length sums ≡ length e
  pub out_long : length out ≡ length e
