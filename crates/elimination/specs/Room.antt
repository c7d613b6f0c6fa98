-- What the methods of an elimination ask of its room, and what they keep.
use Rattle.std.specs.Prelude.{◌≡◌, true, List, ℕ, ◌+◌, ◌*◌, ◌≤◌, ◌<◌, ◌^◌, length, ℤ}
use Rattle.row.specs.Row.{all_in_limit}
use Rattle.elimination.specs.declared.room.Elimination.{Elimination}

-- The same slices, of the same lengths, and the same unknowns.
pub record SameRoom (s t : Elimination) : Type 0 where
  pub unknown_columns : t.unknown_columns ≡ s.unknown_columns
  pub unknowns : t.unknowns ≡ s.unknowns
  pub width : length t.equation.now ≡ length s.equation.now
  pub sums_room : length t.sums.now ≡ length s.sums.now
  pub table : t.table.ghost_name ≡ s.table.ghost_name
  pub equation : t.equation.ghost_name ≡ s.equation.ghost_name
  pub quotients : t.quotients.ghost_name ≡ s.quotients.ghost_name
  pub sums : t.sums.ghost_name ≡ s.sums.ghost_name

-- A table and an equation with each number within the limit.
pub record Ready (s : Elimination) : Type 0 where
  pub table : all_in_limit s.table.now ≡ true
  pub equation : all_in_limit s.equation.now ≡ true

-- An equation e, with k rounds behind it.
pub record Placed (s : Elimination) (e : List ℤ) (k : ℕ) : Type 0 where
  pub table : all_in_limit s.table.now ≡ true
  pub unknowns : s.unknowns ≤ s.unknown_columns
  pub sums : length s.sums.now ≡ length s.equation.now
  pub long : length e ≡ length s.equation.now
  pub count : k + 100000000 < 2 ^ 32

-- m equations end to end.
pub record Lined (s : Elimination) (es : List ℤ) (m : ℕ) : Type 0 where
  pub unknowns : s.unknowns ≤ s.unknown_columns
  pub sums : length s.sums.now ≡ length s.equation.now
  pub few : s.unknowns ≤ 40
  pub long : length es ≡ m * length s.equation.now
