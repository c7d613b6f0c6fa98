-- "What the caller hears": a number, a place, rounds and the mask of free unknowns, and what the lent table then holds.
use Rattle.std.specs.Prelude.{List, ◌++◌, ℕ, length, drop, ℤ}

-- `unanswered` stands for fuel that ran out: no call ever answers so.
pub data Answer : Type 0 where
  heard : ℕ → ℕ → ℕ → ℕ → List ℤ → Answer
  unanswered : Answer

-- "A refusal gives rounds 0 and mask 0 and writes nothing."
abbrev pub refuses : ℕ → ℕ → List ℤ → Answer
refuses number place lent = heard number place 0 0 lent

-- "Accepted: those are written row by row, the rest stays."
abbrev pub accepts : ℕ → ℕ → List ℤ → List ℤ → Answer
accepts rounds mask rows lent = heard 0 0 rounds mask (rows ++ drop (length rows) lent)
