-- What the caller hears, in the words of the rules: document 01's number, place, rounds and mask of each case.
use Rattle.std.specs.Prelude.{List, ℕ, ℤ, Result, Ok, Err}
use Rattle.elimination_rules.specs.Answer.{Answer, heard, refuses}
use Rattle.elimination.specs.declared.progress.Progress.{Progress}

-- An answer, with what the lent table then holds. A refusal is heard by its number and its place.
abbrev pub answer_of : {E : Type 0} → (E → ℕ) → (E → ℕ) → Result Progress E → List ℤ → Answer
answer_of number place (Ok p) t = heard 0 0 p.rounds p.free t
answer_of number place (Err r) t = refuses (number r) (place r) t
