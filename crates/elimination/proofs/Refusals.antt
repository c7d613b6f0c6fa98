-- A refusal by its number, where any number may stand: 0 is none of a refusal, and says nothing.
use mathlib.Core.Path.{◌≡◌, refl}
use mathlib.Core.Logic.{◌≢◌}
use mathlib.Core.List.{List}
use Prim.Native.Nat.{ℕ, zero, suc}
use lib.IntN.{ℤ}
use Rattle.elimination_rules.specs.Answer.{Answer, unanswered, refuses}

abbrev pub refusal_of : ℕ → ℕ → List ℤ → Answer
refusal_of zero i t = unanswered
refusal_of (suc n) i t = refuses (suc n) i t

-- One that says something has a number above 0.
pub refused : (n i : ℕ) (t : List ℤ) → refusal_of n i t ≢ unanswered → refusal_of n i t ≡ refuses n i t
refused zero i t h = absurd (h refl)
refused (suc n) i t h = refl
