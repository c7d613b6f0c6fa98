-- The rounds are counted: what an equation keeps.
use Prim.Native.Nat.{ℕ, ◌+◌, ◌*◌, ◌≤◌}
use Rattle.whole.specs.Word.{count}
use Rattle.elimination_rules.specs.Equation.{Outcome, done, clashed, widened, spent}
use Rattle.elimination_rules.specs.General.{Kept}

-- k rounds were behind at the word f, with fuel n for each equation.
abbrev pub Counted : ℕ → ℕ → ℕ → ℕ → ℕ → ℕ → Type 0
Counted v n k f k' f' = k' + n * count v f' ≤ k + n * count v f

abbrev pub OutcomeKept : ℕ → ℕ → ℕ → ℕ → ℕ → ℕ → Outcome → Type 0
OutcomeKept u v w n k f (done t' k' f') = Kept u v w t' f' × Counted v n k f k' f'
OutcomeKept u v w n k f clashed = Unit {0}
OutcomeKept u v w n k f widened = Unit {0}
OutcomeKept u v w n k f spent = Unit {0}
