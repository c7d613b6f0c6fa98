-- All equations: the table is kept, the rounds are counted, the fuel is enough.
use Rattle.std.specs.Prelude.{◌≡◌, List, ℕ, ◌+◌, ◌*◌, ◌≤◌, ◌<◌, length, ℤ}
use Rattle.std.proofs.Common.{subst, arith}
use Rattle.whole.specs.Division.{Division}
use Rattle.whole.specs.Size.{limit}
use Rattle.whole.specs.Word.{count}
use Rattle.elimination_rules.specs.Equation.{Outcome, done, clashed, widened, spent, one, accepted, each}
use Rattle.elimination_rules.specs.General.{Kept}
use Rattle.elimination_rules.specs.Count.{Counted, OutcomeKept}
use Rattle.elimination_rules.proofs.Count.{one_outcome}
use Rattle.elimination_rules.proofs.Fuel.{one_ended}
use Rattle.elimination_rules.proofs.Fold.{OutcomeKeeps, VerdictKeeps, each_keeps}

module _ {quo : ℤ → ℤ → ℤ} (d : Division quo) (n u v w : ℕ) (vw : v ≤ w) (uw : u ≤ w) where
  -- Kept, and within a bound on the rounds.
  abbrev Within : ℕ → List ℤ → ℕ → ℕ → Type 0
  Within b t k f = Kept u v w t f × (k + n * count v f ≤ b)

  one_within : (b : ℕ) (t e : List ℤ) (k f : ℕ) → length e ≡ w → Within b t k f → OutcomeKeeps (Within b) (Unit {0}) (one quo n u v t e k f)
  one_within b t e k f le g = by (one quo n u v t e k f) (one_outcome d n u v w vw uw t e k f le g.0)
    where
      by : (o : Outcome) → OutcomeKept u v w n k f o → OutcomeKeeps (Within b) (Unit {0}) o
      by (done t' k' f') h = (h.0, omega (arith, h.1, g.1))
      by clashed h = tt
      by widened h = tt
      by spent h = tt

  pub each_kept : (m i : ℕ) (es t : List ℤ) (k f : ℕ) → length es ≡ m * w → Kept u v w t f
      → {t' : List ℤ} {k' f' : ℕ} → each quo n u v w m i es t k f ≡ accepted t' k' f' → Kept u v w t' f' × Counted v n k f k' f'
  each_kept m i es t k f l g h =
      let b : ℕ = k + n * count v f in
      subst (VerdictKeeps (Within b) (Unit {0})) h (each_keeps (Within b) (Unit {0}) quo n u v w (one_within b) m i es t k f l (g, omega arith))

-- Every equation comes to something, where the fuel is more than the limit.
pub each_ended : {quo : ℤ → ℤ → ℤ} → Division quo → (n u v w m i : ℕ) (es t : List ℤ) (k f : ℕ) → limit < n → length es ≡ m * w
    → VerdictKeeps (λ t k f. Unit {0}) ⊥ (each quo n u v w m i es t k f)
each_ended {quo} d n u v w m i es t k f enough l =
    each_keeps (λ t k f. Unit {0}) ⊥ quo n u v w (λ t e k f _ _. one_ended d u v n enough t e k f) m i es t k f l tt
