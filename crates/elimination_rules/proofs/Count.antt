-- The rounds are counted: an equation that takes rounds and is solved clears a set bit, and takes no more rounds than its fuel.
-- So n rounds for each bit that is set, and those behind, never grow in sum.
use Rattle.std.specs.Prelude.{◌≡◌, refl, List, length, ℤ}
use Rattle.std.proofs.Common.{subst, mul-suc, arith}
use Prim.Native.Nat.{ℕ, zero, suc, ◌+◌, ◌≤◌, ◌<◌}
use Rattle.whole.specs.Division.{Division}
use Rattle.whole.specs.Word.{count}
use Rattle.row.specs.Table.{replaced}
use Rattle.elimination_rules.specs.Round.{Turn, holds, solved, again, clash, wide, round}
use Rattle.elimination_rules.specs.Equation.{Outcome, done, on_turn, solve, one}
use Rattle.elimination_rules.specs.General.{Off, Kept}
use Rattle.elimination_rules.specs.Zeros.{Zero, Below}
use Rattle.elimination_rules.proofs.Ways.{one_ind}
use Rattle.elimination_rules.specs.Kept.{replaced_long, TurnKept, replaced_off}
use Rattle.elimination_rules.proofs.Kept.{round_kept}
use Rattle.elimination_rules.specs.Count.{Counted, OutcomeKept}

module _ {quo : ℤ → ℤ → ℤ} (d : Division quo) (n u v w : ℕ) where
  -- ---- one equation, from its K-th round on
  module _ (K f : ℕ) where
    on_turn_lem : (go : List ℤ → List ℤ → Outcome) (k : ℕ) (e : List ℤ) → k < K + n → (Zero (Below u) e → k ≡ K)
        → ((t' e' : List ℤ) → Kept u v w t' f → Off u f e' → length e' ≡ w → (Zero (Below u) e' → k + 1 ≡ K) → OutcomeKept u v w n K f (go t' e'))
        → (a : Turn) → TurnKept u v w e f a → OutcomeKept u v w n K f (on_turn go k f a)
    on_turn_lem go k e l z h (holds t') g = (g.0, let y : k ≡ K = z g.1 in omega arith)
    on_turn_lem go k e l z h (solved t' f') g = (g.0, rw (g.1, mul-suc n (count v f')) (omega arith))
    on_turn_lem go k e l z h (again t' e') g = h t' e' g.0 g.1 g.2 (λ y. absurd (g.3.is (y g.3.place g.3.among)))
    on_turn_lem go k e l z h clash g = tt
    on_turn_lem go k e l z h wide g = tt

    -- Only before the first round may the equation have no unknown.
    rounds_kept : (m : ℕ) (t e : List ℤ) (k : ℕ) → k + m ≤ K + n → (Zero (Below u) e → k ≡ K) → length e ≡ w → Off u f e → Kept u v w t f
        → OutcomeKept u v w n K f (solve quo m u v t e k f)
    unfolding solve
    rounds_kept zero t e k l z le o g = tt
    rounds_kept (suc m) t e k l z le o g =
        on_turn_lem (λ t' e'. solve quo m u v t' e' (k + 1) f) k e (omega arith) z
        (λ t' e' g' o' le' z'. rounds_kept m t' e' (k + 1) (omega arith) z' le' o' g')
        (round quo u v t e f) (round_kept d u v w t e f le o g)

  module _ (t e : List ℤ) (k f : ℕ) (le : length e ≡ w) (g : Kept u v w t f) where
    solve_outcome : Off u f e → OutcomeKept u v w n k f (solve quo n u v t e k f)
    solve_outcome o = rounds_kept k f n t e k (omega arith) (λ _. refl) le o g

    pub solve_kept : Off u f e → {t' : List ℤ} {k' f' : ℕ} → solve quo n u v t e k f ≡ done t' k' f' → Kept u v w t' f' × Counted v n k f k' f'
    solve_kept o h = subst (OutcomeKept u v w n k f) h (solve_outcome o)

  module _ (vw : v ≤ w) (uw : u ≤ w) where
    pub one_outcome : (t e : List ℤ) (k f : ℕ) → length e ≡ w → Kept u v w t f → OutcomeKept u v w n k f (one quo n u v t e k f)
    one_outcome t e k f le g =
        one_ind quo n u v t e k f (OutcomeKept u v w n k f)
        (λ _. solve_outcome t (replaced u v t e) k f (replaced_long u v w t e le vw uw g.long) g (replaced_off u v w t e f le vw g)) tt

    pub one_kept : (t e : List ℤ) (k f : ℕ) → length e ≡ w → Kept u v w t f
        → {t' : List ℤ} {k' f' : ℕ} → one quo n u v t e k f ≡ done t' k' f' → Kept u v w t' f' × Counted v n k f k' f'
    one_kept t e k f le g h = subst (OutcomeKept u v w n k f) h (one_outcome t e k f le g)
