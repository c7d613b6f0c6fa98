-- The fuel is never short: more than the smallest size is enough, so more than the limit always is.
use Rattle.std.proofs.Common.{subst, arith}
use Rattle.std.specs.Prelude.{◌≢◌, List, take, ℤ}
use Prim.Native.Nat.{ℕ, zero, suc, ◌+◌, ◌<◌}
use Rattle.whole.specs.Division.{Division}
use Rattle.whole.specs.Size.{limit}
use Rattle.row.specs.Smallest.{smallest, size_of}
use Rattle.row.specs.Table.{replaced}
use Rattle.elimination_rules.specs.Round.{Turn, holds, solved, again, clash, wide, round}
use Rattle.elimination_rules.specs.Equation.{Outcome, spent, on_turn, solve, one}
use Rattle.elimination_rules.proofs.Ways.{one_ind}
use Rattle.elimination_rules.specs.Fall.{smallest_in_limit}
use Rattle.elimination_rules.proofs.Fall.{Remains, Falls, falls}
use Rattle.elimination_rules.specs.Fuel.{Ended}

module _ {quo : ℤ → ℤ → ℤ} (d : Division quo) (u v : ℕ) where
  on_turn_lem : (go : List ℤ → List ℤ → Outcome) (t e : List ℤ) (k f : ℕ) → ((t' e' : List ℤ) → Remains d u v t e f e' → Ended (go t' e'))
      → (a : Turn) → Falls d u v t e f a → Ended (on_turn go k f a)
  on_turn_lem go t e k f h (holds t') g = tt
  on_turn_lem go t e k f h (solved t' f') g = tt
  on_turn_lem go t e k f h (again t' e') g = h t' e' g
  on_turn_lem go t e k f h clash g = tt
  on_turn_lem go t e k f h wide g = tt

  solve_ended : (n : ℕ) (t e : List ℤ) (k f : ℕ) → size_of (smallest (take u e)) < n → Ended (solve quo n u v t e k f)
  unfolding solve
  solve_ended zero t e k f l = absurd (omega arith)
  solve_ended (suc n) t e k f l =
      on_turn_lem (λ t' e'. solve quo n u v t' e' (k + 1) f) t e k f
      (λ t' e' r. solve_ended n t' e' (k + 1) f (omega (arith, r.smaller))) (round quo u v t e f) (falls d u v t e f)

  -- More fuel than the smallest size is enough.
  pub solve_ends : (n : ℕ) (t e : List ℤ) (k f : ℕ) → size_of (smallest (take u e)) < n → solve quo n u v t e k f ≢ spent
  solve_ends n t e k f l h = subst Ended h (solve_ended n t e k f l)

  module _ (n : ℕ) (enough : limit < n) where
    pub one_ended : (t e : List ℤ) (k f : ℕ) → Ended (one quo n u v t e k f)
    one_ended t e k f = one_ind quo n u v t e k f Ended (λ h. solve_ended n t (replaced u v t e) k f (omega (arith, smallest_in_limit u (replaced u v t e) h))) tt

    pub one_ends : (t e : List ℤ) (k f : ℕ) → one quo n u v t e k f ≢ spent
    one_ends t e k f h = subst Ended h (one_ended t e k f)
