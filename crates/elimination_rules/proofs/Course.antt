-- A round, and the rounds of one equation: what each comes to is right for the assignments that table and equation stand for.
use Rattle.std.specs.Prelude.{◌≡◌, refl, ◌≢◌, List, [], ◌∷◌, length, ◌<ℤ◌, ℤ, pos, negsuc, neg_ℤ, nat_abs, ◌-ℤ◌, ◌*ℤ◌}
use Rattle.std.proofs.Common.{sym, ◌∙◌, ap, subst, arith}
use Prim.Native.Nat.{ℕ, zero, suc, ◌+◌, ◌≤◌, ◌<◌}
use Rattle.std.proofs.Math.IntN.{zero-*ℤ}
use Rattle.whole.specs.Difference.{differences, as_difference}
use Rattle.whole.specs.Division.{Division}
use Rattle.whole.specs.Identity.{identity, terms}
use Rattle.whole.specs.Ring.{minus_one_mul, no_divisors}
use Rattle.row.specs.Row.{at, dot, less}
use Rattle.row.specs.Divide.{negated}
use Rattle.row.specs.Values.{none_dot, dot_zero, dot_times, less_dot, length_plus}
use Rattle.elimination_rules.specs.Round.{Turn, holds, solved, again, clash, wide, upright, round}
use Rattle.elimination_rules.specs.Equation.{Outcome, done, clashed, widened, spent, on_turn, solve}
use Rattle.elimination_rules.specs.Zeros.{Zero, Nonzero, Below, From, in_length, zero_everywhere}
use Rattle.elimination_rules.specs.Divisions.{small_multiple}
use Rattle.elimination_rules.specs.Upright.{at_negated}
use Rattle.elimination_rules.proofs.Upright.{upright_ind, length_upright, upright_positive}
use Rattle.elimination_rules.proofs.Swap.{length_swap}
use Rattle.elimination_rules.proofs.Ways.{round_ind}
use Rattle.elimination_rules.proofs.Steps.{step_ind}
use Rattle.elimination_rules.specs.Kept.{picked_free}
use Rattle.elimination_rules.specs.Moves.{Stands, same_stands}
use Rattle.elimination_rules.proofs.Moves.{again_stands, last_stands}
use Rattle.elimination_rules.specs.Course.{Constant, None, constant_value}

positive_not_zero : (p : ℤ) → pos 0 <ℤ p → p ≢ pos 0
positive_not_zero p = rw (as_difference p) (simp differences (omega arith))

-- A constant that is p times something and smaller than p is 0.
small_constant : (c d e p : ℤ) → c ≡ d -ℤ p *ℤ e → d ≡ pos 0 → nat_abs c < nat_abs p → c ≡ pos 0
small_constant c d e p h z l = is ∙ ap (λ a. a *ℤ p) (small_multiple (neg_ℤ e) p (subst (λ a. nat_abs a < nat_abs p) is l)) ∙ zero-*ℤ p
  where
    law : (e p : ℤ) → pos 0 -ℤ p *ℤ e ≡ neg_ℤ e *ℤ p
    law e p = identity (e ∷ p ∷ []) (search terms depth 20) (search terms depth 20) tt

    is : c ≡ neg_ℤ e *ℤ p
    is = h ∙ ap (λ a. a -ℤ p *ℤ e) z ∙ law e p

module _ (u v w : ℕ) (vu : v ≤ u) (S : List ℤ → Type 0) where
  module _ {t e : List ℤ} {f : ℕ} (le : length e ≡ w) (s : Stands u v w S t e f) where
    back_constant : (c : ℕ) (x : List ℤ) → Constant u c x → Constant u c (s.back x)
    back_constant c x h i a = s.keeps x i (omega arith) ∙ h i a

    -- A row that has no unknown, but a constant that must be 0 at every assignment of S.
    none_at : (r : List ℤ) → length r ≡ w → Zero (Below u) r → (n : Nonzero (From u) r)
        → ((x : List ℤ) → S x → dot r (s.back x) ≡ at r n.place → at r n.place ≡ pos 0) → None u w S
    none_at r lr z n h = record {
      at_column = n.place;
      from = n.among;
      to = subst (λ m. n.place < m) lr (in_length r n.place n.is);
      none = λ x k y. n.is (h x y (constant_value u n.place r (s.back x) z (back_constant n.place x k)));
    }

    -- 1. Nothing but constants is left.
    clash_constant : Zero (Below u) e → Nonzero (From u) e → None u w S
    clash_constant z n = none_at e le z n (λ x y k. sym k ∙ s.zero_at x y)

    -- 4. The constant that is left is smaller than p.
    clash_remainder : (p : ℤ) (q : List ℤ) → length q ≡ w → Zero (Below u) (less p e q) → (n : Nonzero (From u) (less p e q))
        → nat_abs (at (less p e q) n.place) < nat_abs p → None u w S
    clash_remainder p q lq z n l =
        none_at (less p e q) (length_plus (neg_ℤ p) e q (omega arith) ∙ le) z n
        (λ x y k. small_constant (at (less p e q) n.place) (dot e (s.back x)) (dot q (s.back x)) p (sym k ∙ less_dot p e q (s.back x)) (s.zero_at x y) l)

    -- 2. Negated or not, the equation has the same zeros.
    upright_stands : (j : ℕ) → Stands u v w S t (upright e j) f
    upright_stands j = upright_ind e j (λ l. Stands u v w S t l f) negated_stands s
      where
        is : (z : List ℤ) → dot (negated e) z ≡ negsuc 0 *ℤ dot e z
        is z = dot_times (negsuc 0) (negated e) e z (λ i. at_negated e i ∙ sym (minus_one_mul (at e i)))

        not_none : negsuc 0 ≢ pos 0
        not_none h = let z : ◌≡◌ {A = ℕ} 0 1 = cc in absurd (omega arith)

        negated_stands : Stands u v w S t (negated e) f
        negated_stands =
            same_stands (negated e) (λ z k. is z ∙ ap (λ x. negsuc 0 *ℤ x) k) (λ z k. no_divisors (negsuc 0) (dot e z) not_none (sym (is z) ∙ k))
            (λ i a b. at_negated e i ∙ ap neg_ℤ (s.off i a b)) s

  -- ---- one round
  abbrev pub TurnStands : ℕ → Turn → Type 0
  TurnStands f (holds t') = Stands u v w S t' [] f
  TurnStands f (solved t' f') = Stands u v w S t' [] f'
  TurnStands f (again t' e') = Stands u v w S t' e' f × (length e' ≡ w)
  TurnStands f clash = None u w S
  TurnStands f wide = Unit {0}

  module _ {quo : ℤ → ℤ → ℤ} (d : Division quo) where
    pub round_stands : (t e : List ℤ) (f : ℕ) → length e ≡ w → Stands u v w S t e f → TurnStands f (round quo u v t e f)
    round_stands t e f le s =
        round_ind quo u v w t f (TurnStands f) e
        (λ z k. same_stands [] (λ x _. none_dot x)
        (λ x _. dot_zero e x (λ i. ap (λ a. a *ℤ at x i) (zero_everywhere u e z k i) ∙ zero-*ℤ (at x i))) (λ i a b. refl) s)
        (clash_constant le s)
        (λ j p. let y = upright e j in let ly : length y ≡ w = length_upright e j ∙ le in let sy = upright_stands le s j in
        let jv : j < v = s.kept.free j (picked_free u f e j s.off p) in let h : pos 0 <ℤ at y j = upright_positive e j p.some in
        step_ind u v w t f (TurnStands f) d y j ly sy.off h (record {
          solves = λ q k ep l. last_stands u v w j f S q t y vu jv l sy k (at y j) (positive_not_zero (at y j) h) ep;
          clashes = λ q k. clash_remainder ly sy (at y j) q k.long;
          goes_on = λ q k l. (again_stands u v w j f S q t y vu jv l sy k, length_swap w j q k.long y ly);
          widens = tt;
        }))

    -- ---- the rounds
    abbrev pub OutcomeStands : Outcome → Type 0
    OutcomeStands (done t k f) = Stands u v w S t [] f
    OutcomeStands clashed = None u w S
    OutcomeStands widened = Unit {0}
    OutcomeStands spent = Unit {0}

    on_turn_lem : (go : List ℤ → List ℤ → Outcome) (k f : ℕ) → ((t' e' : List ℤ) → Stands u v w S t' e' f → length e' ≡ w → OutcomeStands (go t' e'))
        → (a : Turn) → TurnStands f a → OutcomeStands (on_turn go k f a)
    on_turn_lem go k f h (holds t') g = g
    on_turn_lem go k f h (solved t' f') g = g
    on_turn_lem go k f h (again t' e') g = h t' e' g.0 g.1
    on_turn_lem go k f h clash g = g
    on_turn_lem go k f h wide g = tt

    pub solve_stands : (n : ℕ) (t e : List ℤ) (k f : ℕ) → length e ≡ w → Stands u v w S t e f → OutcomeStands (solve quo n u v t e k f)
    unfolding solve
    solve_stands zero t e k f le s = tt
    solve_stands (suc n) t e k f le s =
        on_turn_lem (λ t' e'. solve quo n u v t' e' (k + 1) f) k f (λ t' e' s' l. solve_stands n t' e' (k + 1) f l s') (round quo u v t e f) (round_stands t e f le s)
