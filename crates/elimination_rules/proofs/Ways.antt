-- The ways a round goes, and an equation, each with what the tests say.
use Rattle.std.specs.Prelude.{◌≡◌, true, false, List, ℕ, length, take, drop, set, ℤ, pos}
use Rattle.std.proofs.Math.Path.{refl, subst}
use Rattle.std.proofs.Common.{sym, ◌∙◌}
use Rattle.whole.specs.Cases.{by_test}
use Rattle.whole.specs.Word.{cleared}
use Rattle.row.specs.Row.{at, all_zero, all_in_limit}
use Rattle.row.specs.Divide.{quotients_by, remainders_by}
use Rattle.row.specs.Judged.{judged, on_judged, judged_ind}
use Rattle.row.specs.Table.{replaced}
use Rattle.elimination_rules.specs.Round.{swaps, Turn, holds, solved, again, clash, wide, turn, upright, round_by, round}
use Rattle.elimination_rules.specs.Equation.{Outcome, widened, solve, one}
use Rattle.elimination_rules.specs.Zeros.{Zero, Nonzero, Below, From, zero_below, zero_from, nonzero_below, nonzero_from}
use Rattle.elimination_rules.specs.Divisions.{length_quotients, length_others}
use Rattle.elimination_rules.specs.Upright.{Picked, by_pick}
use Rattle.elimination_rules.proofs.Swap.{swapped}

-- ---- what a round comes to, by its tests: e is above 0 at the picked column j, r are the remainders
module _ (quo : ℤ → ℤ → ℤ) (u v : ℕ) (t e : List ℤ) (f j : ℕ) where
  abbrev q : List ℤ
  q = quotients_by quo (at e j) e

  abbrev r : List ℤ
  r = remainders_by quo (at e j) e

  -- 4. "If every unknown's r is 0 and some base's is not: a clash."
  pub clash_turn : all_zero (take u r) ≡ true → all_zero (drop u r) ≡ false → turn quo u v t e f j ≡ clash
  unfolding turn
  clash_turn h g = rw (h, g) refl

  -- 5. Every r is 0.
  pub last_turn : all_zero (take u r) ≡ true → all_zero (drop u r) ≡ true
      → turn quo u v t e f j ≡ on_judged wide (λ t'. solved t' (cleared f j)) (judged (swaps v j q t))
  unfolding turn
  last_turn h g = rw (h, g) refl

  -- 6. "Otherwise"
  pub next_turn : all_zero (take u r) ≡ false
      → turn quo u v t e f j ≡ on_judged wide (λ t'. again t' (set r j (at e j))) (judged (swaps v j (set q j (pos 0)) t))
  unfolding turn
  next_turn h = rw h refl

-- ---- the same for any P of what it comes to
module _ (quo : ℤ → ℤ → ℤ) (u v w : ℕ) (t : List ℤ) (f : ℕ) (P : Turn → Type 0) where
  -- The round that picked j, with quotients q and remainders r.
  pub record Ways (e : List ℤ) (j : ℕ) (q r : List ℤ) : Type 0 where
    pub clashes : Zero (Below u) r → Nonzero (From u) r → P clash
    pub solves : Zero (Below u) r → Zero (From u) r → all_in_limit (swapped w v j q t) ≡ true → P (solved (swapped w v j q t) (cleared f j))
    pub goes_on : Nonzero (Below u) r → all_in_limit (swapped w v j (set q j (pos 0)) t) ≡ true → P (again (swapped w v j (set q j (pos 0)) t) (set r j (at e j)))
    pub widens : P wide

  -- The definition takes the width from the quotients.
  by_width : (K : List ℤ → Turn) (j : ℕ) (q : List ℤ) → length q ≡ w → P wide
      → (all_in_limit (swapped w v j q t) ≡ true → P (K (swapped w v j q t))) → P (on_judged wide K (judged (swaps v j q t)))
  by_width K j q l g h = judged_ind wide K (swaps v j q t) P (subst (λ n. all_in_limit (swapped n v j q t) ≡ true → P (K (swapped n v j q t))) (sym l) h) g

  pub turn_ind : (e : List ℤ) (j : ℕ) → length e ≡ w → Ways e j (quotients_by quo (at e j) e) (remainders_by quo (at e j) e) → P (turn quo u v t e f j)
  turn_ind e j le k =
      let q : List ℤ = quotients_by quo (at e j) e in
      let r : List ℤ = remainders_by quo (at e j) e in
      by_test (all_zero (take u r))
      (λ h. by_test (all_zero (drop u r))
      (λ g. subst P (sym (last_turn quo u v t e f j h g))
      (by_width (λ t'. solved t' (cleared f j)) j q (length_quotients quo (at e j) e ∙ le) k.widens (k.solves (zero_below u r h) (zero_from u r g))))
      (λ g. subst P (sym (clash_turn quo u v t e f j h g)) (k.clashes (zero_below u r h) (nonzero_from u r g))))
      (λ h. subst P (sym (next_turn quo u v t e f j h))
      (by_width (λ t'. again t' (set r j (at e j))) j (set q j (pos 0)) (length_others quo (at e j) e j ∙ le) k.widens (k.goes_on (nonzero_below u r h))))

  -- The whole round.
  pub round_ind : (e : List ℤ)
      → (Zero (Below u) e → Zero (From u) e → P (holds t))
      → (Zero (Below u) e → Nonzero (From u) e → P clash)
      → ((j : ℕ) → Picked u e j → P (turn quo u v t (upright e j) f j))
      → P (round quo u v t e f)
  round_ind e h c k =
      by_pick u e (λ b. P (round_by quo u v t e f b))
      (λ z. by_test (all_zero (drop u e)) (λ g. rw g (h z (zero_from u e g))) (λ g. rw g (c z (nonzero_from u e g))))
      (λ j a. k j)

-- ---- one equation: "replace every unknown by its row; then, in rounds", within the limit before and after
module _ (quo : ℤ → ℤ → ℤ) (n u v : ℕ) (t e : List ℤ) (k f : ℕ) where
  pub one_solves : all_in_limit e ≡ true → all_in_limit (replaced u v t e) ≡ true
      → one quo n u v t e k f ≡ solve quo n u v t (replaced u v t e) k f
  unfolding one
  one_solves h g = rw (h, g) refl

  pub one_ind : (P : Outcome → Type 0) → (all_in_limit (replaced u v t e) ≡ true → P (solve quo n u v t (replaced u v t e) k f))
      → P widened → P (one quo n u v t e k f)
  unfolding one
  one_ind P h w =
      by_test (all_in_limit e)
      (λ a. by_test (all_in_limit (replaced u v t e)) (λ b. subst P (sym (one_solves a b)) (h b)) (λ b. rw (a, b) w))
      (λ a. rw a w)
