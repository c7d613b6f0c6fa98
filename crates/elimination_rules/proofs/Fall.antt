-- "the smallest unknown's size falls at each call": what a round hands on, as the code that calls itself needs it.
use Rattle.std.specs.Prelude.{◌≡◌, refl, true, List, ℕ, ◌*◌, ◌<◌, length, take, set, ℤ, pos, nat_abs}
use Rattle.std.proofs.Common.{sym, ◌∙◌, ap, subst, arith, le-leb, length-set, get_or-set_other}
use Rattle.whole.specs.Division.{Division}
use Rattle.whole.specs.Size.{limit, in_limit}
use Rattle.row.specs.Row.{at, all_in_limit}
use Rattle.row.specs.Divide.{quotients_by, remainders_by}
use Rattle.row.specs.Smallest.{smallest, size_of}
use Rattle.row.specs.Tables.{all_of, all_set}
use Rattle.elimination_rules.specs.Round.{Turn, holds, solved, again, clash, wide, upright, round}
use Rattle.elimination_rules.specs.Zeros.{Nonzero, Below, some_size}
use Rattle.elimination_rules.specs.Divisions.{length_quotients, length_others, length_remainders, remainder_none, remainder_small}
use Rattle.elimination_rules.specs.Upright.{Picked}
use Rattle.elimination_rules.proofs.Upright.{length_upright, size_upright, upright_positive}
use Rattle.elimination_rules.proofs.Swap.{length_swapped}
use Rattle.elimination_rules.proofs.Ways.{turn_ind, round_ind}
use Rattle.elimination_rules.specs.Fall.{smallest_of, size_in_limit, Tabled, TurnTabled}

module _ {quo : ℤ → ℤ → ℤ} (d : Division quo) (u v : ℕ) (t e : List ℤ) (f : ℕ) where
  -- What remains of the equation.
  pub record Remains (e' : List ℤ) : Type 0 where
    pub smaller : size_of (smallest (take u e')) < size_of (smallest (take u e))
    pub some : 0 < size_of (smallest (take u e'))
    pub long : length e' ≡ length e
    pub limited : all_in_limit e ≡ true → all_in_limit e' ≡ true

  -- "p in the picked column and the remainders elsewhere"
  module _ (j : ℕ) (k : Picked u e j) where
    abbrev p : ℤ
    p = at (upright e j) j

    abbrev r : List ℤ
    r = remainders_by quo p (upright e j)

    small_r : (i : ℕ) → nat_abs (at r i) < nat_abs (at e j)
    small_r i = subst (λ n. nat_abs (at r i) < n) (size_upright e j j) (remainder_small d p (upright_positive e j k.some) (upright e j) i)

    none_r : at r j ≡ pos 0
    none_r = remainder_none d p (upright_positive e j k.some) (upright e j) j refl

    -- The remainder that is left stands beside the picked column.
    left_beside : (n : Nonzero (Below u) r) → nat_abs (at (set r j p) n.place) ≡ nat_abs (at r n.place)
    left_beside n = ap nat_abs (get_or-set_other r j n.place p (pos 0) (λ z. n.is (subst (λ i. at r i ≡ pos 0) (sym z) none_r)))

    remains : Nonzero (Below u) r → Remains (set r j p)
    remains n =
        let s = smallest_of u (set r j p) n.place n.among (subst (λ m. 0 < m) (sym (left_beside n)) (some_size (at r n.place) n.is)) in
        record {
          smaller = omega (arith, s.1, left_beside n, small_r n.place, k.size);
          some = s.0;
          long = length-set r j p ∙ length_remainders quo p (upright e j) ∙ length_upright e j;
          limited = λ h. all_set in_limit r j p
              (all_of in_limit (pos 0) r (λ i _. le-leb (nat_abs (at r i)) limit (omega (arith, small_r i, size_in_limit e j h))))
              (le-leb (nat_abs p) limit (omega (arith, size_upright e j j, size_in_limit e j h)));
        }

  abbrev pub Falls : Turn → Type 0
  Falls (holds t') = Unit {0}
  Falls (solved t' f') = Unit {0}
  Falls (again t' e') = Remains e'
  Falls clash = Unit {0}
  Falls wide = Unit {0}

  pub falls : Falls (round quo u v t e f)
  falls =
      round_ind quo u v (length e) t f Falls e (λ _ _. tt) (λ _ _. tt)
      (λ j k. turn_ind quo u v (length e) t f Falls (upright e j) j (length_upright e j)
      (record { solves = λ _ _ _. tt; clashes = λ _ _. tt; goes_on = λ n _. remains j k n; widens = tt }))

  pub again_remains : {t' e' : List ℤ} → round quo u v t e f ≡ again t' e' → Remains e'
  again_remains h = subst Falls h falls

  -- "the smallest unknown's size falls at each call"
  pub again_smaller : {t' e' : List ℤ} → round quo u v t e f ≡ again t' e' → size_of (smallest (take u e')) < size_of (smallest (take u e))
  again_smaller h = (again_remains h).smaller

  pub again_some : {t' e' : List ℤ} → round quo u v t e f ≡ again t' e' → 0 < size_of (smallest (take u e'))
  again_some h = (again_remains h).some

  pub again_long : {t' e' : List ℤ} → round quo u v t e f ≡ again t' e' → length e' ≡ length e
  again_long h = (again_remains h).long

  pub again_in_limit : {t' e' : List ℤ} → round quo u v t e f ≡ again t' e' → all_in_limit e ≡ true → all_in_limit e' ≡ true
  again_in_limit h = (again_remains h).limited

-- ---- the table after the round: as long as it was, and within the limit
module _ (quo : ℤ → ℤ → ℤ) (u v w : ℕ) (t e : List ℤ) (f : ℕ) (le : length e ≡ w) (lt : length t ≡ v * w) where
  pub round_tabled : TurnTabled v w t (round quo u v t e f)
  round_tabled =
      round_ind quo u v w t f (TurnTabled v w t) e (λ _ _. refl) (λ _ _. tt)
      (λ j _. let e' = upright e j in let l : length e' ≡ w = length_upright e j ∙ le in
      turn_ind quo u v w t f (TurnTabled v w t) e' j l (record {
        solves = λ _ _ h. record {
          long = length_swapped w j (quotients_by quo (at e' j) e') (length_quotients quo (at e' j) e' ∙ l) v t lt;
          limited = h;
        };
        clashes = λ _ _. tt;
        goes_on = λ _ h. record {
          long = length_swapped w j (set (quotients_by quo (at e' j) e') j (pos 0)) (length_others quo (at e' j) e' j ∙ l) v t lt;
          limited = h;
        };
        widens = tt;
      }))

  pub holds_table : {t' : List ℤ} → round quo u v t e f ≡ holds t' → t' ≡ t
  holds_table h = subst (TurnTabled v w t) h round_tabled

  pub solved_tabled : {t' : List ℤ} {f' : ℕ} → round quo u v t e f ≡ solved t' f' → Tabled v w t'
  solved_tabled h = subst (TurnTabled v w t) h round_tabled

  pub again_tabled : {t' e' : List ℤ} → round quo u v t e f ≡ again t' e' → Tabled v w t'
  again_tabled h = subst (TurnTabled v w t) h round_tabled
