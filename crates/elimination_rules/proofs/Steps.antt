-- The ways a round goes for an equation in the free unknowns, said of any row q of quotients: all that the moves of a table need.
use Rattle.std.specs.Prelude.{◌≡◌, refl, true, List, [], ◌∷◌, ℕ, zero, suc, ◌<◌, length, set, ◌<ℤ◌, ℤ, pos, neg_ℤ, nat_abs, ◌+ℤ◌, ◌*ℤ◌}
use Rattle.std.proofs.Common.{◌∙◌, ap, arith}
use Rattle.whole.specs.Division.{Division}
use Rattle.whole.specs.Identity.{identity, terms}
use Rattle.whole.specs.Word.{cleared}
use Rattle.row.specs.Row.{at, plus, less, all_in_limit}
use Rattle.row.specs.Divide.{quotients_by, remainders_by}
use Rattle.elimination_rules.specs.Round.{swap, Turn, solved, again, clash, wide, turn}
use Rattle.elimination_rules.specs.General.{Off}
use Rattle.elimination_rules.specs.Zeros.{Zero, Nonzero, Below, From, zero_everywhere}
use Rattle.elimination_rules.specs.Divisions.{length_quotients, length_others, remainders_less, quotient_zero, quotient_one, remainder_small, multiple}
use Rattle.elimination_rules.proofs.Swap.{swapped}
use Rattle.elimination_rules.proofs.Ways.{turn_ind}
use Rattle.elimination_rules.specs.Steps.{Quotients}

-- ---- the picked column set to 0
set_here : (q : List ℤ) (j : ℕ) → at (set q j (pos 0)) j ≡ pos 0
set_here [] j = refl
set_here (x ∷ q) zero = refl
set_here (x ∷ q) (suc j) = set_here q j

set_zero : (q : List ℤ) (j i : ℕ) → at q i ≡ pos 0 → at (set q j (pos 0)) i ≡ pos 0
set_zero [] j i h = h
set_zero (x ∷ q) zero zero h = refl
set_zero (x ∷ q) zero (suc i) h = h
set_zero (x ∷ q) (suc j) zero h = h
set_zero (x ∷ q) (suc j) (suc i) h = set_zero q j i h

-- "p in the picked column and the remainders elsewhere" is the equation with the unknown replaced, as in a row.
set_less : (f : ℤ) (e q : List ℤ) (j : ℕ) → length q ≡ length e → set (less f e q) j (at e j) ≡ less f e (set q j (pos 0))
unfolding plus
set_less f [] [] j l = refl
set_less f [] (y ∷ q) j l = absurd (omega arith)
set_less f (x ∷ e) [] j l = absurd (omega arith)
set_less f (x ∷ e) (y ∷ q) zero l = ap (λ z. z ∷ less f e q) (law x f)
  where
    law : (x f : ℤ) → x ≡ x +ℤ neg_ℤ f *ℤ pos 0
    law x f = identity (x ∷ f ∷ []) (search terms depth 20) (search terms depth 20) tt
set_less f (x ∷ e) (y ∷ q) (suc j) l = ap (λ z. (x +ℤ neg_ℤ f *ℤ y) ∷ z) (set_less f e q j (omega arith))

module _ (u v w : ℕ) (t : List ℤ) (f : ℕ) (P : Turn → Type 0) where
  pub record Steps (e : List ℤ) (j : ℕ) : Type 0 where
    -- 5. The equation is p times q.
    pub solves : (q : List ℤ) → Quotients u w f j (pos 1) q → ((i : ℕ) → at e i ≡ at e j *ℤ at q i)
        → all_in_limit (swapped w v j q t) ≡ true → P (solved (swapped w v j q t) (cleared f j))
    -- 4. A constant is left that is smaller than p.
    pub clashes : (q : List ℤ) → Quotients u w f j (pos 1) q → Zero (Below u) (less (at e j) e q) → (n : Nonzero (From u) (less (at e j) e q))
        → nat_abs (at (less (at e j) e q) n.place) < nat_abs (at e j) → P clash
    -- 6.
    pub goes_on : (q : List ℤ) → Quotients u w f j (pos 0) q → all_in_limit (swapped w v j q t) ≡ true → P (again (swapped w v j q t) (swap j q e))
    pub widens : P wide

  module _ {quo : ℤ → ℤ → ℤ} (d : Division quo) (e : List ℤ) (j : ℕ) (le : length e ≡ w) (o : Off u f e) (h : pos 0 <ℤ at e j) where
    abbrev q : List ℤ
    q = quotients_by quo (at e j) e

    abbrev r : List ℤ
    r = remainders_by quo (at e j) e

    abbrev q₀ : List ℤ
    q₀ = set q j (pos 0)

    off_q : Off u f q
    off_q i a b = quotient_zero d (at e j) h e i (o i a b)

    gone : Quotients u w f j (pos 1) q
    gone = record { long = length_quotients quo (at e j) e ∙ le; off = off_q; here = quotient_one d (at e j) h e j refl }

    stays : Quotients u w f j (pos 0) q₀
    stays = record { long = length_others quo (at e j) e j ∙ le; off = λ i a b. set_zero q j i (off_q i a b); here = set_here q j }

    r_is : r ≡ less (at e j) e q
    r_is = remainders_less quo (at e j) e

    left_is : set r j (at e j) ≡ swap j q₀ e
    left_is = ap (λ x. set x j (at e j)) r_is ∙ set_less (at e j) e q j (length_quotients quo (at e j) e)

    pub step_ind : Steps e j → P (turn quo u v t e f j)
    step_ind k = turn_ind quo u v w t f P e j le (record {
      solves = λ a b. k.solves q gone (λ i. multiple d (at e j) h e i (zero_everywhere u r a b i));
      clashes = rw r_is (λ a n. k.clashes q gone a n (rw r_is at (remainder_small d (at e j) h e n.place)));
      goes_on = λ _ l. rw left_is (k.goes_on q₀ stays l);
      widens = k.widens;
    })
