-- A row divided by a number above zero, by any division whose remainders are smaller than the divisor.
use Rattle.std.specs.Prelude.{◌≡◌, refl, List, [], ◌∷◌, ℕ, ◌<◌, length, get_or, set, ◌<ℤ◌, ℤ, pos, neg_ℤ, nat_abs, ◌+ℤ◌, ◌-ℤ◌, ◌*ℤ◌}
use Rattle.std.proofs.Common.{sym, ◌∙◌, ap, ap₂, subst, length-set}
use Rattle.std.proofs.lemmas.List.{length-map}
use Rattle.std.proofs.Math.ListN.{get_or-map}
use Rattle.std.proofs.Math.IntN.{zero-*ℤ, *ℤ_comm}
use Rattle.whole.specs.Ring.{size_mul, size_zero, equal_by_difference, one_mul}
use Rattle.whole.specs.Division.{Division}
use Rattle.whole.specs.Division.{none_of}
use Rattle.whole.specs.Identity.{identity, terms}
use Rattle.row.specs.Row.{at, plus, less}
use Rattle.row.specs.Divide.{quotients_by, remainders_by}

-- A multiple of p that is smaller than p is 0.
pub small_multiple : (m p : ℤ) → nat_abs (m *ℤ p) < nat_abs p → m ≡ pos 0
small_multiple m p h = size_zero m (none_of (nat_abs m) (nat_abs p) (subst (λ n. n < nat_abs p) (size_mul m p) h))

-- The remainders are the row less p times the quotients.
pub remainders_less : (quo : ℤ → ℤ → ℤ) (p : ℤ) (e : List ℤ) → remainders_by quo p e ≡ less p e (quotients_by quo p e)
unfolding plus
remainders_less quo p [] = refl
remainders_less quo p (x ∷ e) = ap₂ ◌∷◌ (law x p (quo x p)) (remainders_less quo p e)
  where
    law : (x p q : ℤ) → x -ℤ q *ℤ p ≡ x +ℤ neg_ℤ p *ℤ q
    law x p q = identity (x ∷ p ∷ q ∷ []) (search terms depth 20) (search terms depth 20) tt

pub length_quotients : (quo : ℤ → ℤ → ℤ) (p : ℤ) (e : List ℤ) → length (quotients_by quo p e) ≡ length e
length_quotients quo p e = length-map e (λ (x : ℤ). quo x p)

-- .. with the picked column set to 0.
pub length_others : (quo : ℤ → ℤ → ℤ) (p : ℤ) (e : List ℤ) (j : ℕ) → length (set (quotients_by quo p e) j (pos 0)) ≡ length e
length_others quo p e j = length-set (quotients_by quo p e) j (pos 0) ∙ length_quotients quo p e

pub length_remainders : (quo : ℤ → ℤ → ℤ) (p : ℤ) (e : List ℤ) → length (remainders_by quo p e) ≡ length e
length_remainders quo p e = length-map e (λ (x : ℤ). x -ℤ quo x p *ℤ p)

module _ {quo : ℤ → ℤ → ℤ} (d : Division quo) (p : ℤ) (h : pos 0 <ℤ p) where
  -- Where the division comes out even, the quotient is the factor.
  exact : (m : ℤ) → quo (m *ℤ p) p ≡ m
  exact m =
      sym ((equal_by_difference m (quo (m *ℤ p) p)).0
      (small_multiple (m -ℤ quo (m *ℤ p) p) p (subst (λ z. nat_abs z < nat_abs p) (law m p (quo (m *ℤ p) p)) (d.small (m *ℤ p) p h))))
    where
      law : (m p q : ℤ) → m *ℤ p -ℤ q *ℤ p ≡ (m -ℤ q) *ℤ p
      law m p q = identity (m ∷ p ∷ q ∷ []) (search terms depth 20) (search terms depth 20) tt

  quotient_of_zero : quo (pos 0) p ≡ pos 0
  quotient_of_zero = ap (λ x. quo x p) (sym (zero-*ℤ p)) ∙ exact (pos 0)

  quotient_of_itself : quo p p ≡ pos 1
  quotient_of_itself = ap (λ x. quo x p) (sym (one_mul p)) ∙ exact (pos 1)

  remainder_of_zero : pos 0 -ℤ quo (pos 0) p *ℤ p ≡ pos 0
  remainder_of_zero = ap (λ q. pos 0 -ℤ q *ℤ p) quotient_of_zero ∙ identity (p ∷ []) (search terms depth 20) (search terms depth 20) tt

  module _ (e : List ℤ) (i : ℕ) where
    pub at_quotients : at (quotients_by quo p e) i ≡ quo (at e i) p
    at_quotients = ap (get_or (quotients_by quo p e) i) (sym quotient_of_zero) ∙ get_or-map (λ (x : ℤ). quo x p) e i (pos 0)

    pub at_remainders : at (remainders_by quo p e) i ≡ at e i -ℤ quo (at e i) p *ℤ p
    at_remainders = ap (get_or (remainders_by quo p e) i) (sym remainder_of_zero) ∙ get_or-map (λ (x : ℤ). x -ℤ quo x p *ℤ p) e i (pos 0)

    pub quotient_zero : at e i ≡ pos 0 → at (quotients_by quo p e) i ≡ pos 0
    quotient_zero z = at_quotients ∙ ap (λ x. quo x p) z ∙ quotient_of_zero

    -- "The quotient of p itself is 1, its remainder 0."
    pub quotient_one : at e i ≡ p → at (quotients_by quo p e) i ≡ pos 1
    quotient_one z = at_quotients ∙ ap (λ x. quo x p) z ∙ quotient_of_itself

    pub remainder_none : at e i ≡ p → at (remainders_by quo p e) i ≡ pos 0
    remainder_none z =
        at_remainders ∙ ap (λ x. x -ℤ quo x p *ℤ p) z ∙ ap (λ q. p -ℤ q *ℤ p) quotient_of_itself
        ∙ identity (p ∷ []) (search terms depth 20) (search terms depth 20) tt

    pub remainder_small : nat_abs (at (remainders_by quo p e) i) < nat_abs p
    remainder_small = subst (λ z. nat_abs z < nat_abs p) (sym at_remainders) (d.small (at e i) p h)

    -- A column with no remainder is p times its quotient.
    pub multiple : at (remainders_by quo p e) i ≡ pos 0 → at e i ≡ p *ℤ at (quotients_by quo p e) i
    multiple z =
        (equal_by_difference (at e i) (quo (at e i) p *ℤ p)).0 (sym at_remainders ∙ z)
        ∙ ap (λ q. q *ℤ p) (sym at_quotients) ∙ *ℤ_comm (at (quotients_by quo p e) i) p
