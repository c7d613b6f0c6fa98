-- The unknown that a round picks, and the columns of an equation negated.
use Rattle.std.specs.Prelude.{◌≡◌, refl, List, ℕ, ◌≤◌, ◌<◌, length, take, ℤ, pos, neg_ℤ, nat_abs}
use Rattle.std.proofs.Common.{sym, ◌∙◌, ap, subst, arith, length-take, get_or-take}
use Rattle.std.proofs.Math.ListN.{get_or-map, get_or-eq_default}
use Rattle.whole.specs.Cases.{by_less}
use Rattle.whole.specs.Ring.{size_zero}
use Rattle.row.specs.Row.{at}
use Rattle.row.specs.Divide.{negated}
use Rattle.row.specs.Smallest.{Pick, nothing, column, smallest, size_of}
use Rattle.row.specs.Smaller.{Least, least}
use Rattle.elimination_rules.specs.Zeros.{Zero, Below}

-- ---- the pick, said of the equation: it is the least of its unknowns
module _ (u : ℕ) (e : List ℤ) where
  abbrev n : ℕ
  n = length (take u e)

  size_taken : (k : ℕ) → k < u → nat_abs (at (take u e) k) ≡ nat_abs (at e k)
  size_taken k h = ap nat_abs (get_or-take u e k (pos 0) h)

  -- An unknown column that is past the end holds 0.
  by_column : (k : ℕ) {P : Type 0} → k < u → (k < n → P) → (nat_abs (at e k) ≡ 0 → P) → P
  by_column k h f g = by_less k n f (λ l. g (sym (size_taken k h) ∙ ap nat_abs (get_or-eq_default (take u e) (pos 0) l)))

  least_by : (b : Pick) → Least (take u e) n b → Least e u b
  least_by nothing h = λ k l. by_column k l (λ m. sym (size_taken k l) ∙ h k m) (λ z. z)
  least_by (column j a) h =
      let ju : j < u = omega (arith, h.0, length-take u e) in (
        ju,
        sym (size_taken j ju) ∙ h.1,
        h.2,
        λ k l p. by_column k l (λ m. subst (λ x. a ≤ x) (size_taken k l) (h.3 k m (subst (λ x. 0 < x) (sym (size_taken k l)) p))) (λ z. absurd (omega arith)),
      )

  -- No size of an unknown is smaller.
  pub least_unknown : Least e u (smallest (take u e))
  least_unknown = least_by (smallest (take u e)) (least (take u e))

-- The round picks j.
pub record Picked (u : ℕ) (e : List ℤ) (j : ℕ) : Type 0 where
  pub below : j < u
  pub some : 0 < nat_abs (at e j)
  pub size : size_of (smallest (take u e)) ≡ nat_abs (at e j)

-- Either there is nothing to pick, or that is picked.
pub by_pick : (u : ℕ) (e : List ℤ) (P : Pick → Type 0) → (Zero (Below u) e → P nothing) → ((j a : ℕ) → Picked u e j → P (column j a)) → P (smallest (take u e))
by_pick u e P f g = by (smallest (take u e)) refl (least_unknown u e)
  where
    by : (b : Pick) → smallest (take u e) ≡ b → Least e u b → P b
    by nothing s l = f (λ i h. size_zero (at e i) (l i h))
    by (column j a) s l = g j a (record { below = l.0; some = subst (λ n. 0 < n) (sym l.1) l.2; size = ap size_of s ∙ sym l.1 })

-- ---- negated or not
pub at_negated : (e : List ℤ) (i : ℕ) → at (negated e) i ≡ neg_ℤ (at e i)
at_negated e i = get_or-map neg_ℤ e i (pos 0)
