-- Laws of the smallest column: it is there, it is not 0, and none is smaller.
use Rattle.std.specs.Prelude.{◌≡◌, refl, false, List, [], ◌∷◌, ℕ, zero, suc, ◌+◌, ◌≤◌, ◌<◌, eqb, ltb, length, drop, ℤ, pos, nat_abs}
use Rattle.std.proofs.Common.{ap, ◌∙◌, subst, add-one, arith, eqb-true, ltb-true, ltb-false, ne_eqb, lt-ltb, le-ltb, drop_of_length-le}
use Rattle.std.proofs.lemmas.Bool.{eqb-false}
use Rattle.std.proofs.Math.Seq.{drop-cons}
use Rattle.whole.specs.Cases.{if, if_ind, by_less}
use Rattle.row.specs.Row.{at}
use Rattle.row.specs.Smallest.{Pick, nothing, column, better, smallest_from, smallest}

-- Of the columns below i: nothing where each is 0, else one that holds that size, which is not 0 and is the smallest.
abbrev pub Least : List ℤ → ℕ → Pick → Type 0
Least r i nothing = (k : ℕ) → k < i → nat_abs (at r k) ≡ 0
Least r i (column j a) = (j < i) × (nat_abs (at r j) ≡ a) × (0 < a) × ((k : ℕ) → k < i → 0 < nat_abs (at r k) → a ≤ nat_abs (at r k))

some_size : (a : ℕ) → eqb a 0 ≡ false → 0 < a
some_size zero e = absurd (eqb-false 0 0 e refl)
some_size (suc a) e = omega arith

module _ (r : List ℤ) (i : ℕ) where
  abbrev here : ℕ
  here = nat_abs (at r i)

  -- One more column.
  least_more : (P : ℕ → Type 0) → ((k : ℕ) → k < i → P k) → P i → (k : ℕ) → k < suc i → P k
  least_more P h p k l = by_less k i (h k) (λ m. subst P (omega arith) p)

  least_better : (b : Pick) → Least r i b → Least r (suc i) (better i here b)
  least_better nothing h =
      if_ind (eqb here 0) nothing (column i here) (Least r (suc i))
      (λ e. least_more (λ k. nat_abs (at r k) ≡ 0) h (eqb-true here 0 e))
      (λ e. (omega arith, refl, some_size here e, least_more (λ k. 0 < nat_abs (at r k) → here ≤ nat_abs (at r k)) (λ k l p. absurd (omega (arith, h k l))) (λ p. omega arith)))
  least_better (column j a) h =
      if_ind (eqb here 0) (column j a) (if (ltb here a) (column i here) (column j a)) (Least r (suc i))
      (λ e. (omega arith, h.1, h.2, least_more (λ k. 0 < nat_abs (at r k) → a ≤ nat_abs (at r k)) h.3 (λ p. absurd (omega (arith, eqb-true here 0 e)))))
      (λ e. if_ind (ltb here a) (column i here) (column j a) (Least r (suc i))
      (λ l. (omega arith, refl, some_size here e, least_more (λ k. 0 < nat_abs (at r k) → here ≤ nat_abs (at r k)) (λ k m p. omega (arith, ltb-true here a l, h.3 k m p)) (λ p. omega arith)))
      (λ l. (omega arith, h.1, h.2, least_more (λ k. 0 < nat_abs (at r k) → a ≤ nat_abs (at r k)) h.3 (λ p. ltb-false here a l))))

least_from : (r : List ℤ) (i : ℕ) (b : Pick) (s : List ℤ) → ((k : ℕ) → at s k ≡ at r (i + k)) → Least r i b → Least r (i + length s) (smallest_from i b s)
unfolding smallest_from
least_from r i b [] h l = subst (λ n. Least r n b) (omega arith) l
least_from r i b (x ∷ s) h l =
    let e : x ≡ at r i = h 0 ∙ ap (at r) (omega arith) in
    subst (λ n. Least r n (smallest_from (suc i) (better i (nat_abs x) b) s)) (omega arith)
    (least_from r (suc i) (better i (nat_abs x) b) s (λ k. h (suc k) ∙ ap (at r) (omega arith)) (rw e (least_better r i b l)))

pub least : (r : List ℤ) → Least r (length r) (smallest r)
least r = subst (λ n. Least r n (smallest r)) (omega arith) (least_from r 0 nothing r (λ k. ap (at r) (omega arith)) (λ k h. absurd (omega arith)))

-- ---- as a loop finds it
module _ (b : Pick) (r : List ℤ) (i : ℕ) where
  pub smallest_more : i < length r → smallest_from i b (drop i r) ≡ smallest_from (i + 1) (better i (nat_abs (at r i)) b) (drop (i + 1) r)
  unfolding smallest_from
  smallest_more l = rw (add-one, drop-cons r i (pos 0))

  pub smallest_end : length r ≤ i → smallest_from i b (drop i r) ≡ b
  unfolding smallest_from
  smallest_end l = rw (drop_of_length-le r l)

-- The four ways of `better`.
module _ (i a : ℕ) (b : Pick) where
  pub better_zero : a ≡ 0 → b ≡ better i a b
  better_zero e = rw e (by b)
    where
      by : (b : Pick) → b ≡ better i 0 b
      by nothing = refl
      by (column j d) = refl

  pub better_first : b ≡ nothing → (a ≡ 0 → ⊥) → column i a ≡ better i a b
  better_first e n = rw (e, ne_eqb a 0 n)

  module _ (j d : ℕ) (e : b ≡ column j d) (n : a ≡ 0 → ⊥) where
    pub better_less : a < d → column i a ≡ better i a b
    better_less l = rw (e, ne_eqb a 0 n, lt-ltb a d l)

    pub better_kept : d ≤ a → column j d ≡ better i a b
    better_kept l = rw (e, ne_eqb a 0 n, le-ltb a d l)
