-- What the tests for zero say: each column of some kind holds 0, or one of them does not.
use Rattle.std.specs.Prelude.{◌≡◌, ◌≢◌, true, false, List, [], ◌∷◌, ℕ, suc, ◌+◌, ◌-◌, ◌≤◌, ◌<◌, length, take, drop, ℤ, pos, nat_abs, ◌*ℤ◌}
use Rattle.std.proofs.Common.{sym, ◌∙◌, ap, subst, arith, eqb-true, length-take, get_or-take, get_or-drop}
use Rattle.std.proofs.lemmas.Bool.{eqb-false}
use Rattle.std.proofs.Math.ListN.{get_or-eq_default}
use Rattle.std.proofs.Math.IntN.{zero-*ℤ}
use Rattle.whole.specs.Cases.{if_ind, not_both, by_less}
use Rattle.whole.specs.Ring.{size_zero}
use Rattle.row.specs.Row.{at, all, is_zero, all_zero, dot}
use Rattle.row.specs.Values.{dot_agree}
use Rattle.row.specs.Tables.{all_at}

-- Every column of the kind C holds 0.
abbrev pub Zero : (ℕ → Type 0) → List ℤ → Type 0
Zero C r = (i : ℕ) → C i → at r i ≡ pos 0

-- Some column of the kind C does not.
pub record Nonzero (C : ℕ → Type 0) (r : List ℤ) : Type 0 where
  pub place : ℕ
  pub among : C place
  pub is : at r place ≢ pos 0

-- The unknowns' columns, and the constants'.
abbrev pub Below : ℕ → ℕ → Type 0
Below u i = i < u

abbrev pub From : ℕ → ℕ → Type 0
From u i = u ≤ i

-- Not 0 is of some size.
pub some_size : (x : ℤ) → x ≢ pos 0 → 0 < nat_abs x
some_size x h = by_less 0 (nat_abs x) (λ k. k) (λ k. absurd (h (size_zero x (omega arith))))

pub sized : (x : ℤ) → 0 < nat_abs x → x ≢ pos 0
sized x h z = omega (arith, ap nat_abs z)

-- A column that is not 0 is there.
pub in_length : (r : List ℤ) (i : ℕ) → at r i ≢ pos 0 → i < length r
in_length r i h = by_less i (length r) (λ k. k) (λ k. absurd (h (get_or-eq_default r (pos 0) k)))

-- ---- a column that is 0 counts for nothing in a value
pub absent : (r x y : List ℤ) (i : ℕ) → at r i ≡ pos 0 → at r i *ℤ at x i ≡ at r i *ℤ at y i
absent r x y i z = rw z (zero-*ℤ (at x i) ∙ sym (zero-*ℤ (at y i)))

pub dot_below : (v : ℕ) (r x y : List ℤ) → Zero (From v) r → ((i : ℕ) → i < v → at x i ≡ at y i) → dot r x ≡ dot r y
dot_below v r x y z h = dot_agree r x y (λ i. by_less i v (λ l. ap (λ a. at r i *ℤ a) (h i l)) (λ l. absent r x y i (z i l)))

pub dot_from : (u : ℕ) (r x y : List ℤ) → Zero (Below u) r → ((i : ℕ) → u ≤ i → at x i ≡ at y i) → dot r x ≡ dot r y
dot_from u r x y z h = dot_agree r x y (λ i. by_less i u (λ l. absent r x y i (z i l)) (λ l. ap (λ a. at r i *ℤ a) (h i l)))

-- ---- the tests
is_zero_lem : (x : ℤ) → is_zero x ≡ true → x ≡ pos 0
is_zero_lem x e = size_zero x (eqb-true (nat_abs x) 0 e)

is_nonzero : (x : ℤ) → is_zero x ≡ false → x ≢ pos 0
is_nonzero x e z = eqb-false (nat_abs x) 0 e (ap nat_abs z)

all_zero_lem : (r : List ℤ) → all_zero r ≡ true → (i : ℕ) → at r i ≡ pos 0
all_zero_lem r e i = by_less i (length r) (λ h. is_zero_lem (at r i) (all_at is_zero (pos 0) r i e h)) (λ h. get_or-eq_default r (pos 0) h)

some_nonzero : (r : List ℤ) → all_zero r ≡ false → Nonzero (Below (length r)) r
unfolding all
some_nonzero [] e = not_both e
some_nonzero (x ∷ r) e =
    if_ind (is_zero x) (all_zero r) false (λ b. b ≡ false → Nonzero (Below (length (x ∷ r))) (x ∷ r))
    (λ h k. let n = some_nonzero r k in record { place = suc n.place; among = omega (arith, n.among); is = n.is })
    (λ h k. record { place = 0; among = omega arith; is = is_nonzero x h })
    e

module _ (u : ℕ) (r : List ℤ) where
  pub zero_everywhere : Zero (Below u) r → Zero (From u) r → (i : ℕ) → at r i ≡ pos 0
  zero_everywhere h k i = by_less i u (h i) (k i)

  pub zero_below : all_zero (take u r) ≡ true → Zero (Below u) r
  zero_below e i h = sym (get_or-take u r i (pos 0) h) ∙ all_zero_lem (take u r) e i

  pub zero_from : all_zero (drop u r) ≡ true → Zero (From u) r
  zero_from e i h = subst (λ n. at r n ≡ pos 0) (omega arith) (sym (get_or-drop u r (i - u) (pos 0)) ∙ all_zero_lem (drop u r) e (i - u))

  pub nonzero_below : all_zero (take u r) ≡ false → Nonzero (Below u) r
  nonzero_below e =
      let n = some_nonzero (take u r) e in
      let h : n.place < u = omega (arith, n.among, length-take u r) in
      record { place = n.place; among = h; is = λ z. n.is (get_or-take u r n.place (pos 0) h ∙ z) }

  pub nonzero_from : all_zero (drop u r) ≡ false → Nonzero (From u) r
  nonzero_from e =
      let n = some_nonzero (drop u r) e in
      record { place = u + n.place; among = omega arith; is = λ z. n.is (get_or-drop u r n.place (pos 0) ∙ z) }
