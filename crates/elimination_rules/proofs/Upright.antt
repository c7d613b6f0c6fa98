-- The picked column, and the equation made upright for it.
use Rattle.std.specs.Prelude.{◌≡◌, refl, true, List, ℕ, ◌<◌, leb, length, ◌≤ℤ◌, ◌<ℤ◌, ℤ, pos, neg_ℤ, nat_abs}
use Rattle.std.proofs.Common.{sym, ◌∙◌, ap, subst, arith}
use Rattle.std.proofs.lemmas.List.{length-map}
use Rattle.std.specs.Int.Signed.{lt_z}
use Rattle.whole.specs.Cases.{by_test}
use Rattle.whole.specs.Difference.{differences, as_difference}
use Rattle.whole.specs.Ring.{size_neg}
use Rattle.whole.specs.Size.{limit, in_limit, less_true, less_false}
use Rattle.row.specs.Row.{at, all_in_limit}
use Rattle.row.specs.Divide.{negated}
use Rattle.row.specs.Tables.{all_at, all_of}
use Rattle.elimination_rules.specs.Round.{upright}
use Rattle.elimination_rules.specs.Upright.{at_negated}

-- ---- negated or not
flipped : (x : ℤ) → x <ℤ pos 0 → pos 0 <ℤ neg_ℤ x
flipped x = rw (as_difference x) (simp differences (omega arith))

unflipped : (x : ℤ) → 0 < nat_abs x → pos 0 ≤ℤ x → pos 0 <ℤ x
unflipped x = rw (as_difference x) (simp differences (omega arith))

module _ (e : List ℤ) (j : ℕ) where
  -- ".. so p > 0."
  pub upright_positive : 0 < nat_abs (at e j) → pos 0 <ℤ at (upright e j) j
  upright_positive some =
      by_test (lt_z (at e j) (pos 0))
      (λ h. rw h (subst (λ x. pos 0 <ℤ x) (sym (at_negated e j)) (flipped (at e j) (less_true (at e j) (pos 0) h))))
      (λ h. rw h (unflipped (at e j) some (less_false (at e j) (pos 0) h)))

  -- What holds of the equation and of its negation.
  pub upright_ind : (P : List ℤ → Type 0) → P (negated e) → P e → P (upright e j)
  upright_ind P f g = by_test (lt_z (at e j) (pos 0)) (λ h. rw h f) (λ h. rw h g)

  pub length_upright : length (upright e j) ≡ length e
  length_upright = upright_ind (λ l. length l ≡ length e) (length-map e neg_ℤ) refl

  pub size_upright : (i : ℕ) → nat_abs (at (upright e j) i) ≡ nat_abs (at e i)
  size_upright i = upright_ind (λ l. nat_abs (at l i) ≡ nat_abs (at e i)) (ap nat_abs (at_negated e i) ∙ size_neg (at e i)) refl

  pub upright_in_limit : all_in_limit e ≡ true → all_in_limit (upright e j) ≡ true
  upright_in_limit h =
      all_of in_limit (pos 0) (upright e j)
      (λ i k. ap (λ n. leb n limit) (size_upright i) ∙ all_at in_limit (pos 0) e i h (subst (λ n. i < n) length_upright k))
