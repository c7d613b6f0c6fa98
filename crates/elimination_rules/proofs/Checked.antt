-- The public call's checks: a call which passes them is answered by the elimination.
use Rattle.std.proofs.Math.Path.{◌≡◌, refl}
use Rattle.std.proofs.Common.{sym, ◌∙◌, ap, div-add-mod', arith, ltb-false, eqb-true, le-ltb, eq-eqb, length-take, get_or-take, get_or-drop}
use Rattle.std.specs.Prelude.{◌≢◌, true, List, eqb, ltb, length, take, drop, ℤ, pos}
use Prim.Native.Nat.{ℕ, zero, suc, ◌+◌, ◌-◌, ◌*◌, ◌/◌, ◌%◌, ◌≤◌, ◌<◌}
use Rattle.whole.specs.Cases.{if, if_ind, by_test}
use Rattle.whole.specs.Division.{quotient}
use Rattle.row.specs.Row.{at, is_zero}
use Rattle.row.specs.Table.{Rows}
use Rattle.row.specs.Tables.{all_of}
use Rattle.elimination_rules.specs.Equation.{Verdict, eliminate}
use Rattle.elimination_rules.specs.Answer.{Answer, heard, refuses}
use Rattle.whole.specs.Place.{Found, place, nowhere, on_found}
use Rattle.elimination_rules.specs.Call.{unused, first_used, fuel, on_verdict, eliminated_by}
use Rattle.elimination_rules.specs.General.{Gap}
use Rattle.elimination_rules.specs.Zeros.{zero_below}
use Rattle.elimination_rules.specs.Checked.{Checked}

-- ---- columns that are not used
module _ (u v : ℕ) (r : List ℤ) where
  unused_gap : unused u v r ≡ true → Gap u v r
  unused_gap e i h l =
      ap (at r) (omega arith) ∙ sym (get_or-drop v r (i - v) (pos 0)) ∙ zero_below (u - v) (drop v r) e (i - v) (omega arith)

  gap_unused : Gap u v r → unused u v r ≡ true
  gap_unused g =
      all_of is_zero (pos 0) (take (u - v) (drop v r))
      (λ i l. let h : i < u - v = omega (arith, length-take (u - v) (drop v r)) in
      ap is_zero (get_or-take (u - v) (drop v r) i (pos 0) h ∙ get_or-drop v r i (pos 0) ∙ g (v + i) (omega arith) (omega arith)))

module _ (u v w : ℕ) where
  rows_gap : (m i : ℕ) (es : List ℤ) → first_used u v w m i es ≡ nowhere → Rows (Gap u v) w m es
  unfolding first_used
  rows_gap zero i es e = tt
  rows_gap (suc m) i es e =
      if_ind (unused u v (take w es)) (first_used u v w m (i + 1) (drop w es)) (place i) (λ a. a ≡ nowhere → Rows (Gap u v) w (suc m) es)
      (λ h k. (unused_gap u v (take w es) h, rows_gap m (i + 1) (drop w es) k))
      (λ _ k. let z : ◌≡◌ {A = ℕ} 0 1 = cc in absurd (omega arith)) e

  gap_rows : (m i : ℕ) (es : List ℤ) → Rows (Gap u v) w m es → first_used u v w m i es ≡ nowhere
  unfolding first_used
  gap_rows zero i es g = refl
  gap_rows (suc m) i es g = rw (gap_unused u v (take w es) g.0) (gap_rows m (i + 1) (drop w es) g.1)

module _ (u w v : ℕ) (es lent : List ℤ) where
  abbrev pub verdict : Verdict
  verdict = eliminate quotient fuel u v w (length es / w) es

  pub checked_answer : Checked u w v es lent → eliminated_by u w v es lent ≡ on_verdict lent verdict
  checked_answer k =
      rw (
        le-ltb u v k.unknowns,
        eq-eqb (length es % w) 0 (omega (arith, div-add-mod' (length es) w, k.whole)),
        gap_rows u v w (length es / w) 0 es k.gap,
        le-ltb (length lent) (w * v) k.room,
      )

  -- What holds of each refusal, and of the elimination's answer where the checks pass, holds of the call's.
  module _ (P : Answer → Type 0) (p₃ : P (refuses 3 0 lent)) (p₄ : P (refuses 4 0 lent)) (p₅ : (i : ℕ) → P (refuses 5 i lent)) (p₈ : P (refuses 8 0 lent))
      (p : Checked u w v es lent → P (on_verdict lent verdict)) where
    on_found_lem : (a : Found) → first_used u v w (length es / w) 0 es ≡ a → v ≤ u → length es ≡ length es / w * w
        → P (on_found (λ i. refuses 5 i lent) (if (ltb (length lent) (w * v)) (refuses 8 0 lent) (on_verdict lent verdict)) a)
    on_found_lem (place i) s vu l = p₅ i
    on_found_lem nowhere s vu l =
        by_test (ltb (length lent) (w * v)) (λ h. rw h p₈)
        (λ h. rw h (p (record { unknowns = vu; whole = l; gap = rows_gap u v w (length es / w) 0 es s; room = ltb-false (length lent) (w * v) h })))

    pub call_ind : P (eliminated_by u w v es lent)
    call_ind =
        by_test (ltb u v) (λ h. rw h p₃)
        (λ h. by_test (eqb (length es % w) 0)
        (λ g. rw (h, g) (on_found_lem (first_used u v w (length es / w) 0 es) refl (ltb-false u v h) (omega (arith, div-add-mod' (length es) w, eqb-true (length es % w) 0 g))))
        (λ g. rw (h, g) p₄))

  -- An answer that is none of the checks' refusals.
  pub answer_checked : (n i k f : ℕ) (t : List ℤ) → n ≢ 3 → n ≢ 4 → n ≢ 5 → n ≢ 8 → eliminated_by u w v es lent ≡ heard n i k f t → Checked u w v es lent
  answer_checked n i k f t n₃ n₄ n₅ n₈ =
      call_ind (λ a. a ≡ heard n i k f t → Checked u w v es lent)
      (λ e. absurd (n₃ (cc))) (λ e. absurd (n₄ (cc))) (λ j e. absurd (n₅ (cc))) (λ e. absurd (n₈ (cc))) (λ c _. c)
