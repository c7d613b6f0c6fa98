-- A table, and an equation in its choices, stand for a set S of assignments; each move of the elimination keeps that. An
-- assignment is a number for every column: the value of a row is their product, the constants are numbers like the others.
use Rattle.std.specs.Prelude.{◌≡◌, refl, ◌≢◌, true, List, [], ◌∷◌, ℕ, ◌≤◌, ◌<◌, length, ℤ, pos, negsuc, ◌+ℤ◌, ◌*ℤ◌}
use Rattle.std.proofs.Common.{sym, ◌∙◌, ap, ap₂, subst, arith}
use Rattle.whole.specs.Identity.{identity, terms}
use Rattle.whole.specs.Ring.{no_divisors}
use Rattle.whole.specs.Word.{bit, cleared}
use Rattle.row.specs.Row.{at, dot, single, all_in_limit}
use Rattle.row.specs.Values.{none_dot, dot_same, dot_times}
use Rattle.elimination_rules.specs.Round.{swap}
use Rattle.elimination_rules.proofs.Swap.{swapped, off_swap}
use Rattle.elimination_rules.specs.Steps.{Quotients}
use Rattle.elimination_rules.specs.Kept.{still_free}
use Rattle.elimination_rules.proofs.Kept.{again_kept, last_kept}
use Rattle.elimination_rules.specs.Yield.{yield, yield_past, moved, dot_moved, at_moved, moved_other, yield_same}
use Rattle.elimination_rules.proofs.Yield.{dot_swap, yield_swapped}
use Rattle.elimination_rules.specs.Moves.{Stands, dot_off}

module _ (u v w j f : ℕ) (S : List ℤ → Type 0) (q t e : List ℤ) (vu : v ≤ u) (jv : j < v)
    (fits : all_in_limit (swapped w v j q t) ≡ true) (s : Stands u v w S t e f) where
  abbrev there : List ℤ → List ℤ
  there z = moved (negsuc 0) q j z

  abbrev here : List ℤ → List ℤ
  here z = moved (pos 1) q j z

  moves : length q ≡ w → (z : List ℤ) → yield w v (swapped w v j q t) z ≡ yield w v t (there z)
  moves lq z = yield_swapped w v j q t z jv lq s.kept.long

  -- ---- 6. The unknown replaced by itself times the product of the others: a bijection of choices that keeps every value.
  module _ (h : Quotients u w f j (pos 0) q) where
    unmoved : (c : ℤ) (z : List ℤ) → dot q (moved c q j z) ≡ dot q z
    unmoved c z = dot_moved c q j z q ∙ ap (λ a. dot q z +ℤ c *ℤ dot q z *ℤ a) h.here ∙ law (dot q z) c
      where
        law : (a c : ℤ) → a +ℤ c *ℤ a *ℤ pos 0 ≡ a
        law a c = identity (a ∷ c ∷ []) (search terms depth 20) (search terms depth 20) tt

    there_here : (z : List ℤ) (i : ℕ) → at (there (here z)) i ≡ at z i
    there_here z i =
        at_moved (negsuc 0) q j (here z) i
        ∙ ap₂ (λ a d. a +ℤ negsuc 0 *ℤ d *ℤ at (single j) i) (at_moved (pos 1) q j z i) (unmoved (pos 1) z)
        ∙ law (at z i) (dot q z) (at (single j) i)
      where
        law : (a d n : ℤ) → a +ℤ pos 1 *ℤ d *ℤ n +ℤ negsuc 0 *ℤ d *ℤ n ≡ a
        law a d n = identity (a ∷ d ∷ n ∷ []) (search terms depth 20) (search terms depth 20) tt

    -- Back from what a moved choice yields, and moved back: the choice, where it is free.
    back_here : (z : List ℤ) (i : ℕ) → bit i f ≡ 1 → at (here (s.back (yield w v t (there z)))) i ≡ at z i
    back_here z i b =
        let y = s.back (yield w v t (there z)) in
        let d : dot q y ≡ dot q z = dot_off u f q y (there z) h.off (s.agrees (there z))
        (λ k c. s.keeps (yield w v t (there z)) k (omega arith) ∙ yield_past w v t (there z) k (omega arith)) ∙ unmoved (negsuc 0) z in
        at_moved (pos 1) q j y i
        ∙ ap₂ (λ a e. a +ℤ pos 1 *ℤ e *ℤ at (single j) i) (s.agrees (there z) i b ∙ at_moved (negsuc 0) q j z i) d
        ∙ law (at z i) (dot q z) (at (single j) i)
      where
        law : (a d n : ℤ) → (a +ℤ negsuc 0 *ℤ d *ℤ n) +ℤ pos 1 *ℤ d *ℤ n ≡ a
        law a d n = identity (a ∷ d ∷ n ∷ []) (search terms depth 20) (search terms depth 20) tt

    pub again_stands : Stands u v w S (swapped w v j q t) (swap j q e) f
    again_stands = record {
      kept = again_kept u v w j q t f fits s.kept h;
      off = off_swap u f j q e h.off s.off;
      solves = λ z k. subst S (sym (moves h.long z)) (s.solves (there z) (sym (dot_swap q j e z) ∙ k));
      back = λ x. here (s.back x);
      keeps = λ x i l. moved_other (pos 1) q j (s.back x) i (λ e. omega arith) ∙ s.keeps x i l;
      zero_at = λ x k. dot_swap q j e (here (s.back x)) ∙ dot_same e (there (here (s.back x))) (s.back x) (there_here (s.back x)) ∙ s.zero_at x k;
      found = λ x k i.
          ap (λ l. at l i) (moves h.long (here (s.back x)))
          ∙ yield_same w v t (there (here (s.back x))) (s.back x) (there_here (s.back x)) i ∙ s.found x k i;
      agrees = λ z i b. ap (λ l. at (here (s.back l)) i) (moves h.long z) ∙ back_here z i b;
    }

  -- ---- 5. The unknown replaced by the product of the others: a choice less. The equation is p times q.
  module _ (h : Quotients u w f j (pos 1) q) (p : ℤ) (np : p ≢ pos 0) (ep : (i : ℕ) → at e i ≡ p *ℤ at q i) where
    -- Every choice moved makes the equation zero,
    moved_zero : (z : List ℤ) → dot e (there z) ≡ pos 0
    moved_zero z =
        dot_times p e q (there z) ep
        ∙ ap (λ a. p *ℤ a) (dot_moved (negsuc 0) q j z q ∙ ap (λ a. dot q z +ℤ negsuc 0 *ℤ dot q z *ℤ a) h.here)
        ∙ law p (dot q z)
      where
        law : (p a : ℤ) → p *ℤ (a +ℤ negsuc 0 *ℤ a *ℤ pos 1) ≡ pos 0
        law p a = identity (p ∷ a ∷ []) (search terms depth 20) (search terms depth 20) tt

    -- and a choice that makes it zero stays where it is.
    zero_unmoved : (z : List ℤ) → dot e z ≡ pos 0 → (i : ℕ) → at (there z) i ≡ at z i
    zero_unmoved z k i =
        at_moved (negsuc 0) q j z i
        ∙ ap (λ a. at z i +ℤ negsuc 0 *ℤ a *ℤ at (single j) i) (no_divisors p (dot q z) np (sym (dot_times p e q z ep) ∙ k))
        ∙ law (at z i) (at (single j) i)
      where
        law : (a n : ℤ) → a +ℤ negsuc 0 *ℤ pos 0 *ℤ n ≡ a
        law a n = identity (a ∷ n ∷ []) (search terms depth 20) (search terms depth 20) tt

    pub last_stands : Stands u v w S (swapped w v j q t) [] (cleared f j)
    last_stands = record {
      kept = last_kept u v w j q t f fits s.kept h;
      off = λ i a b. refl;
      solves = λ z _. subst S (sym (moves h.long z)) (s.solves (there z) (moved_zero z));
      back = s.back;
      keeps = s.keeps;
      zero_at = λ x _. none_dot (s.back x);
      found = λ x k i.
          ap (λ l. at l i) (moves h.long (s.back x))
          ∙ yield_same w v t (there (s.back x)) (s.back x) (zero_unmoved (s.back x) (s.zero_at x k)) i ∙ s.found x k i;
      agrees = λ z i b.
          let g = still_free f j i b in
          ap (λ l. at (s.back l) i) (moves h.long z) ∙ s.agrees (there z) i g.0 ∙ moved_other (negsuc 0) q j z i g.1;
    }
