-- A table, and an equation in its choices, stand for a set S of assignments. An assignment is a number for every column: the value
-- of a row is their product, the constants are numbers like the others.
use Rattle.std.specs.Prelude.{◌≡◌, List, [], ℕ, ◌≤◌, ℤ, pos, ◌*ℤ◌}
use Rattle.std.proofs.Common.{sym, ◌∙◌, ap}
use Rattle.whole.specs.Cases.{by_less}
use Rattle.whole.specs.Word.{bit, by_bit}
use Rattle.row.specs.Row.{at, dot}
use Rattle.row.specs.Values.{none_dot, dot_agree, dot_same}
use Rattle.elimination_rules.specs.General.{Off, Kept}
use Rattle.elimination_rules.specs.Zeros.{absent}
use Rattle.elimination_rules.specs.Yield.{yield}

-- The assignments of S are what t yields of the choices at which e is zero; `back` finds the choice.
pub record Stands (u v w : ℕ) (S : List ℤ → Type 0) (t e : List ℤ) (f : ℕ) : Type 0 where
  pub kept : Kept u v w t f
  pub off : Off u f e
  pub solves : (z : List ℤ) → dot e z ≡ pos 0 → S (yield w v t z)
  pub back : List ℤ → List ℤ
  pub keeps : (x : List ℤ) (i : ℕ) → v ≤ i → at (back x) i ≡ at x i
  pub zero_at : (x : List ℤ) → S x → dot e (back x) ≡ pos 0
  pub found : (x : List ℤ) → S x → (i : ℕ) → at (yield w v t (back x)) i ≡ at x i
  -- The free unknowns of a choice are found again.
  pub agrees : (z : List ℤ) (i : ℕ) → bit i f ≡ 1 → at (back (yield w v t z)) i ≡ at z i

-- A row in the free unknowns has one value at two choices that agree on these and on the constants.
pub dot_off : (u f : ℕ) (r y z : List ℤ) → Off u f r → ((i : ℕ) → bit i f ≡ 1 → at y i ≡ at z i) → ((i : ℕ) → u ≤ i → at y i ≡ at z i) → dot r y ≡ dot r z
dot_off u f r y z o h k =
    dot_agree r y z
    (λ i. by_less i u
    (λ a. by_bit i f (λ b. absent r y z i (o i a b)) (λ b. ap (λ x. at r i *ℤ x) (h i b)))
    (λ a. ap (λ x. at r i *ℤ x) (k i a)))

module _ {u v w f : ℕ} {S : List ℤ → Type 0} {t : List ℤ} where
  -- ---- 2. An equation with the same zeros.
  pub same_stands : {e : List ℤ} (e' : List ℤ) → ((z : List ℤ) → dot e z ≡ pos 0 → dot e' z ≡ pos 0) → ((z : List ℤ) → dot e' z ≡ pos 0 → dot e z ≡ pos 0)
      → Off u f e' → Stands u v w S t e f → Stands u v w S t e' f
  same_stands e' g h o s = record {
    kept = s.kept;
    off = o;
    solves = λ z k. s.solves z (h z k);
    back = s.back;
    keeps = s.keeps;
    zero_at = λ x k. g (s.back x) (s.zero_at x k);
    found = s.found;
    agrees = s.agrees;
  }

  -- ---- One more equation e: e' is the same in the table's choices.
  pub more_stands : (e e' : List ℤ) → ((z : List ℤ) → dot e' z ≡ dot e (yield w v t z)) → Off u f e' → Stands u v w S t [] f
      → Stands u v w (λ x. S x × (dot e x ≡ pos 0)) t e' f
  more_stands e e' g o s = record {
    kept = s.kept;
    off = o;
    solves = λ z k. (s.solves z (none_dot z), sym (g z) ∙ k);
    back = s.back;
    keeps = s.keeps;
    zero_at = λ x k. g (s.back x) ∙ dot_same e (yield w v t (s.back x)) x (s.found x k.0) ∙ k.1;
    found = λ x k. s.found x k.0;
    agrees = s.agrees;
  }

  -- ---- The same set, said otherwise.
  pub stands_for : {e : List ℤ} (S' : List ℤ → Type 0) → ((x : List ℤ) → S x → S' x) → ((x : List ℤ) → S' x → S x) → Stands u v w S t e f → Stands u v w S' t e f
  stands_for S' g h s = record {
    kept = s.kept;
    off = s.off;
    solves = λ z k. g (yield w v t z) (s.solves z k);
    back = s.back;
    keeps = s.keeps;
    zero_at = λ x k. s.zero_at x (h x k);
    found = λ x k. s.found x (h x k);
    agrees = s.agrees;
  }
