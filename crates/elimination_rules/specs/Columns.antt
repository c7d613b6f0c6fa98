-- One constant column: what a table that stands for a set S of assignments is, in numbers for the unknowns alone.
use Rattle.std.specs.Prelude.{◌≡◌, refl, List, [], ◌∷◌, ◌++◌, ℕ, zero, suc, ◌+◌, ◌-◌, ◌≤◌, ◌<◌, length, take, drop, replicate, ℤ, pos, ◌+ℤ◌}
use Rattle.std.proofs.Common.{sym, ◌∙◌, ap, ap₂, append_assoc, subst, arith, length-append, drop_at, get_or-take}
use Rattle.std.proofs.lemmas.List.{length-replicate}
use Rattle.std.proofs.Math.ListN.{get_or-append}
use Rattle.whole.specs.Cases.{by_less}
use Rattle.whole.specs.Word.{bit, by_bit}
use Rattle.row.specs.Row.{at, dot, single}
use Rattle.row.specs.Table.{constants, row_values, Rows}
use Rattle.row.specs.Values.{none_dot}
use Rattle.row.specs.Tables.{past, constants_low, constants_high}
use Rattle.elimination_rules.specs.General.{Gap, Off, val, values, Column}
use Rattle.elimination_rules.specs.First.{first_values, at_first, length_first, first_at}
use Rattle.elimination_rules.specs.Zeros.{dot_below}
use Rattle.elimination_rules.specs.Yield.{yield, yield_row}
use Rattle.elimination_rules.specs.Moves.{Stands, dot_off}
use Rattle.elimination_rules.specs.Course.{Constant, constant_value}
use Rattle.elimination_rules.specs.Replace.{take_past, dot_parts}

pub length_yielded : (u c w v : ℕ) (t z : List ℤ) → length (values u c w v t z) ≡ v
unfolding values
length_yielded u c w zero t z = refl
length_yielded u c w (suc v) t z = ap suc (length_yielded u c w v (drop w t) z)

-- A row in the free unknowns has none of the unknowns that are not used.
gap_of : (u v f : ℕ) (r : List ℤ) → ((i : ℕ) → bit i f ≡ 1 → i < v) → Off u f r → Gap u v r
gap_of u v f r b o i h k = by_bit i f (λ e. o i k e) (λ e. absurd (omega (arith, b i e)))

-- ---- numbers for the v unknowns as an assignment: theirs, 0 up to u, the constants of column c
module _ (u v c : ℕ) where
  abbrev pub rest : List ℤ
  rest = replicate (u - v) (pos 0) ++ drop u (single c)

  abbrev pub whole : List ℤ → List ℤ
  whole a = first_values v (at a) ++ rest

  pub at_whole : (a : List ℤ) (i : ℕ) → i < v → at (whole a) i ≡ at a i
  at_whole a i h = get_or-append (first_values v (at a)) rest (pos 0) i (omega (arith, length_first v (at a))) ∙ at_first v (at a) i h

  pub constant_whole : v ≤ u → (a : List ℤ) → Constant u c (whole a)
  constant_whole vu a i h =
      let l : List ℤ = first_values v (at a) in
      ap (λ x. at x i) (sym (append_assoc l (replicate (u - v) (pos 0)) (drop u (single c))))
      ∙ past (l ++ replicate (u - v) (pos 0)) (single c) u i
      (length-append l (replicate (u - v) (pos 0)) ∙ ap₂ ◌+◌ (length_first v (at a)) (length-replicate (u - v) (pos 0)) ∙ omega arith) h

-- Where the constants are those of column c, the product is the value.
pub dot_val : (u c : ℕ) (r y : List ℤ) → u ≤ c → Constant u c y → dot r y ≡ val u c r y
unfolding val
dot_val u c r y uc k =
    dot_parts u u r y (omega arith) (λ i a b. absurd (omega arith))
    ∙ ap (λ x. dot (take u r) y +ℤ x) (constant_value u c (constants u r) y (constants_low u r) k ∙ constants_high u r c uc)

-- Only the numbers of the v unknowns count.
pub val_below : (u v c : ℕ) (r a b : List ℤ) → Gap u v r → ((i : ℕ) → i < v → at a i ≡ at b i) → val u c r a ≡ val u c r b
unfolding val
val_below u v c r a b g h =
    ap (λ x. x +ℤ at r c)
    (dot_below v (take u r) a b (λ i l. by_less i u (λ k. get_or-take u r i (pos 0) k ∙ g i l k) (λ k. take_past u r i k)) h)

pub val_whole : (u v c : ℕ) (r a : List ℤ) → v ≤ u → u ≤ c → Gap u v r → dot r (whole u v c a) ≡ val u c r a
val_whole u v c r a vu uc g = dot_val u c r (whole u v c a) uc (constant_whole u v c vu a) ∙ val_below u v c r (whole u v c a) a g (at_whole u v c a)

-- ---- the values of a table's rows
values_of : (P : List ℤ → Type 0) (u c w : ℕ) (x z : List ℤ) → ((r : List ℤ) → P r → dot r x ≡ val u c r z)
    → (n : ℕ) (t : List ℤ) → Rows P w n t → row_values w n t x ≡ values u c w n t z
unfolding row_values values
values_of P u c w x z h zero t p = refl
values_of P u c w x z h (suc n) t p = ap₂ ◌∷◌ (h (take w t) p.0) (values_of P u c w x z h n (drop w t) p.1)

module _ (u v w c : ℕ) (vu : v ≤ u) (uc : u ≤ c) (S : List ℤ → Type 0) (t : List ℤ) (f : ℕ) (s : Stands u v w S t [] f) where
  abbrev full : List ℤ → List ℤ
  full a = whole u v c a

  abbrev yields : List ℤ → List ℤ
  yields z = values u c w v t z

  constant_full : (a : List ℤ) → Constant u c (full a)
  constant_full a = constant_whole u v c vu a

  -- The values of one choice are the products of another that agrees with it where it is free.
  values_agree : (y z : List ℤ) → ((i : ℕ) → bit i f ≡ 1 → at y i ≡ at z i) → row_values w v t (full y) ≡ yields z
  values_agree y z h =
      values_of (Off u f) u c w (full y) z
      (λ r o. dot_off u f r (full y) (full z) o
      (λ i b. at_whole u v c y i (s.kept.free i b) ∙ h i b ∙ sym (at_whole u v c z i (s.kept.free i b)))
      (λ i k. constant_full y i k ∙ sym (constant_full z i k))
      ∙ val_whole u v c r z vu uc (gap_of u v f r s.kept.free o))
      v t s.kept.zero_else

  yield_full : (z : List ℤ) → yield w v t (full z) ≡ full (yields z)
  yield_full z =
      ap₂ ◌++◌ (values_agree z z (λ i b. refl) ∙ sym (first_at v (yields z) (length_yielded u c w v t z)))
      (drop_at (first_values v (at z)) (rest u v c) v (length_first v (at z)))

  values_back : (a : List ℤ) → row_values w v t (s.back (full a)) ≡ yields (s.back (full a))
  values_back a =
      values_of (Off u f) u c w (s.back (full a)) (s.back (full a))
      (λ r _. dot_val u c r (s.back (full a)) uc (λ i k. s.keeps (full a) i (omega arith) ∙ constant_full a i k))
      v t s.kept.zero_else

  pub stands_column : Column u v w (λ a. S (full a)) t f c
  stands_column = record {
    solves = λ z. subst S (yield_full z) (s.solves (full z) (none_dot (full z)));
    choice = λ a. s.back (full a);
    yielded = λ a h j l. ap (λ x. at x j) (sym (values_back a)) ∙ sym (yield_row w v t (s.back (full a)) j l) ∙ s.found (full a) h j ∙ at_whole u v c a j l;
    same = λ y z h. sym (values_agree y y (λ i b. refl)) ∙ values_agree y z h;
    only = λ y z h i b.
        sym (at_whole u v c y i (s.kept.free i b)) ∙ sym (s.agrees (full y) i b)
        ∙ ap (λ x. at (s.back x) i) (yield_full y ∙ ap full h ∙ sym (yield_full z))
        ∙ s.agrees (full z) i b ∙ at_whole u v c z i (s.kept.free i b);
  }

-- The same assignments, said otherwise.
pub column_for : {u v w f c : ℕ} {A : List ℤ → Type 0} {t : List ℤ} (A' : List ℤ → Type 0)
    → ((a : List ℤ) → A a → A' a) → ((a : List ℤ) → A' a → A a) → Column u v w A t f c → Column u v w A' t f c
column_for {u} {v} {w} {f} {c} {A} {t} A' g h k = record {
  solves = λ z. g (values u c w v t z) (k.solves z);
  choice = k.choice;
  yielded = λ a l. k.yielded a (h a l);
  same = k.same;
  only = k.only;
}
