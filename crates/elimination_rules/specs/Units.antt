-- Demand 3 in units: a unit is a whole exponent for each base, and base b is constant column u + b.
use Rattle.std.specs.Prelude.{◌≡◌, refl, Bool, List, [], ℕ, suc, ◌+◌, ◌-◌, ◌≤◌, ◌<◌, ltb, ℤ, pos}
use Rattle.std.proofs.Common.{sym, ◌∙◌, ap, subst, arith, ext_get_or}
use Rattle.std.proofs.Math.Bool.{true, false}
use borrow.Author.Tests.{ltb-true, ltb-false}
use Rattle.whole.specs.Word.{bit}
use Rattle.row.specs.Row.{at}
use Rattle.row.specs.Table.{Rows}
use Rattle.row.specs.Tables.{rows_both, rows_fewer}
use Rattle.elimination_rules.specs.General.{Gap, val, values, Holds, Column, General, Clashing, Solvable}
use Rattle.elimination_rules.specs.First.{first_values, at_first, first_at}
use Rattle.elimination_rules.specs.Columns.{val_below, length_yielded}

-- A unit for each unknown: of unknown j, the exponent of base b.
abbrev pub Units : Type 0
Units = ℕ → ℕ → ℤ

-- The exponents of base b that the v unknowns have.
abbrev pub in_base : ℕ → Units → ℕ → List ℤ
in_base v x b = first_values v (λ j. x j b)

-- "the table yields units": of the units x that are chosen.
abbrev pub yields : ℕ → ℕ → ℕ → List ℤ → Units → Units
yields u v w t x j b = at (values u (u + b) w v t (in_base v x b)) j

-- Each of m equations is dimensionless under the units x.
abbrev pub Agree : ℕ → ℕ → ℕ → ℕ → List ℤ → Units → Type 0
Agree u v w m es x = (b : ℕ) → u + b < w → Holds u (u + b) w m es (in_base v x b)

-- Demand 3, for the sets A of units under which all agree.
pub record MostGeneral (u v w : ℕ) (A : Units → Type 0) (t : List ℤ) (f : ℕ) : Type 0 where
  -- "Give each free unknown any unit in the eight base units, exponents as large as you like, and the table yields units under which every
  -- line agrees. A choice names a unit for every column; `same` says that only the free ones count. The row of a free unknown need
  -- not be itself, so it need not yield the unit that is chosen for its column.
  pub solves : (x : Units) → A (yields u v w t x)
  -- Every set of units under which all lines agree comes out of the table this way,
  pub choice : Units → Units
  pub yielded : (x : Units) → A x → (j b : ℕ) → j < v → u + b < w → yields u v w t (choice x) j b ≡ x j b
  -- from exactly one choice."
  pub same : (x y : Units) → ((j b : ℕ) → bit j f ≡ 1 → u + b < w → x j b ≡ y j b) → (j b : ℕ) → j < v → u + b < w → yields u v w t x j b ≡ yields u v w t y j b
  pub only : (x y : Units) → ((j b : ℕ) → j < v → u + b < w → yields u v w t x j b ≡ yields u v w t y j b) → (j b : ℕ) → bit j f ≡ 1 → u + b < w → x j b ≡ y j b

-- There is such a set.
pub record Agreeing (u v w m : ℕ) (es : List ℤ) : Type 0 where
  pub units : Units
  pub agree : Agree u v w m es units

-- "the line named is the first whose lines so far, itself included, have none"
pub record FirstClash (u v w m : ℕ) (es : List ℤ) (n : ℕ) : Type 0 where
  pub among : n < m
  pub before : Agreeing u v w n es
  pub none : Agreeing u v w (suc n) es → ⊥

-- ---- column by column
module _ (u v w : ℕ) (t : List ℤ) (f : ℕ) (free : (i : ℕ) → bit i f ≡ 1 → i < v)
    (A : ℕ → List ℤ → Type 0) (k : (b : ℕ) → u + b < w → Column u v w (A b) t f (u + b)) where
  values_first : (b : ℕ) → u + b < w → (z : List ℤ) → values u (u + b) w v t (first_values v (at z)) ≡ values u (u + b) w v t z
  values_first b l z = (k b l).same (first_values v (at z)) z (λ i h. at_first v (at z) i (free i h))

  -- The choice in base b, where there is such a base.
  chosen : (x : Units) (b : ℕ) (c : Bool) → ltb (u + b) w ≡ c → List ℤ
  chosen x b true e = (k b (ltb-true (u + b) w e)).choice (in_base v x b)
  chosen x b false e = []

  chosen_yields : (x : Units) (b : ℕ) (c : Bool) (e : ltb (u + b) w ≡ c) → u + b < w → A b (in_base v x b) → (j : ℕ) → j < v
      → at (values u (u + b) w v t (chosen x b c e)) j ≡ at (in_base v x b) j
  unfolding chosen
  chosen_yields x b true e l a j h = (k b (ltb-true (u + b) w e)).yielded (in_base v x b) a j h
  chosen_yields x b false e l a j h = absurd (omega (arith, ltb-false (u + b) w e))

  same_values : (x y : Units) (b : ℕ) → ((j : ℕ) → j < v → yields u v w t x j b ≡ yields u v w t y j b)
      → values u (u + b) w v t (in_base v x b) ≡ values u (u + b) w v t (in_base v y b)
  same_values x y b h =
      let n = length_yielded u (u + b) w v t (in_base v x b) in
      ext_get_or (pos 0) (values u (u + b) w v t (in_base v x b)) (values u (u + b) w v t (in_base v y b))
      (n ∙ sym (length_yielded u (u + b) w v t (in_base v y b))) (λ i l. h i (omega (arith, n)))

  pub units_general : MostGeneral u v w (λ x. (b : ℕ) → u + b < w → A b (in_base v x b)) t f
  units_general = record {
    solves = λ x b l.
        let y = values u (u + b) w v t (in_base v x b) in
        subst (A b) (sym (first_at v y (length_yielded u (u + b) w v t (in_base v x b)))) ((k b l).solves (in_base v x b));
    choice = λ x j b. at (chosen x b (ltb (u + b) w) refl) j;
    yielded = λ x a j b h l.
        ap (λ y. at y j) (values_first b l (chosen x b (ltb (u + b) w) refl)) ∙ chosen_yields x b (ltb (u + b) w) refl l (a b l) j h ∙ at_first v (λ i. x i b) j h;
    same = λ x y h j b _ l. ap (λ z. at z j)
        ((k b l).same (in_base v x b) (in_base v y b) (λ i e. at_first v (λ i. x i b) i (free i e) ∙ h i b e l ∙ sym (at_first v (λ i. y i b) i (free i e))));
    only = λ x y h j b e l.
        sym (at_first v (λ i. x i b) j (free j e))
        ∙ (k b l).only (in_base v x b) (in_base v y b) (same_values x y b (λ i iv. h i b iv l)) j e
        ∙ at_first v (λ i. y i b) j (free j e);
  }

-- ---- for equations
module _ (u v w : ℕ) where
  pub general_units : {m : ℕ} {es t : List ℤ} {f : ℕ} → General u v w m es t f → MostGeneral u v w (Agree u v w m es) t f
  general_units {m} {es} {t} {f} g = units_general u v w t f g.kept.free (λ b. Holds u (u + b) w m es) (λ b l. g.column (u + b) (omega arith) l)

  -- Solutions in all columns are units.
  units_of : (m : ℕ) (es : List ℤ) → Rows (Gap u v) w m es → (s : ℕ → List ℤ) → ((c : ℕ) → u ≤ c → c < w → Holds u c w m es (s c)) → Agreeing u v w m es
  units_of m es g s h = record {
    units = λ j b. at (s (u + b)) j;
    agree = λ b l. rows_both (Gap u v) (λ e. val u (u + b) e (s (u + b)) ≡ pos 0) (λ e. val u (u + b) e (first_values v (at (s (u + b)))) ≡ pos 0)
        (λ e k z. val_below u v (u + b) e (first_values v (at (s (u + b)))) (s (u + b)) k (at_first v (at (s (u + b)))) ∙ z) w m es g (h (u + b) (omega arith) l);
  }

  in_column : (m : ℕ) (es : List ℤ) (x : Units) → Agree u v w m es x → (c : ℕ) → u ≤ c → c < w → Holds u c w m es (in_base v x (c - u))
  in_column m es x h c uc cw = subst (λ n. Holds u n w m es (in_base v x (c - u))) (omega arith) (h (c - u) (omega arith))

  pub solvable_units : {m : ℕ} {es : List ℤ} → Rows (Gap u v) w m es → Solvable u w m es → Agreeing u v w m es
  solvable_units {m} {es} g s = units_of m es g s.solution s.holds

  pub units_solvable : {m : ℕ} {es : List ℤ} → Agreeing u v w m es → Solvable u w m es
  units_solvable {m} {es} a = record { solution = λ c. in_base v a.units (c - u); holds = in_column m es a.units a.agree }

  pub clash_units : {m : ℕ} {es : List ℤ} {n : ℕ} → Rows (Gap u v) w m es → Clashing u w m es n → FirstClash u v w m es n
  clash_units {m} {es} {n} g k = record {
    among = k.among;
    before = units_of n es (rows_fewer (Gap u v) w m n es (omega (arith, k.among)) g) k.before k.before_holds;
    none = λ a. k.none (in_base v a.units (k.at_column - u)) (in_column (suc n) es a.units a.agree k.at_column k.from k.to);
  }

  pub clash_all : {m : ℕ} {es : List ℤ} {n : ℕ} → FirstClash u v w m es n → Agreeing u v w m es → ⊥
  clash_all {m} {es} {n} k a = k.none (record {
    units = a.units;
    agree = λ b l. rows_fewer (λ e. val u (u + b) e (in_base v a.units b) ≡ pos 0) w m (suc n) es (omega (arith, k.among)) (a.agree b l);
  })
