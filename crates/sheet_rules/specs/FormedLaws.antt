-- Laws of the checks: what a sheet that passes them is like.
use Rattle.std.specs.Prelude.{◌≡◌, Bool, true, false, List, [], ◌∷◌, ltb, eqb, length}
use Rattle.std.proofs.Math.Path.{refl}
use Rattle.std.proofs.Common.{sym, ◌∙◌, mul-le-mul, arith, leb-true, ltb-true, eqb-true}
use Prim.Native.Nat.{ℕ, zero, suc, ◌+◌, ◌-◌, ◌*◌, ◌≤◌, ◌<◌}
use Rattle.whole.specs.Cases.{both, both_left, both_right, by_test, by_equal, not_both}
use Rattle.whole.specs.Place.{Found, place, nowhere, lowest}
use Rattle.sheet_rules.specs.Shape.{Shape, Line, number, trailer, shape_of}
use Rattle.sheet_rules.specs.Good as G
use Rattle.sheet_rules.specs.Good.{Code, code_of, good_operands, good_line}
use Rattle.sheet_rules.specs.Checks.{unless, good_length, good_mark, good_counts, good_distances, well_formed, first_failing, checks, checked_sheet}
use Rattle.sheet_rules.specs.Formed.{Laid, Formed}

-- What numbers are like whose tests were true: `search passed`.
ruleset passed = (both_left, both_right, leb-true, ltb-true, eqb-true)

-- ---- the counts and the parts
module _ (s : List ℕ) (sh : Shape) (e : good_counts s sh ≡ true) where
  counted : (sh.unknowns ≤ 24) × (sh.records ≤ 64) × (sh.channels ≤ 16) × (sh.lines ≤ 256)
  counted = search passed

  pub counts_near : sh.columns ≤ 64 → 16 + 4 * sh.lines + sh.channels + sh.columns * sh.records < 65536
  counts_near w = omega (arith, counted, mul-le-mul w counted.1)

  pub laid : sh.unknown_columns ≡ 24 → sh.columns ≡ 32 → good_distances s sh ≡ true → Laid sh s
  laid u w d =
      let a : number s (trailer s) ≡ 16 + 4 * sh.lines + sh.channels + sh.columns * sh.records = search passed in
      let b : number s (trailer s) ≡ length s = search passed in
      record {
        all_unknown_columns = u;
        columns = w;
        unknowns = counted.0;
        records = counted.1;
        channels = counted.2;
        lines = counted.3;
        long = sym b ∙ a;
      }

-- ---- the lowest place
module _ (good : ℕ → Bool) where
  lowest_nowhere : (n i : ℕ) → lowest good n i ≡ nowhere → (j : ℕ) → i ≤ j → j < i + n → good j ≡ true
  unfolding lowest
  lowest_nowhere zero i e j l h = absurd (omega arith)
  lowest_nowhere (suc n) i e j l h =
      by_test (good i)
      (λ t. by_equal j i (λ q. rw q t) (λ q. lowest_nowhere n (i + 1) (rw t at e) j (omega arith) (omega arith)))
      (λ t. let z : place i ≡ nowhere = rw t at e in cc)

  all_good : (n : ℕ) → lowest good n 0 ≡ nowhere → (j : ℕ) → j < n → good j ≡ true
  all_good n e j h = lowest_nowhere n 0 e j (omega arith) (omega arith)

  lowest_good : (n i : ℕ) → ((j : ℕ) → i ≤ j → j < i + n → good j ≡ true) → lowest good n i ≡ nowhere
  unfolding lowest
  lowest_good zero i h = refl
  lowest_good (suc n) i h = rw (h i (omega arith) (omega arith)) (lowest_good n (i + 1) (λ j l k. h j (omega arith) (omega arith)))

  none_lowest : (n : ℕ) → ((j : ℕ) → j < n → good j ≡ true) → lowest good n 0 ≡ nowhere
  none_lowest n h = lowest_good n 0 (λ j l k. h j (omega arith))

-- ---- no check refuses
abbrev NoneRefuses : List (ℕ × Found) → Type 0
NoneRefuses [] = Unit {0}
NoneRefuses (c ∷ cs) = (c.1 ≡ nowhere) × NoneRefuses cs

none_refuses : (cs : List (ℕ × Found)) → first_failing cs ≡ well_formed → NoneRefuses cs
none_refuses [] e = tt
none_refuses ((n, place i) ∷ cs) e = let z : ◌≡◌ {A = ℕ} 0 1 = cc in absurd (omega arith)
none_refuses ((n, nowhere) ∷ cs) e = (refl, none_refuses cs e)

unless_true : (b : Bool) → unless b ≡ nowhere → b ≡ true
unless_true true e = refl
unless_true false e = cc

pub formed : (s : List ℕ) → checked_sheet s ≡ well_formed → Formed (shape_of s) s
unfolding checked_sheet
formed s e =
    let p = (none_refuses (checks s (shape_of s)) e).1.1 in
    record {
      laid = laid s (shape_of s) (unless_true _ p.0) refl refl (unless_true _ p.1.0);
      good_records = all_good _ _ p.1.1.0;
      good_channels = all_good _ _ p.1.1.1.0;
      good_lines = all_good _ _ p.1.1.1.1.0;
    }

-- The converse, for a sheet that checks 1 to 4 let pass.
pub well_formed_lem : (s : List ℕ) → good_length s ≡ true → good_mark s ≡ true → good_counts s (shape_of s) ≡ true → good_distances s (shape_of s) ≡ true
    → Formed (shape_of s) s → checked_sheet s ≡ well_formed
unfolding checked_sheet
well_formed_lem s a b c d F =
    rw (a, b, c, d, none_lowest _ _ F.good_records, none_lowest _ _ F.good_channels, none_lowest _ _ F.good_lines)

-- ---- the operands of a line, by its code
pub no_code_lem : (n : ℕ) → 8 < n → code_of n ≡ G.no_code
no_code_lem n h = let e : n ≡ suc (suc (suc (suc (suc (suc (suc (suc (suc (n - 9))))))))) = omega arith in rw e

pub two_lines : (sh : Shape) (k n a b : ℕ) → 1 < n → n < 6 → good_operands sh k (code_of n) a b ≡ both (ltb a k) (ltb b k)
two_lines sh k n a b l h =
    by_equal n 2 (λ e. rw e)
    (λ p. by_equal n 3 (λ e. rw e) (λ q. by_equal n 4 (λ e. rw e) (λ r. let e : n ≡ 5 = omega arith in rw e)))

abbrev pub Operands : Shape → ℕ → Code → ℕ → ℕ → Type 0
Operands sh k G.number a b = Unit {0}
Operands sh k G.reading a b = (a < sh.channels) × (b ≡ 0)
Operands sh k G.add a b = (a < k) × (b < k)
Operands sh k G.subtract a b = (a < k) × (b < k)
Operands sh k G.multiply a b = (a < k) × (b < k)
Operands sh k G.divide a b = (a < k) × (b < k)
Operands sh k G.root a b = (a < k) × (b < sh.unknowns)
Operands sh k G.less_than a b = (a < k) × (b < k)
Operands sh k G.stated a b = (a < k) × (b < sh.records)
Operands sh k G.no_code a b = ⊥

by_operands : (sh : Shape) (k : ℕ) (c : Code) (a b : ℕ) → good_operands sh k c a b ≡ true → Operands sh k c a b
by_operands sh k G.number a b e = tt
by_operands sh k G.reading a b e = search passed
by_operands sh k G.add a b e = search passed
by_operands sh k G.subtract a b e = search passed
by_operands sh k G.multiply a b e = search passed
by_operands sh k G.divide a b e = search passed
by_operands sh k G.root a b e = search passed
by_operands sh k G.less_than a b e = search passed
by_operands sh k G.stated a b e = search passed
by_operands sh k G.no_code a b e = not_both (sym e)

pub operands : (sh : Shape) (k : ℕ) (l : Line) → good_line sh k l ≡ true → Operands sh k (code_of l.code) l.a l.b
operands sh k l e = by_operands sh k (code_of l.code) l.a l.b (both_right (eqb l.last 0) _ e)
