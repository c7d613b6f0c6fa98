-- The rows of a formed sheet: records, the lines' units and equations. Each has a number for every column, and 0 for the unknowns
-- that are not used.
use Rattle.std.specs.Prelude.{◌≡◌, length, ℤ, pos, ◌+ℤ◌, ◌*ℤ◌}
use Rattle.std.proofs.Math.Path.{refl}
use Rattle.std.proofs.Common.{◌∙◌, ap₂, ltb-true}
use mathlib.Core.List.{List, [], ◌∷◌}
use Prim.Native.Nat.{ℕ, zero, suc, ◌<◌}
use native.Mathlib.Omega.{arith}
use Rattle.std.proofs.Math.ListN.{length-append, get_or-append}
use Rattle.std.proofs.lemmas.List.{length-replicate, get_or_at}
use Rattle.whole.specs.Cases.{by_less}
use Rattle.whole.specs.Identity.{identity, terms}
use Rattle.row.specs.Row.{plus}
use Rattle.row.specs.Values.{at_plus, length_plus, single_other}
use Rattle.row.specs.Tables.{at_zeros, at_itself, length_itself}
use Rattle.sheet_rules.specs.Shape.{Shape, channel, line}
use Rattle.sheet_rules.specs.Good as G
use Rattle.sheet_rules.specs.Good.{Code, code_of}
use Rattle.sheet_rules.specs.Lines.{none, unknown, reads, unit_of, unit_by, equations_by, units, unit_at, equations_at}
use Rattle.sheet_rules.specs.Formed.{Formed}
use Rattle.sheet_rules.specs.FormedLaws.{Operands}
use Rattle.sheet_rules.specs.UnitRows.{Fitting, Each, record_fits, line_operands}

-- ---- "Lines are worked in order": the units of the first k lines are those lines' units
module _ (sh : Shape) (s : List ℕ) where
  length_units : (k : ℕ) → length (units sh s k) ≡ k
  unfolding units
  length_units zero = refl
  length_units (suc k) = length-append (units sh s k) (unit_at sh s k ∷ []) ∙ omega (arith, length_units k)

  pub units_are : (k i : ℕ) → i < k → unit_of (units sh s k) i ≡ unit_at sh s i
  unfolding units
  units_are zero i h = absurd (omega arith)
  units_are (suc k) i h =
      by_less i k
      (λ l. get_or-append (units sh s k) (unit_at sh s k ∷ []) [] i (omega (arith, length_units k)) ∙ units_are k i l)
      (λ l. let e : i ≡ k = omega arith in rw e (get_or_at (units sh s k) (unit_at sh s k) [] [] k (length_units k)))

-- ---- a row that fits the sheet
module _ (sh : Shape) where
  none_fits : Fitting sh (none sh)
  none_fits = record { long = length-replicate sh.columns (pos 0); gap = λ i _ _. at_zeros sh.columns i }

  plus_fits : (f : ℤ) (r q : List ℤ) → Fitting sh r → Fitting sh q → Fitting sh (plus f r q)
  plus_fits f r q x y = record {
    long = length_plus f r q (omega (arith, x.long, y.long)) ∙ x.long;
    gap = λ i h l. at_plus f r q i ∙ ap₂ (λ a b. a +ℤ f *ℤ b) (x.gap i h l) (y.gap i h l) ∙ law f;
  }
    where
      law : (f : ℤ) → pos 0 +ℤ f *ℤ pos 0 ≡ pos 0
      law f = identity (f ∷ []) (search terms depth 20) (search terms depth 20) tt

module _ (sh : Shape) (s : List ℕ) (F : Formed sh s) where
  unknown_fits : (j : ℕ) → j < sh.unknowns → Fitting sh (unknown sh j)
  unknown_fits j h = record {
    long = length_itself sh.columns j;
    gap = λ i k l. at_itself sh.columns j i (omega (arith, F.laid)) ∙ single_other j i (λ e. omega arith);
  }

  pub reads_fits : (c : ℕ) → c < sh.channels → Fitting sh (reads sh s c)
  reads_fits c h = record_fits sh s F (channel sh s c) (ltb-true _ _ (F.good_channels c h))

  ruleset fitting = (none_fits, plus_fits, unknown_fits, record_fits, reads_fits)

  -- ---- the line table
  module _ (k : ℕ) (us : List (List ℤ)) (f : (i : ℕ) → i < k → Fitting sh (unit_of us i)) where
    unit_by_fits : (c : Code) (a b : ℕ) → Operands sh k c a b → Fitting sh (unit_by sh s us c a b)
    unit_by_fits G.number a b o = search fitting
    unit_by_fits G.reading a b o = search fitting
    unit_by_fits G.add a b o = search fitting
    unit_by_fits G.subtract a b o = search fitting
    unit_by_fits G.multiply a b o = search fitting
    unit_by_fits G.divide a b o = search fitting
    unit_by_fits G.root a b o = search fitting
    unit_by_fits G.less_than a b o = search fitting
    unit_by_fits G.stated a b o = search fitting
    unit_by_fits G.no_code a b o = search fitting

    equations_by_fit : (c : Code) (a b : ℕ) → Operands sh k c a b → Each (Fitting sh) (equations_by sh s us c a b)
    equations_by_fit G.number a b o = search fitting
    equations_by_fit G.reading a b o = search fitting
    equations_by_fit G.add a b o = search fitting
    equations_by_fit G.subtract a b o = search fitting
    equations_by_fit G.multiply a b o = search fitting
    equations_by_fit G.divide a b o = search fitting
    equations_by_fit G.root a b o = search fitting
    equations_by_fit G.less_than a b o = search fitting
    equations_by_fit G.stated a b o = search fitting
    equations_by_fit G.no_code a b o = search fitting

  units_fit : (n k : ℕ) → k < n → k < sh.lines → Fitting sh (unit_at sh s k)
  units_fit zero k l h = absurd (omega arith)
  units_fit (suc n) k l h =
      let x = line sh s k in
      unit_by_fits k (units sh s k) (λ i g. rw (units_are sh s k i g) (units_fit n i (omega arith) (omega arith))) (code_of x.code) x.a x.b (line_operands sh s F k h)

  pub unit_fits : (k : ℕ) → k < sh.lines → Fitting sh (unit_at sh s k)
  unit_fits k h = units_fit (suc k) k (omega arith) h

  pub equations_fit : (k : ℕ) → k < sh.lines → Each (Fitting sh) (equations_at sh s k)
  equations_fit k h =
      let x = line sh s k in
      equations_by_fit k (units sh s k) (λ i g. rw (units_are sh s k i g) (unit_fits i (omega arith))) (code_of x.code) x.a x.b (line_operands sh s F k h)
