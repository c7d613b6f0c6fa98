-- The bridge from rows to units: the value of a line's row, where the unknowns are given units, is the line's unit; so its
-- equations are zero exactly when it agrees.
use Rattle.std.specs.Prelude.{◌≡◌, ◌↔◌, List, [], ◌∷◌, ℤ, pos, ◌-ℤ◌, ◌*ℤ◌}
use Rattle.std.proofs.Common.{sym, ◌∙◌, arith, ltb-true}
use Rattle.std.proofs.Math.Path.{ap, ap₂}
use Prim.Native.Nat.{ℕ, zero, suc, ◌+◌, ◌<◌}
use Rattle.std.proofs.Math.IntN.{◌+ℤ◌, zero-*ℤ}
use Rattle.whole.specs.Ring.{one_mul, equal_by_difference}
use Rattle.row.specs.Row.{at, less, dot, single}
use Rattle.row.specs.Values.{dot_comm, dot_zero, same_dot, dot_single, plus_dot, less_dot}
use Rattle.row.specs.Tables.{at_zeros, at_itself}
use Rattle.elimination_rules.specs.General.{val}
use Rattle.elimination_rules.specs.First.{at_first}
use Rattle.elimination_rules.specs.Columns.{at_whole, val_whole}
use Rattle.elimination_rules.specs.Units.{Units, in_base}
use Rattle.sheet_rules.specs.Shape.{Shape, unit_record, channel, line}
use Rattle.sheet_rules.specs.Good as G
use Rattle.sheet_rules.specs.Good.{Code, code_of}
use Rattle.sheet_rules.specs.Lines as L
use Rattle.sheet_rules.specs.Lines.{none, unknown, reads, unit_of, units, unit_at, equations_at}
use Rattle.sheet_rules.specs.Agree.{IsBase, Same, record_unit, reading_unit, unit_by, AgreesBy, unit_within, line_unit, LineAgrees}
use Rattle.sheet_rules.specs.Formed.{Formed}
use Rattle.sheet_rules.specs.FormedLaws.{Operands}
use Rattle.sheet_rules.specs.UnitRows.{line_operands}
use Rattle.sheet_rules.proofs.UnitRows.{unit_fits, units_are}
use Rattle.sheet_rules.specs.Bridge.{assigned, ZeroUnder, record_value}

-- A difference is zero where its two sides are equal.
less_zero : (f : ℤ) (r q y : List ℤ) {a c : ℤ} → dot r y ≡ a → f *ℤ dot q y ≡ c → (dot (less f r q) y ≡ pos 0) ↔ (a ≡ c)
less_zero f r q y {a} {c} h k =
    let e : dot (less f r q) y ≡ a -ℤ c = less_dot f r q y ∙ ap₂ ◌-ℤ◌ h k in
    (λ z. (equal_by_difference a c).0 (sym e ∙ z), λ z. e ∙ (equal_by_difference a c).1 z)

module _ (sh : Shape) (s : List ℕ) (F : Formed sh s) (x : Units) where
  abbrev y : ℕ → List ℤ
  y base = assigned sh x base

  none_value : (base : ℕ) → dot (none sh) (y base) ≡ pos 0
  none_value base = dot_zero (none sh) (y base) (λ i. ap (λ z. z *ℤ at (y base) i) (at_zeros sh.columns i) ∙ zero-*ℤ (at (y base) i))

  unknown_value : (j base : ℕ) → j < sh.unknowns → dot (unknown sh j) (y base) ≡ x j base
  unknown_value j base h =
      same_dot (unknown sh j) (single j) (y base) (λ i. at_itself sh.columns j i (omega (arith, F.laid)))
      ∙ dot_comm (single j) (y base) ∙ dot_single (y base) j
      ∙ at_whole sh.unknown_columns sh.unknowns (sh.unknown_columns + base) (in_base sh.unknowns x base) j h
      ∙ at_first sh.unknowns (λ i. x i base) j h

  pub reading_value : (c base : ℕ) → c < sh.channels → IsBase sh base → dot (reads sh s c) (y base) ≡ reading_unit sh s x c base
  reading_value c base h l = record_value sh s F x (channel sh s c) base (ltb-true _ _ (F.good_channels c h)) l

  -- ---- the line table: us are the rows of the lines before line k, and z their units
  module _ (k : ℕ) (us : List (List ℤ)) (z : ℕ → ℕ → ℤ) where
    unit_by_value : (base : ℕ) → IsBase sh base → ((i : ℕ) → i < k → dot (unit_of us i) (y base) ≡ z i base)
        → (c : Code) (a b : ℕ) → Operands sh k c a b → dot (L.unit_by sh s us c a b) (y base) ≡ unit_by sh s x z c a b base
    unit_by_value base l h G.number a b o = none_value base
    unit_by_value base l h G.reading a b o = reading_value a base o.0 l
    unit_by_value base l h G.add a b o = h a o.0
    unit_by_value base l h G.subtract a b o = h a o.0
    unit_by_value base l h G.multiply a b o =
        plus_dot (pos 1) (unit_of us a) (unit_of us b) (y base) ∙ ap₂ ◌+ℤ◌ (h a o.0) (one_mul (dot (unit_of us b) (y base)) ∙ h b o.1)
    unit_by_value base l h G.divide a b o =
        less_dot (pos 1) (unit_of us a) (unit_of us b) (y base) ∙ ap₂ ◌-ℤ◌ (h a o.0) (one_mul (dot (unit_of us b) (y base)) ∙ h b o.1)
    unit_by_value base l h G.root a b o = unknown_value b base o.1
    unit_by_value base l h G.less_than a b o = none_value base
    unit_by_value base l h G.stated a b o = record_value sh s F x b base o.1 l
    unit_by_value base l h G.no_code a b o = absurd o

    module _ (h : (base : ℕ) → IsBase sh base → (i : ℕ) → i < k → dot (unit_of us i) (y base) ≡ z i base) where
      -- One equation, compared in every base.
      compared : (f : ℤ) (a : ℕ) (q : List ℤ) (e : ℕ → ℤ) → a < k → ((base : ℕ) → IsBase sh base → f *ℤ dot q (y base) ≡ e base)
          → ZeroUnder sh x (less f (unit_of us a) q ∷ []) ↔ Same sh (z a) e
      compared f a q e l g = (
        λ p base i. (less_zero f (unit_of us a) q (y base) (h base i a l) (g base i)).0 (p base i).0,
        λ p base i. ((less_zero f (unit_of us a) q (y base) (h base i a l) (g base i)).1 (p base i), tt),
      )

      lines_compared : (a b : ℕ) → a < k → b < k → ZeroUnder sh x (less (pos 1) (unit_of us a) (unit_of us b) ∷ []) ↔ Same sh (z a) (z b)
      lines_compared a b l m = compared (pos 1) a (unit_of us b) (z b) l (λ base i. one_mul (dot (unit_of us b) (y base)) ∙ h base i b m)

      equations_by_agree : (c : Code) (a b : ℕ) → Operands sh k c a b → ZeroUnder sh x (L.equations_by sh s us c a b) ↔ AgreesBy sh s x z c a b
      equations_by_agree G.number a b o = (λ _. tt, λ _ _ _. tt)
      equations_by_agree G.reading a b o = (λ _. tt, λ _ _ _. tt)
      equations_by_agree G.add a b o = lines_compared a b o.0 o.1
      equations_by_agree G.subtract a b o = lines_compared a b o.0 o.1
      equations_by_agree G.multiply a b o = (λ _. tt, λ _ _ _. tt)
      equations_by_agree G.divide a b o = (λ _. tt, λ _ _ _. tt)
      equations_by_agree G.root a b o = compared (pos 2) a (unknown sh b) (λ base. pos 2 *ℤ x b base) o.0 (λ base _. ap (λ e. pos 2 *ℤ e) (unknown_value b base o.1))
      equations_by_agree G.less_than a b o = lines_compared a b o.0 o.1
      equations_by_agree G.stated a b o =
          compared (pos 1) a (unit_record sh s b) (record_unit sh s x b) o.0 (λ base i. one_mul (dot (unit_record sh s b) (y base)) ∙ record_value sh s F x b base o.1 i)
      equations_by_agree G.no_code a b o = absurd o

  -- ---- the lines
  within_value : (n k base : ℕ) → k < n → k < sh.lines → IsBase sh base → dot (unit_at sh s k) (y base) ≡ unit_within sh s x n k base
  unfolding unit_within
  within_value zero k base l h i = absurd (omega arith)
  within_value (suc n) k base l h i =
      let e = line sh s k in
      unit_by_value k (units sh s k) (unit_within sh s x n) base i
      (λ j g. ap (λ r. dot r (y base)) (units_are sh s k j g) ∙ within_value n j base (omega arith) (omega arith) i) (code_of e.code) e.a e.b (line_operands sh s F k h)

  pub line_value : (k base : ℕ) → k < sh.lines → IsBase sh base → dot (unit_at sh s k) (y base) ≡ line_unit sh s x k base
  line_value k base h i = within_value (suc k) k base (omega arith) h i

  -- The same as a value in column u + base.
  pub line_val : (k base : ℕ) → k < sh.lines → IsBase sh base
      → val sh.unknown_columns (sh.unknown_columns + base) (unit_at sh s k) (in_base sh.unknowns x base) ≡ line_unit sh s x k base
  line_val k base h i =
      sym (val_whole sh.unknown_columns sh.unknowns (sh.unknown_columns + base) (unit_at sh s k) (in_base sh.unknowns x base)
      (omega (arith, F.laid)) (omega arith) (unit_fits sh s F k h).gap)
      ∙ line_value k base h i

  -- The rows of the lines before line k have those lines' units.
  earlier_value : (k : ℕ) → k < sh.lines → (base : ℕ) → IsBase sh base → (i : ℕ) → i < k → dot (unit_of (units sh s k) i) (y base) ≡ line_unit sh s x i base
  earlier_value k h base l i g = ap (λ r. dot r (y base)) (units_are sh s k i g) ∙ line_value i base (omega arith) l

  -- In units, the line table holds of the units of the lines.
  pub line_unit_by : (k base : ℕ) → k < sh.lines → IsBase sh base
      → let l = line sh s k in line_unit sh s x k base ≡ unit_by sh s x (line_unit sh s x) (code_of l.code) l.a l.b base
  line_unit_by k base h i =
      let e = line sh s k in
      sym (line_value k base h i)
      ∙ unit_by_value k (units sh s k) (line_unit sh s x) base i (earlier_value k h base i) (code_of e.code) e.a e.b (line_operands sh s F k h)

  -- "An equation is .. set to zero" exactly where the line agrees.
  pub line_agrees : (k : ℕ) → k < sh.lines → ZeroUnder sh x (equations_at sh s k) ↔ LineAgrees sh s x k
  line_agrees k h =
      let e = line sh s k in
      equations_by_agree k (units sh s k) (line_unit sh s x) (earlier_value k h) (code_of e.code) e.a e.b (line_operands sh s F k h)
