-- A row with the table put in: its value at a choice is the row's value at what the table yields of that choice.
use Rattle.std.specs.Prelude.{◌≡◌, refl, List, ◌∷◌, ◌++◌, ℕ, zero, suc, ◌+◌, take, drop, ℤ}
use Rattle.std.proofs.Common.{sym, ◌∙◌, ap, ap₂, arith, drop_at}
use Rattle.whole.specs.Word.{by_bit}
use Rattle.row.specs.Row.{at, dot}
use Rattle.row.specs.Table.{replaced, row_values, Rows}
use Rattle.elimination_rules.specs.General.{Off, val, values, Kept}
use Rattle.elimination_rules.specs.First.{first_values, first_at, length_first}
use Rattle.elimination_rules.specs.Kept.{replaced_off}
use Rattle.elimination_rules.specs.Yield.{yield}
use Rattle.elimination_rules.specs.Replace.{replaced_value}
use Rattle.elimination_rules.specs.Columns.{rest, whole, val_whole, length_yielded}
use Rattle.elimination_rules.specs.Units.{Units, in_base, yields}
use Rattle.sheet_rules.specs.Shape.{Shape}
use Rattle.sheet_rules.specs.Formed.{Formed}
use Rattle.sheet_rules.specs.UnitRows.{Fitting}
use Rattle.sheet_rules.specs.Bridge.{assigned}

-- Rows that have the same value at y and a.
row_values_lem : (P : List ℤ → Type 0) (u c w : ℕ) (y a : List ℤ) → ((r : List ℤ) → P r → dot r y ≡ val u c r a)
    → (n : ℕ) (t : List ℤ) → Rows P w n t → row_values w n t y ≡ values u c w n t a
unfolding row_values values
row_values_lem P u c w y a h zero t p = refl
row_values_lem P u c w y a h (suc n) t p = ap₂ ◌∷◌ (h (take w t) p.0) (row_values_lem P u c w y a h n (drop w t) p.1)

module _ (sh : Shape) (s : List ℕ) (F : Formed sh s) (t : List ℤ) (f : ℕ) (g : Kept sh.unknown_columns sh.unknowns sh.columns t f) (x : Units) (base : ℕ) where
  abbrev u : ℕ
  u = sh.unknown_columns

  abbrev v : ℕ
  v = sh.unknowns

  abbrev w : ℕ
  w = sh.columns

  abbrev full : List ℤ → List ℤ
  full a = whole u v (u + base) a

  abbrev yielded : List ℤ
  yielded = values u (u + base) w v t (in_base v x base)

  full_value : (r : List ℤ) → Off u f r → dot r (full (in_base v x base)) ≡ val u (u + base) r (in_base v x base)
  full_value r o =
      val_whole u v (u + base) r (in_base v x base) (omega (arith, F.laid)) (omega arith) (λ i h k. by_bit i f (λ e. o i k e) (λ e. absurd (omega (arith, g.free i e))))

  yield_full : yield w v t (full (in_base v x base)) ≡ assigned sh (yields u v w t x) base
  yield_full =
      let e : yielded ≡ first_values v (at yielded) = sym (first_at v yielded (length_yielded u (u + base) w v t (in_base v x base))) in
      ap₂ ◌++◌
      (row_values_lem (Off u f) u (u + base) w (full (in_base v x base)) (in_base v x base) full_value v t g.zero_else ∙ e ∙ ap (λ l. first_values v (at l)) e)
      (drop_at (first_values v (at (in_base v x base))) (rest u v (u + base)) v (length_first v (at (in_base v x base))))

  pub replaced_unit : (r : List ℤ) → Fitting sh r → val u (u + base) (replaced u v t r) (in_base v x base) ≡ dot r (assigned sh (yields u v w t x) base)
  replaced_unit r fit =
      sym (full_value (replaced u v t r) (replaced_off u v w t r f fit.long (omega (arith, F.laid)) g))
      ∙ replaced_value u v w t r (full (in_base v x base)) (omega (arith, F.laid)) (omega (arith, F.laid)) fit.long g.long fit.gap
      ∙ ap (dot r) yield_full
