-- The bridge from rows to units: the value of a record's row, where the unknowns are given units, is the record's unit.
use Rattle.std.specs.Prelude.{◌≡◌, refl, List, [], ◌∷◌, take, drop, ℤ, pos, ◌*ℤ◌}
use Rattle.std.proofs.Math.Path.{ap, ap₂}
use Rattle.std.proofs.Common.{sym, ◌∙◌, arith, get_or-take, get_or-drop}
use Prim.Native.Nat.{ℕ, zero, suc, ◌+◌, ◌*◌, ◌<◌}
use Rattle.std.proofs.Math.ListN.{get_or-map}
use Rattle.std.proofs.Math.IntN.{◌+ℤ◌, zero-*ℤ, +ℤ_idl}
use Rattle.whole.specs.Bytes.{signed}
use Rattle.row.specs.Row.{at, dot}
use Rattle.row.specs.Values.{dot_none}
use Rattle.elimination_rules.specs.General.{val}
use Rattle.elimination_rules.specs.First.{first_values}
use Rattle.elimination_rules.specs.Columns.{whole, val_whole}
use Rattle.elimination_rules.specs.Units.{Units, in_base}
use Rattle.sheet_rules.specs.Shape.{Shape, unit_record}
use Rattle.sheet_rules.specs.Agree.{IsBase, sum, exponent, record_unit}
use Rattle.sheet_rules.specs.Formed.{Formed}
use Rattle.sheet_rules.specs.UnitRows.{Each, record_fits}

-- ---- a value as a sum
dot_sum : (v : ℕ) (r : List ℤ) (g : ℕ → ℤ) → dot r (first_values v g) ≡ sum v (λ j. at r j *ℤ g j)
unfolding dot sum
dot_sum zero r g = dot_none r
dot_sum (suc v) [] g = sym (+ℤ_idl (pos 0)) ∙ ap₂ ◌+ℤ◌ (sym (zero-*ℤ (g 0))) (dot_sum v [] (λ j. g (suc j)))
dot_sum (suc v) (p ∷ r) g = ap (λ d. p *ℤ g 0 +ℤ d) (dot_sum v r (λ j. g (suc j)))

sum_same : (v : ℕ) (g h : ℕ → ℤ) → ((j : ℕ) → j < v → g j ≡ h j) → sum v g ≡ sum v h
unfolding sum
sum_same zero g h e = refl
sum_same (suc v) g h e = ap₂ ◌+ℤ◌ (e 0 (omega arith)) (sum_same v (λ j. g (suc j)) (λ j. h (suc j)) (λ j l. e (suc j) (omega arith)))

-- "Each byte is a signed exponent".
at_record : (sh : Shape) (s : List ℕ) (i c : ℕ) → c < sh.columns → at (unit_record sh s i) c ≡ exponent sh s i c
unfolding signed
at_record sh s i c h =
    get_or-map signed (take sh.columns (drop (sh.columns * i) s)) c 0
    ∙ ap signed (get_or-take sh.columns (drop (sh.columns * i) s) c 0 h ∙ get_or-drop (sh.columns * i) s c 0)

-- The assignment that the units x are in a base.
abbrev pub assigned : Shape → Units → ℕ → List ℤ
assigned sh x base = whole sh.unknown_columns sh.unknowns (sh.unknown_columns + base) (in_base sh.unknowns x base)

-- Each row of es is zero at y,
abbrev pub ZeroAt : List (List ℤ) → List ℤ → Type 0
ZeroAt es y = Each (λ r. dot r y ≡ pos 0) es

-- and so in every base, where the unknowns have the units x.
abbrev pub ZeroUnder : Shape → Units → List (List ℤ) → Type 0
ZeroUnder sh x es = (base : ℕ) → IsBase sh base → ZeroAt es (assigned sh x base)

module _ (sh : Shape) (s : List ℕ) (F : Formed sh s) (x : Units) where
  abbrev y : ℕ → List ℤ
  y base = assigned sh x base

  pub record_value : (i base : ℕ) → i < sh.records → IsBase sh base → dot (unit_record sh s i) (y base) ≡ record_unit sh s x i base
  unfolding val
  record_value i base h l =
      let u = sh.unknown_columns in
      let v = sh.unknowns in
      let r = unit_record sh s i in
      val_whole u v (u + base) r (in_base v x base) (omega (arith, F.laid)) (omega arith) (record_fits sh s F i h).gap
      ∙ ap₂ ◌+ℤ◌
      (dot_sum v (take u r) (λ j. x j base)
      ∙ sum_same v (λ j. at (take u r) j *ℤ x j base) (λ j. exponent sh s i j *ℤ x j base)
      (λ j k. ap (λ e. e *ℤ x j base) (get_or-take u r j (pos 0) (omega (arith, F.laid)) ∙ at_record sh s i j (omega (arith, F.laid)))))
      (at_record sh s i (u + base) l)
