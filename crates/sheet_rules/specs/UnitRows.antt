-- The rows of a formed sheet: records. Each has a number for every column, and 0 for the unknowns that are not used.
use Rattle.std.specs.Prelude.{◌≡◌, true, length, take, drop, ℤ, pos}
use Rattle.std.proofs.Common.{sym, ◌∙◌, ap, get_or-drop}
use mathlib.Core.List.{List, [], ◌∷◌}
use Prim.Native.Nat.{ℕ, ◌-◌, ◌*◌, ◌<◌}
use native.Mathlib.Omega.{arith}
use Rattle.std.proofs.lemmas.List.{length-map}
use Rattle.whole.specs.Bytes.{signed}
use Rattle.whole.specs.Cases.{both_right}
use Rattle.row.specs.Row.{at}
use Rattle.elimination_rules.specs.Call.{unused}
use Rattle.elimination_rules.specs.General.{Gap}
use Rattle.elimination_rules.specs.Zeros.{zero_below}
use Rattle.sheet_rules.specs.Shape.{Shape, unit_record, line}
use Rattle.sheet_rules.specs.Good.{code_of, good_record}
use Rattle.sheet_rules.specs.Formed.{Formed}
use Rattle.sheet_rules.specs.FormedLaws.{Operands, operands}
use Rattle.sheet_rules.specs.Parts.{row_room, part_long}

-- ---- a row that fits the sheet
pub record Fitting (sh : Shape) (r : List ℤ) : Type 0 where
  pub long : length r ≡ sh.columns
  pub gap : Gap sh.unknown_columns sh.unknowns r

-- Each of a list of rows.
abbrev pub Each : (List ℤ → Type 0) → List (List ℤ) → Type 0
Each P [] = Unit {0}
Each P (e ∷ es) = P e × Each P es

pub each_map : {P Q : List ℤ → Type 0} → ((r : List ℤ) → P r → Q r) → (es : List (List ℤ)) → Each P es → Each Q es
each_map h [] p = tt
each_map h (e ∷ es) p = (h e p.0, each_map h es p.1)

module _ (sh : Shape) where
  good_gap : (r : List ℤ) → good_record sh r ≡ true → Gap sh.unknown_columns sh.unknowns r
  good_gap r e i h l =
      let v = sh.unknowns in
      let unused_is : unused sh.unknown_columns v r ≡ true = search both_right in
      ap (at r) (omega arith) ∙ sym (get_or-drop v r (i - v) (pos 0)) ∙ zero_below (sh.unknown_columns - v) (drop v r) unused_is (i - v) (omega arith)

module _ (sh : Shape) (s : List ℕ) (F : Formed sh s) where
  pub record_fits : (i : ℕ) → i < sh.records → Fitting sh (unit_record sh s i)
  record_fits i h = record {
    long = length-map (take sh.columns (drop (sh.columns * i) s)) signed
        ∙ part_long sh.columns (sh.columns * i) s (omega (arith, F.laid, row_room sh.columns sh.records i h));
    gap = good_gap sh (unit_record sh s i) (F.good_records i h);
  }

  -- The operands of line k are in range.
  pub line_operands : (k : ℕ) → k < sh.lines → Operands sh k (code_of (line sh s k).code) (line sh s k).a (line sh s k).b
  line_operands k h = operands sh k (line sh s k) (F.good_lines k h)
