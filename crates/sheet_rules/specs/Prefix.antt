-- Operands and records of a well-formed sheet: operands below their bounds, records with all columns.
use Rattle.std.specs.Prelude.{◌≡◌, Bool, true, eqb, ltb, length, take, drop}
use Rattle.std.proofs.Common.{◌∙◌, ltb-true}
use mathlib.Core.List.{List}
use Prim.Native.Nat.{ℕ, ◌*◌, ◌<◌}
use native.Mathlib.Omega.{arith}
use Rattle.std.proofs.lemmas.List.{length-map}
use Rattle.whole.specs.Bytes.{signed}
use Rattle.whole.specs.Cases.{both, both_left, both_right}
use Rattle.sheet_rules.specs.Shape.{Shape, unit_record, channel, line}
use Rattle.sheet_rules.specs.Good.{code_of, good_operands}
use Rattle.sheet_rules.specs.Parts.{row_room, part_long}
use Rattle.sheet_rules.specs.Formed.{Laid, Formed}

-- A good operand is below its bound.
pub first_below : (a m : ℕ) (u : Bool) → both (ltb a m) u ≡ true → a < m
first_below a m u e = ltb-true a m (both_left (ltb a m) u e)

pub second_below : (b n : ℕ) (u : Bool) → both u (ltb b n) ≡ true → b < n
second_below b n u e = ltb-true b n (both_right u (ltb b n) e)

module _ {sh : Shape} {s : List ℕ} where
  pub record_long : Laid sh s → (i : ℕ) → i < sh.records → length (unit_record sh s i) ≡ sh.columns
  record_long L i h =
      length-map (take sh.columns (drop (sh.columns * i) s)) signed
      ∙ part_long sh.columns (sh.columns * i) s (omega (arith, row_room sh.columns sh.records i h))

  module _ (F : Formed sh s) where
    pub channel_there : (c : ℕ) → c < sh.channels → channel sh s c < sh.records
    channel_there c h = ltb-true (channel sh s c) sh.records (F.good_channels c h)

    pub good_operands_lem : (k : ℕ) → k < sh.lines → let l = line sh s k in good_operands sh k (code_of l.code) l.a l.b ≡ true
    good_operands_lem k h = let l = line sh s k in both_right (eqb l.last 0) (good_operands sh k (code_of l.code) l.a l.b) (F.good_lines k h)
