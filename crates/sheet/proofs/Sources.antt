-- Laws of sources and sums: over the units of more lines they come to the same.
use Rattle.std.proofs.Common.{◌≡◌, refl, sym, ap, ◌∙◌, map, List, [], ◌∷◌, ℕ, ◌<◌, ◌≤◌, ℤ, Bool, Some, Result, Ok, Err, arith}
use Rattle.std.proofs.Math.Path.{ap₂}
use Rattle.std.specs.Result.{IsErr}
use Rattle.whole.specs.declared.number.PastLimit.{PastLimit}
use Rattle.row.specs.Row.{less}
use Rattle.row.specs.Judged.{judged, wide}
use Rattle.sheet_rules.specs.Shape.{Shape, Line, line}
use Rattle.sheet_rules.specs.Lines.{units, line_equations, equations_at}
use Rattle.sheet_rules.specs.Formed.{Formed}
use Rattle.sheet_rules.specs.Prefix.{good_operands_lem}
use Rattle.sheet_rules.proofs.Prefix.{unit_of_lem}
use Rattle.sheet.specs.Sources.{source_row, sum_row}
use Rattle.sheet.specs.Steps.{stated_of}
use Rattle.sheet.specs.Store.{Sourced, Summed, EquationSum}
use Rattle.sheet.specs.declared.line.Source as S
use Rattle.sheet.specs.declared.line.Sum as M

module _ (sh : Shape) (s : List ℕ) (k n : ℕ) (h : k ≤ n) where
  source_there : (x : S.Source) → Sourced sh k x → Sourced sh n x
  source_there S.TheVariants.Nothing p = tt
  source_there (S.TheVariants.Line i) p = omega arith
  source_there (S.TheVariants.Channel c) p = p
  source_there (S.TheVariants.Record i) p = p
  source_there (S.TheVariants.Unknown j) p = p

  source_same : (x : S.Source) → Sourced sh k x → source_row sh s (units sh s n) x ≡ source_row sh s (units sh s k) x
  source_same S.TheVariants.Nothing p = refl
  source_same (S.TheVariants.Line i) p = unit_of_lem sh s n i (omega arith) ∙ sym (unit_of_lem sh s k i p)
  source_same (S.TheVariants.Channel c) p = refl
  source_same (S.TheVariants.Record i) p = refl
  source_same (S.TheVariants.Unknown j) p = refl

  sum_there : (m : M.Sum) → Summed sh k m → Summed sh n m
  sum_there (M.TheVariants.Alone x) p = source_there x p
  sum_there (M.TheVariants.Less x f y) p = (source_there x p.0, source_there y p.1)

  sum_same : (m : M.Sum) → Summed sh k m → sum_row sh s (units sh s n) m ≡ sum_row sh s (units sh s k) m
  sum_same (M.TheVariants.Alone x) p = source_same x p
  sum_same (M.TheVariants.Less x f y) p = ap₂ (less f) (source_same x p.0) (source_same y p.1)

-- The equation of line k, where the units of n lines are known.
module _ {sh : Shape} {s : List ℕ} (F : Formed sh s) {k : ℕ} (among : k < sh.lines) {l : Line} (e : l ≡ line sh s k) {m : M.Sum} (E : EquationSum l (Some m)) where
  there : Summed sh k m
  there = E.there sh k (rw e (good_operands_lem F k among))

  pub equation_there : (n : ℕ) → k < n → Summed sh n m
  equation_there n h = sum_there sh s k n (omega arith) m there

  pub equation_is : (n : ℕ) → k < n → map judged (equations_at sh s k) ≡ judged (sum_row sh s (units sh s n) m) ∷ []
  equation_is n h =
      let same : line_equations sh s (units sh s k) (line sh s k) ≡ sum_row sh s (units sh s k) m ∷ [] = ap (line_equations sh s (units sh s k)) (sym e) ∙ sym (E.is sh s (units sh s k)) in
      ap (map judged) same ∙ ap (λ r. judged r ∷ []) (sym (sum_same sh s k n (omega arith) m there))

pub wide_stated : (r : Result Bool PastLimit) (e : List ℤ) → IsErr r → stated_of r e ≡ wide ∷ []
wide_stated (Ok b) e p = cc
wide_stated (Err x) e p = refl
