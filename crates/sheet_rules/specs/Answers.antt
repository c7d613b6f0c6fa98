-- The numbers of the checks' refusals.
use Rattle.std.specs.Prelude.{List, [], ◌∷◌, ℕ, ◌<◌}
use Rattle.std.proofs.Common.{arith}
use Rattle.whole.specs.Place.{Found, place, nowhere}
use Rattle.sheet_rules.specs.Shape.{shape_of}
use Rattle.sheet_rules.specs.Checks.{Checked, refused, well_formed, first_failing, checks, checked_sheet}

-- ---- the checks' refusals are 1 to 7
abbrev pub Numbered : Checked → Type 0
Numbered (refused n i) = (0 < n) × (n < 8)
Numbered well_formed = Unit {0}

abbrev AllNumbered : List (ℕ × Found) → Type 0
AllNumbered [] = Unit {0}
AllNumbered (c ∷ cs) = (0 < c.0) × (c.0 < 8) × AllNumbered cs

first_numbered : (cs : List (ℕ × Found)) → AllNumbered cs → Numbered (first_failing cs)
first_numbered [] p = tt
first_numbered ((n, place i) ∷ cs) p = (p.0, p.1)
first_numbered ((n, nowhere) ∷ cs) p = first_numbered cs p.2

pub sheet_numbered : (s : List ℕ) → Numbered (checked_sheet s)
unfolding checked_sheet
sheet_numbered s = first_numbered (checks s (shape_of s)) (omega arith)
