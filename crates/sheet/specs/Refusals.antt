-- "What the caller hears": the number and the place of each refusal.
use Rattle.std.specs.Prelude.{◌≡◌, refl, ℕ, eqb, ◌<◌, Result, Ok, Err}
use Rattle.std.proofs.Common.{arith, sym, ◌∙◌, ap₂}
use Rattle.whole.specs.Cases.{if}
use Rattle.elimination.specs.declared.progress.Stop as S
use Rattle.elimination.specs.declared.progress.Stopped.{Stopped}
use Rattle.sheet_rules.specs.Checks as C
use Rattle.sheet.specs.declared.refusal.Refusal as R

abbrev pub number_of : R.Refusal → ℕ
number_of R.TheVariants.Length = 1
number_of R.TheVariants.Mark = 2
number_of R.TheVariants.Counts = 3
number_of R.TheVariants.Distances = 4
number_of (R.TheVariants.Record i) = 5
number_of (R.TheVariants.Channel c) = 6
number_of (R.TheVariants.Line k) = 7
number_of R.TheVariants.TableTooShort = 8
number_of (R.TheVariants.Wide k) = 9
number_of (R.TheVariants.Clash k) = 10
number_of R.TheVariants.Absent = 11

abbrev pub place_of : R.Refusal → ℕ
place_of R.TheVariants.Length = 0
place_of R.TheVariants.Mark = 0
place_of R.TheVariants.Counts = 0
place_of R.TheVariants.Distances = 0
place_of (R.TheVariants.Record i) = i
place_of (R.TheVariants.Channel c) = c
place_of (R.TheVariants.Line k) = k
place_of R.TheVariants.TableTooShort = 0
place_of (R.TheVariants.Wide k) = k
place_of (R.TheVariants.Clash k) = k
place_of R.TheVariants.Absent = 0

-- How the checks went, where they hand on a sheet or refuse it.
abbrev pub checked_of : {A : Type 0} → Result A R.Refusal → C.Checked
checked_of (Ok a) = C.well_formed
checked_of (Err r) = C.refused (number_of r) (place_of r)

-- The refusal of what ended the work.
abbrev pub refusal_at : S.Stop → ℕ → R.Refusal
refusal_at S.TheVariants.Clash k = R.TheVariants.Clash k
refusal_at S.TheVariants.Wide k = R.TheVariants.Wide k

abbrev pub stopped_as : Stopped → R.Refusal
stopped_as s = refusal_at s.why s.at

-- A refusal's number is never 0.
pub number_some : (r : R.Refusal) → 0 < number_of r
number_some R.TheVariants.Length = omega arith
number_some R.TheVariants.Mark = omega arith
number_some R.TheVariants.Counts = omega arith
number_some R.TheVariants.Distances = omega arith
number_some (R.TheVariants.Record i) = omega arith
number_some (R.TheVariants.Channel c) = omega arith
number_some (R.TheVariants.Line k) = omega arith
number_some R.TheVariants.TableTooShort = omega arith
number_some (R.TheVariants.Wide k) = omega arith
number_some (R.TheVariants.Clash k) = omega arith
number_some R.TheVariants.Absent = omega arith

-- Its number and its place say which it is.
from_number : ℕ → ℕ → R.Refusal
from_number n i =
    if (eqb n 1) R.TheVariants.Length
    (if (eqb n 2) R.TheVariants.Mark
    (if (eqb n 3) R.TheVariants.Counts
    (if (eqb n 4) R.TheVariants.Distances
    (if (eqb n 5) (R.TheVariants.Record i)
    (if (eqb n 6) (R.TheVariants.Channel i)
    (if (eqb n 7) (R.TheVariants.Line i)
    (if (eqb n 8) R.TheVariants.TableTooShort
    (if (eqb n 9) (R.TheVariants.Wide i)
    (if (eqb n 10) (R.TheVariants.Clash i) R.TheVariants.Absent)))))))))

read_back : (r : R.Refusal) → from_number (number_of r) (place_of r) ≡ r
unfolding from_number
read_back R.TheVariants.Length = refl
read_back R.TheVariants.Mark = refl
read_back R.TheVariants.Counts = refl
read_back R.TheVariants.Distances = refl
read_back (R.TheVariants.Record i) = refl
read_back (R.TheVariants.Channel c) = refl
read_back (R.TheVariants.Line k) = refl
read_back R.TheVariants.TableTooShort = refl
read_back (R.TheVariants.Wide k) = refl
read_back (R.TheVariants.Clash k) = refl
read_back R.TheVariants.Absent = refl

pub told_apart : (r s : R.Refusal) → number_of r ≡ number_of s → place_of r ≡ place_of s → r ≡ s
told_apart r s n p = sym (read_back r) ∙ ap₂ from_number n p ∙ read_back s
