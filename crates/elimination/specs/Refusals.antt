-- Document 01's number and place of each refusal, and what the ends of the work are among them.
use Rattle.std.specs.Prelude.{◌≡◌, refl, ℕ, eqb, ◌<◌}
use Rattle.std.proofs.Common.{arith, sym, ◌∙◌, ap₂}
use Rattle.whole.specs.Cases.{if}
use Rattle.elimination.specs.declared.progress.Stop as S
use Rattle.elimination.specs.declared.progress.Stopped.{Stopped}
use Rattle.elimination.specs.declared.refusal.Refusal as R

abbrev pub number_of : R.Refusal → ℕ
number_of R.TheVariants.TooManyUnknowns = 3
number_of R.TheVariants.UnevenLength = 4
number_of (R.TheVariants.UnusedColumn i) = 5
number_of R.TheVariants.TableTooShort = 8
number_of (R.TheVariants.Wide i) = 9
number_of (R.TheVariants.Clash i) = 10

abbrev pub place_of : R.Refusal → ℕ
place_of R.TheVariants.TooManyUnknowns = 0
place_of R.TheVariants.UnevenLength = 0
place_of (R.TheVariants.UnusedColumn i) = i
place_of R.TheVariants.TableTooShort = 0
place_of (R.TheVariants.Wide i) = i
place_of (R.TheVariants.Clash i) = i

-- The refusal of what ended the work.
abbrev pub refusal_at : S.Stop → ℕ → R.Refusal
refusal_at S.TheVariants.Clash i = R.TheVariants.Clash i
refusal_at S.TheVariants.Wide i = R.TheVariants.Wide i

abbrev pub stopped_as : Stopped → R.Refusal
stopped_as s = refusal_at s.why s.at

abbrev pub stopped_number : Stopped → ℕ
stopped_number s = number_of (stopped_as s)

abbrev pub stopped_place : Stopped → ℕ
stopped_place s = place_of (stopped_as s)

-- A refusal's number is never 0.
pub number_some : (r : R.Refusal) → 0 < number_of r
number_some R.TheVariants.TooManyUnknowns = omega arith
number_some R.TheVariants.UnevenLength = omega arith
number_some (R.TheVariants.UnusedColumn i) = omega arith
number_some R.TheVariants.TableTooShort = omega arith
number_some (R.TheVariants.Wide i) = omega arith
number_some (R.TheVariants.Clash i) = omega arith

-- Its number and its place say which it is.
from_number : ℕ → ℕ → R.Refusal
from_number n i =
    if (eqb n 3) R.TheVariants.TooManyUnknowns
    (if (eqb n 4) R.TheVariants.UnevenLength
    (if (eqb n 5) (R.TheVariants.UnusedColumn i)
    (if (eqb n 8) R.TheVariants.TableTooShort
    (if (eqb n 9) (R.TheVariants.Wide i) (R.TheVariants.Clash i)))))

read_back : (r : R.Refusal) → from_number (number_of r) (place_of r) ≡ r
unfolding from_number
read_back R.TheVariants.TooManyUnknowns = refl
read_back R.TheVariants.UnevenLength = refl
read_back (R.TheVariants.UnusedColumn i) = refl
read_back R.TheVariants.TableTooShort = refl
read_back (R.TheVariants.Wide i) = refl
read_back (R.TheVariants.Clash i) = refl

pub told_apart : (r s : R.Refusal) → number_of r ≡ number_of s → place_of r ≡ place_of s → r ≡ s
told_apart r s n p = sym (read_back r) ∙ ap₂ from_number n p ∙ read_back s
