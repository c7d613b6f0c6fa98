-- "What the caller hears", checks 1 to 7: "Checks run in the order of the rows, lowest place first within one".
use Rattle.std.specs.Prelude.{Bool, true, false, List, [], ◌∷◌, ℕ, ◌+◌, ◌*◌, leb, eqb, length}
use Rattle.whole.specs.Cases.{both}
use Rattle.whole.specs.Place.{Found, place, nowhere, on_found, lowest}
use Rattle.sheet_rules.specs.Shape.{Shape, byte, number, trailer, shape_of, unit_record, channel, line}
use Rattle.sheet_rules.specs.Good.{good_record, good_channel, good_line}

-- Wrong as a whole: place 0.
abbrev pub unless : Bool → Found
unless true = nowhere
unless false = place 0

-- "length below 16 or above 3,104"
abbrev pub good_length : List ℕ → Bool
good_length s = both (leb 16 (length s)) (leb (length s) 3104)

-- "12: bytes 43 53 48 31 hex."
abbrev pub good_mark : List ℕ → Bool
good_mark s =
    both (eqb (byte s (trailer s + 12)) 67)
    (both (eqb (byte s (trailer s + 13)) 83) (both (eqb (byte s (trailer s + 14)) 72) (eqb (byte s (trailer s + 15)) 49)))

-- "V, U, C or N over its limit, or trailer byte 9 nonzero"
abbrev pub good_counts : List ℕ → Shape → Bool
good_counts s sh =
    both (leb sh.unknowns 24)
    (both (leb sh.records 64) (both (leb sh.channels 16) (both (leb sh.lines 256) (eqb (byte s (trailer s + 9)) 0))))

-- "The distances are 16+4N+C+32U, 16+4N+C and 16+4N, and the first equals the file's length."
abbrev pub good_distances : List ℕ → Shape → Bool
good_distances s sh =
    both (eqb (number s (trailer s)) (16 + 4 * sh.lines + sh.channels + sh.columns * sh.records))
    (both (eqb (number s (trailer s + 2)) (16 + 4 * sh.lines + sh.channels))
    (both (eqb (number s (trailer s + 4)) (16 + 4 * sh.lines)) (eqb (number s (trailer s)) (length s))))

abbrev pub first_record : List ℕ → Shape → Found
first_record s sh = lowest (λ i. good_record sh (unit_record sh s i)) sh.records 0

abbrev pub first_channel : List ℕ → Shape → Found
first_channel s sh = lowest (λ c. good_channel sh (channel sh s c)) sh.channels 0

abbrev pub first_line : List ℕ → Shape → Found
first_line s sh = lowest (λ k. good_line sh k (line sh s k)) sh.lines 0

-- The checks in their order, each with its number.
abbrev pub checks : List ℕ → Shape → List (ℕ × Found)
checks s sh =
    (1, unless (good_length s))
    ∷ (2, unless (good_mark s))
    ∷ (3, unless (good_counts s sh))
    ∷ (4, unless (good_distances s sh))
    ∷ (5, first_record s sh)
    ∷ (6, first_channel s sh)
    ∷ (7, first_line s sh)
    ∷ []

-- The first that refuses, with its place. "A sheet is well formed when no check before 11 refuses it."
pub data Checked : Type 0 where
  refused : ℕ → ℕ → Checked
  well_formed : Checked

abbrev pub on_checked {ℓ} : {A : Type ℓ} → (ℕ → ℕ → A) → A → Checked → A
on_checked k a (refused n i) = k n i
on_checked k a well_formed = a

abbrev pub first_failing : List (ℕ × Found) → Checked
first_failing [] = well_formed
first_failing (c ∷ cs) = on_found (λ i. refused c.0 i) (first_failing cs) c.1

unfoldable pub checked_sheet : List ℕ → Checked
checked_sheet s = first_failing (checks s (shape_of s))
