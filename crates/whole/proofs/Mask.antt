-- What shifts, `&` and `!` make of a word of w bits.
use Prim.Native.Nat.{ℕ, ◌%◌, ◌*◌, ◌-◌, ◌/◌, ◌<◌, ◌^◌}
use Rattle.whole.specs.Word.{bit, bit_cleared_other, bit_cleared_same, bit_first_below, bit_small, same_bits}
use Rattle.whole.specs.Word.{cleared, cleared_below, cleared_weighs, first_set}
use lib.Bits.{and_le_l, and_mask, and_mod, and_shr, and_zero_r, bit_and}
use lib.Dec.{lit<}
use lib.Pow.{shl_exact}
use mathlib.Core.Logic.{by_cases}
use mathlib.Core.Path.{◌∙◌, ◌≡◌, ap, sym}
use native.Mathlib.Decide.{ℕ_discrete}
use native.Mathlib.Nat.{lt_of_le_of_lt, mod-eq_of_lt, one-mul}
use native.Mathlib.Omega.{arith}

-- 1 shifted to place j.
pub one_at : (w j : ℕ) → j < w → 1 * 2 ^ j % 2 ^ w ≡ 2 ^ j
one_at w j within = shl_exact 1 j w (lit< tt) (omega arith) ∙ one-mul (2 ^ j)

-- `!` of a word with bit j alone.
all_but : (w j : ℕ) → j < w → first_set w - 2 ^ j ≡ cleared (first_set w) j
all_but w j within = omega (arith, rw (bit_first_below w j within) at (cleared_weighs (first_set w) j))

-- `&` goes bit by bit.
bit_and_lem : (k a b : ℕ) → bit k (bit_and a b) ≡ bit_and (bit k a) (bit k b)
unfolding bit
bit_and_lem k a b = ap (λ (x : ℕ). x % 2) (and_shr a b k) ∙ and_mod (a / 2 ^ k) (b / 2 ^ k) 1

and_one : (k n : ℕ) → bit_and (bit k n) 1 ≡ bit k n
and_one k n = and_mask (bit k n) 1 ∙ mod-eq_of_lt (bit_small k n)

-- Every bit of `&` with all bits but bit j.
bit_masked : (w n j k : ℕ) → k < w → bit k (bit_and n (cleared (first_set w) j)) ≡ bit k (cleared n j)
bit_masked w n j k within = bit_and_lem k n (cleared (first_set w) j) ∙ by_cases (ℕ_discrete k j) at_place elsewhere
  where
    at_place : k ≡ j → bit_and (bit k n) (bit k (cleared (first_set w) j)) ≡ bit k (cleared n j)
    at_place same =
        rw same
        (ap (bit_and (bit j n)) (bit_cleared_same (first_set w) j)
        ∙ and_zero_r (bit j n)
        ∙ sym (bit_cleared_same n j))

    elsewhere : (k ≡ j → ⊥) → bit_and (bit k n) (bit k (cleared (first_set w) j)) ≡ bit k (cleared n j)
    elsewhere other =
        ap (bit_and (bit k n)) (bit_cleared_other (first_set w) j k other ∙ bit_first_below w k within)
        ∙ and_one k n
        ∙ sym (bit_cleared_other n j k other)

and_all_but : (w n j : ℕ) → n < 2 ^ w → bit_and n (cleared (first_set w) j) ≡ cleared n j
and_all_but w n j fits =
    same_bits w (bit_and n (cleared (first_set w) j)) (cleared n j)
    (lt_of_le_of_lt (and_le_l n (cleared (first_set w) j)) fits)
    (lt_of_le_of_lt (cleared_below n j) fits)
    (bit_masked w n j)

-- `n & !(1 << j)`.
pub masked : (w n j : ℕ) → j < w → n < 2 ^ w → bit_and n (first_set w - 1 * 2 ^ j % 2 ^ w) ≡ cleared n j
masked w n j within fits =
    ap (λ (x : ℕ). bit_and n (first_set w - x)) (one_at w j within)
    ∙ ap (bit_and n) (all_but w j within)
    ∙ and_all_but w n j fits
