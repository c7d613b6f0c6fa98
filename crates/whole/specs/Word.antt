-- A word of free unknowns: a number read by its bits, where bit j is 1 if unknown j is free and 0 if it is not.
-- The definitions stand first. Every law holds at every width.
use Rattle.std.specs.Prelude.{ℕ, zero, suc, ◌%◌, ◌*◌, ◌+◌, ◌-◌, ◌/◌, ◌<◌, ◌^◌, ◌≤◌, ◌≡◌, refl}
use Rattle.std.specs.Int.Count.{ones, ones-ones}
use Rattle.std.proofs.lemmas.Nat.{ones_cat, mod-pow-add}
use Rattle.std.proofs.Math.Pow.{field, high, low, mod-mod-pow, ones_lt, ones_split, split}
use Rattle.std.proofs.Common.{pow_mono, pow_pos, shr-shr, ◌∙◌, ap, ap₂, subst, sym, add_comm, lt_of_lt_of_le, mod-eq_of_lt, mod-lt, pow-suc, sub-add_cancel, one-add, arith}
use Rattle.std.proofs.Math.Logic.{by_cases}
use Rattle.std.proofs.Math.Decide.{dec_lt, ℕ_discrete}
use Rattle.std.proofs.Math.Nat.{div-eq_of_lt, mod-one}

-- Bit j of n.
unfoldable pub bit : ℕ → ℕ → ℕ
bit j n = n / 2 ^ j % 2

-- n without its bit j: what stands above the bit, and what stands below it.
unfoldable pub cleared : ℕ → ℕ → ℕ
cleared n j = n / 2 ^ suc j * 2 ^ suc j + n % 2 ^ j

-- The word whose first v bits are set.
abbrev pub first_set : ℕ → ℕ
first_set v = 2 ^ v - 1

-- How many of the first v bits of n are set.
unfoldable pub count : ℕ → ℕ → ℕ
count zero n = 0
count (suc v) n = count v n + bit v n

-- ---- One bit.

pub bit_small : (i n : ℕ) → bit i n < 2
unfolding bit
bit_small i n = omega arith

-- A bit is 0 or it is 1.
pub by_bit : (i n : ℕ) {P : Type 0} → (bit i n ≡ 0 → P) → (bit i n ≡ 1 → P) → P
by_bit i n clear set =
    by_cases (ℕ_discrete (bit i n) 0) clear (λ other. set (omega (arith, bit_small i n)))

-- The low i digits of the low j are the low i.
low_of_low : (n i j : ℕ) → i ≤ j → n % 2 ^ j % 2 ^ i ≡ n % 2 ^ i
low_of_low n i j within =
    subst (λ (w : ℕ). n % 2 ^ w % 2 ^ i ≡ n % 2 ^ i) (sub-add_cancel within) (mod-mod-pow n (j - i) i)

-- The bits of what stands from place j on.
pub bit_high : (n j k : ℕ) → bit k (n / 2 ^ j) ≡ bit (j + k) n
unfolding bit
bit_high n j k = ap (λ (x : ℕ). x % 2) (shr-shr n j k)

-- The bits of what stands below place j.
pub bit_low : (n j k : ℕ) → k < j → bit k (n % 2 ^ j) ≡ bit k n
unfolding bit
bit_low n j k below =
    sym (field (n % 2 ^ j) 1 k)
    ∙ ap (λ (x : ℕ). x / 2 ^ k) (low_of_low n (1 + k) j (omega arith))
    ∙ field n 1 k

-- A word of w bits has none set from place w on.
pub bit_past : (n w k : ℕ) → n < 2 ^ w → w ≤ k → bit k n ≡ 0
unfolding bit
bit_past n w k small above =
    ap (λ (x : ℕ). x % 2) (div-eq_of_lt (lt_of_lt_of_le small (pow_mono above)))

-- One more digit: the bit, above the digits below it.
low_more : (n w : ℕ) → n % 2 ^ suc w ≡ bit w n * 2 ^ w + n % 2 ^ w
unfolding bit
low_more n w = ap (λ (i : ℕ). n % 2 ^ i) (sym (one-add w)) ∙ mod-pow-add n 1 w

-- ---- A word is its bits.

same_low : (w m n : ℕ) → ((k : ℕ) → k < w → bit k m ≡ bit k n) → m % 2 ^ w ≡ n % 2 ^ w
same_low zero m n same = omega arith
same_low (suc w) m n same =
    low_more m w
    ∙ ap₂ (λ (b l : ℕ). b * 2 ^ w + l) (same w (omega arith)) (same_low w m n (λ k below. same k (omega arith)))
    ∙ sym (low_more n w)

-- Two words of w bits with the same bits are the same word.
pub same_bits : (w m n : ℕ) → m < 2 ^ w → n < 2 ^ w → ((k : ℕ) → k < w → bit k m ≡ bit k n) → m ≡ n
same_bits w m n m_fits n_fits same = sym (mod-eq_of_lt m_fits) ∙ same_low w m n same ∙ mod-eq_of_lt n_fits

-- ---- One bit cleared.

-- What the bit weighed is gone.
pub cleared_weighs : (n j : ℕ) → cleared n j + bit j n * 2 ^ j ≡ n
unfolding cleared
cleared_weighs n j = omega (arith, split n (suc j), low_more n j)

pub cleared_below : (n j : ℕ) → cleared n j ≤ n
cleared_below n j = omega (arith, cleared_weighs n j)

low_small : (n j : ℕ) → n % 2 ^ j < 2 ^ suc j
low_small n j = omega (arith, mod-lt n (pow_pos j), pow-suc 2 j)

cleared_high : (n j : ℕ) → cleared n j / 2 ^ suc j ≡ n / 2 ^ suc j
unfolding cleared
cleared_high n j = high (n / 2 ^ suc j) (suc j) (low_small n j)

cleared_low : (n j : ℕ) → cleared n j % 2 ^ suc j ≡ n % 2 ^ j
unfolding cleared
cleared_low n j = low (n / 2 ^ suc j) (suc j) (low_small n j)

pub bit_cleared_same : (n j : ℕ) → bit j (cleared n j) ≡ 0
bit_cleared_same n j =
    sym (bit_low (cleared n j) (suc j) j (omega arith))
    ∙ ap (bit j) (cleared_low n j)
    ∙ bit_past (n % 2 ^ j) j j (mod-lt n (pow_pos j)) (omega arith)

pub bit_cleared_other : (n j k : ℕ) → (k ≡ j → ⊥) → bit k (cleared n j) ≡ bit k n
bit_cleared_other n j k other = by_cases (dec_lt k j) below above
  where
    below : k < j → bit k (cleared n j) ≡ bit k n
    below less =
        sym (bit_low (cleared n j) (suc j) k (omega arith))
        ∙ ap (bit k) (cleared_low n j)
        ∙ bit_low n j k less

    from : (m : ℕ) → j < k → bit (k - suc j) (m / 2 ^ suc j) ≡ bit k m
    from m more = bit_high m (suc j) (k - suc j) ∙ ap (λ (i : ℕ). bit i m) (omega arith)

    above : (k < j → ⊥) → bit k (cleared n j) ≡ bit k n
    above least =
        let more : j < k = omega arith in
        sym (from (cleared n j) more) ∙ ap (bit (k - suc j)) (cleared_high n j) ∙ from n more

-- ---- The first v bits set.

first_low : (v i : ℕ) → i ≤ v → first_set v % 2 ^ i ≡ first_set i
first_low v i within =
    subst (λ (w : ℕ). first_set w % 2 ^ i ≡ first_set i) (sub-add_cancel within)
    (ap (λ (x : ℕ). x % 2 ^ i) (ones_split (v - i) i) ∙ low (first_set (v - i)) i (ones_lt i))

pub bit_first_below : (v k : ℕ) → k < v → bit k (first_set v) ≡ 1
unfolding bit
bit_first_below v k below =
    sym (bit_low (first_set v) (1 + k) k (omega arith))
    ∙ ap (bit k) (first_low v (1 + k) (omega arith) ∙ ones_split 1 k)
    ∙ ap (λ (x : ℕ). x % 2) (high 1 k (ones_lt k))

pub bit_first_above : (v k : ℕ) → v ≤ k → bit k (first_set v) ≡ 0
bit_first_above v k above = bit_past (first_set v) v k (ones_lt v) above

-- ---- How many bits are set.

count_same : (v m n : ℕ) → ((k : ℕ) → k < v → bit k m ≡ bit k n) → count v m ≡ count v n
unfolding count
count_same zero m n same = refl
count_same (suc v) m n same = ap₂ ◌+◌ (count_same v m n (λ k below. same k (omega arith))) (same v (omega arith))

-- The last of the bits cleared: the others count as before.
count_cleared_last : (v n : ℕ) → bit v n ≡ 1 → count (suc v) n ≡ suc (count (suc v) (cleared n v))
unfolding count
count_cleared_last v n set =
    omega (
      arith,
      count_same v (cleared n v) n (λ k below. bit_cleared_other n v k (λ same. omega arith)),
      bit_cleared_same n v,
    )

pub count_cleared : (v n j : ℕ) → j < v → bit j n ≡ 1 → count v n ≡ suc (count v (cleared n j))
unfolding count
count_cleared zero n j within set = absurd (omega arith)
count_cleared (suc v) n j within set =
    by_cases (dec_lt j v)
    (λ below. omega (arith, count_cleared v n j below set, bit_cleared_other n j v (λ same. omega arith)))
    (λ above. let last : j ≡ v = omega arith in rw last (count_cleared_last v n (rw last at set)))

ones_bit : (i n : ℕ) → bit i n ≡ ones (bit i n)
ones_bit i n =
    by_bit i n (λ clear. clear ∙ sym (ap ones clear ∙ ones-ones 0)) (λ set. set ∙ sym (ap ones set ∙ ones-ones 1))

-- The kit's count of set digits, which the machine's count is stated by.
pub count_ones : (v n : ℕ) → count v n ≡ ones (n % 2 ^ v)
unfolding count
count_ones zero n = sym (ap ones (mod-one n) ∙ ones-ones 0)
count_ones (suc v) n =
    ap₂ ◌+◌ (count_ones v n) (ones_bit v n)
    ∙ add_comm (ones (n % 2 ^ v)) (ones (bit v n))
    ∙ sym (ap ones (low_more n v) ∙ ones_cat v (bit v n) (n % 2 ^ v) (mod-lt n (pow_pos v)))

pub count_first : (v : ℕ) → count v (first_set v) ≡ v
count_first v = count_ones v (first_set v) ∙ ap ones (mod-eq_of_lt (ones_lt v)) ∙ ones-ones v
