-- The numbers that bytes hold, where a byte is a number below 256.
-- The definitions stand first.
use Rattle.std.specs.Prelude.{ℕ, ◌*◌, ◌+◌, ◌-◌, ◌<◌, ◌≤◌, ltb, ℤ, nat_abs, negsuc, pos, ◌-ℤ◌, cond, ◌≡◌, refl}
use Rattle.std.proofs.Common.{le-ltb, lt-ltb, ◌∙◌, ap, sym, arith}
use Rattle.std.proofs.Math.Logic.{by_cases}
use Rattle.std.proofs.Math.Decide.{dec_lt}

-- The number of two bytes, the low one first.
abbrev pub little_endian : ℕ → ℕ → ℕ
little_endian low high = low + 256 * high

-- The number of one byte in two's complement: the byte, and from 128 on the byte less 256.
unfoldable pub signed : ℕ → ℤ
signed b = cond (ltb b 128) (pos b) (pos b -ℤ pos 256)

-- 0x7f, 0x80 and 0xff: 127, −128 and −1, where `negsuc n` is −(n + 1).
signed_most : signed 127 ≡ pos 127
unfolding signed
signed_most = refl

signed_least : signed 128 ≡ negsuc 127
unfolding signed
signed_least = refl

signed_last : signed 255 ≡ negsuc 0
unfolding signed
signed_last = refl

-- ---- A signed byte by its half.

pub signed_low : (b : ℕ) → b < 128 → signed b ≡ pos b
unfolding signed
signed_low b below = rw (lt-ltb b 128)

pub signed_high : (b : ℕ) → 128 ≤ b → b < 256 → signed b ≡ negsuc (255 - b)
unfolding signed
signed_high b above byte = rw (le-ltb b 128, lt-ltb b 256) (ap negsuc (omega arith))

-- A property of every signed byte, shown of each half.
by_half : (P : ℤ → Type 0) (b : ℕ) → b < 256 → (b < 128 → P (pos b)) → (128 ≤ b → P (negsuc (255 - b))) → P (signed b)
by_half P b byte low high =
    by_cases (dec_lt b 128)
    (λ below. rw (signed_low b below) (low below))
    (λ beyond. let above : 128 ≤ b = omega arith in rw (signed_high b above byte) (high above))

pub signed_size : (b : ℕ) → b < 256 → nat_abs (signed b) ≤ 128
signed_size b byte = by_half (λ z. nat_abs z ≤ 128) b byte (λ below. omega arith) (λ above. omega arith)

-- The byte of a signed number.
unsigned : ℤ → ℕ
unsigned (pos n) = n
unsigned (negsuc n) = 255 - n

unsigned_signed : (b : ℕ) → b < 256 → unsigned (signed b) ≡ b
unfolding unsigned
unsigned_signed b byte = by_half (λ z. unsigned z ≡ b) b byte (λ below. refl) (λ above. omega arith)

-- No two bytes hold the same signed number.
pub signed_only : (a b : ℕ) → a < 256 → b < 256 → signed a ≡ signed b → a ≡ b
signed_only a b a_byte b_byte same =
    sym (unsigned_signed a a_byte) ∙ ap unsigned same ∙ unsigned_signed b b_byte
