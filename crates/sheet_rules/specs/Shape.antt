-- "The sheet": its parts and where they stand. A sheet is a list of bytes, each below 256.
use Rattle.std.specs.Prelude.{List, map, ℕ, ◌+◌, ◌-◌, ◌*◌, length, get_or, take, drop, ℤ}
use Rattle.whole.specs.Bytes.{little_endian, signed}

abbrev pub byte : List ℕ → ℕ → ℕ
byte s i = get_or s i 0

-- "16 bits each", "numbers little-endian".
abbrev pub number : List ℕ → ℕ → ℕ
number s i = little_endian (byte s i) (byte s (i + 1))

-- "Trailer, 16 bytes": where it begins.
abbrev pub trailer : List ℕ → ℕ
trailer s = length s - 16

-- How many there are of each, and of how many columns the rows are. "Columns 0 to 23 are unknowns; columns 24 to 31 are the
-- bases".
pub record Shape : Type 0 where
  pub unknown_columns : ℕ
  pub columns : ℕ
  pub unknowns : ℕ
  pub records : ℕ
  pub channels : ℕ
  pub lines : ℕ

-- "Offset .. 6: V. 7: U. 8: C. .. 10: N, 16 bits."
abbrev pub shape_of : List ℕ → Shape
shape_of s =
    record {
      unknown_columns = 24;
      columns = 32;
      unknowns = byte s (trailer s + 6);
      records = byte s (trailer s + 7);
      channels = byte s (trailer s + 8);
      lines = number s (trailer s + 10);
    }

-- "Parts in file order, with nothing before, between or after them".
abbrev pub channels_at : Shape → ℕ
channels_at sh = sh.columns * sh.records

abbrev pub lines_at : Shape → ℕ
lines_at sh = channels_at sh + sh.channels

-- "Unit records, U of 32 bytes. Each byte is a signed exponent (two's complement)".
abbrev pub unit_record : Shape → List ℕ → ℕ → List ℤ
unit_record sh s i = map signed (take sh.columns (drop (sh.columns * i) s))

-- "Channel bytes, C of 1 byte: the index of the channel's unit record."
abbrev pub channel : Shape → List ℕ → ℕ → ℕ
channel sh s c = byte s (channels_at sh + c)

-- "Lines, N of 4 bytes: code, a, b, and a last byte that is 0."
pub record Line : Type 0 where
  pub code : ℕ
  pub a : ℕ
  pub b : ℕ
  pub last : ℕ

abbrev pub line_at : List ℕ → ℕ → Line
line_at s i = record { code = byte s i; a = byte s (i + 1); b = byte s (i + 2); last = byte s (i + 3) }

abbrev pub line : Shape → List ℕ → ℕ → Line
line sh s k = line_at s (lines_at sh + 4 * k)
