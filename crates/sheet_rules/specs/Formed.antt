-- What a sheet that passes the checks is like.
use Rattle.std.specs.Prelude.{◌≡◌, true, List, ℕ, ◌+◌, ◌*◌, ◌≤◌, ◌<◌, length}
use Rattle.sheet_rules.specs.Shape.{Shape, unit_record, channel, line}
use Rattle.sheet_rules.specs.Good.{good_record, good_channel, good_line}

-- The counts are within their limits, and the parts fill the sheet.
pub record Laid (sh : Shape) (s : List ℕ) : Type 0 where
  pub all_unknown_columns : sh.unknown_columns ≡ 24
  pub columns : sh.columns ≡ 32
  pub unknowns : sh.unknowns ≤ 24
  pub records : sh.records ≤ 64
  pub channels : sh.channels ≤ 16
  pub lines : sh.lines ≤ 256
  pub long : length s ≡ 16 + 4 * sh.lines + sh.channels + sh.columns * sh.records

-- .. and each record, channel and line is good.
pub record Formed (sh : Shape) (s : List ℕ) : Type 0 where
  pub laid : Laid sh s
  pub good_records : (i : ℕ) → i < sh.records → good_record sh (unit_record sh s i) ≡ true
  pub good_channels : (c : ℕ) → c < sh.channels → good_channel sh (channel sh s c) ≡ true
  pub good_lines : (k : ℕ) → k < sh.lines → good_line sh k (line sh s k) ≡ true
