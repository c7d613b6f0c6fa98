-- Laws of where the parts of a sheet stand.
use mathlib.Core.Path.{◌≡◌, ap}
use mathlib.Core.List.{List}
use Prim.Native.Nat.{ℕ, ◌+◌, ◌*◌, ◌≤◌, ◌<◌}
use native.Mathlib.Omega.{arith}
use lib.ListN.{length}
use Rattle.sheet_rules.specs.Shape.{Shape, lines_at}
use Rattle.sheet_rules.specs.Parts.{row_room}
use Rattle.sheet_rules.specs.Formed.{Laid}

module _ {sh : Shape} {s : List ℕ} (L : Laid sh s) where
  pub rows_long : (n : ℕ) → sh.columns * n ≡ 32 * n
  rows_long n = ap (λ w. w * n) L.columns

  pub lines_near : lines_at sh < 65536
  lines_near = omega (arith, rows_long sh.records)

  pub record_room : (i : ℕ) → i < sh.records → sh.columns * i + sh.columns ≤ length s
  record_room i h = omega (arith, row_room sh.columns sh.records i h)
