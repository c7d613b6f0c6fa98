use Rattle.std.proofs.Common.{◌≡◌, map, length, take}
use Rattle.whole.specs.Bytes.{signed}
use Rattle.sheet.proofs.parts.exponents.Given as goal

abbrev pub invariant-loop-i : goal.invariant-loop-i
invariant-loop-i l = (length l.out ≡ length l.bytes) × (take l.i l.out ≡ map signed (take l.i l.bytes))
