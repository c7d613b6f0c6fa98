-- A byte read as a signed one is the number that it holds in two's complement. Function `exponent` names this law in its attribute, so
-- that its must-fail edit is refused for its number and not for its form.
use Rattle.std.proofs.Common.{◌≡◌, ◌∙◌, ap, sym, ℕ, ◌<◌, ◌≤◌, ◌-◌, ◌^◌, suc, w8, to_z, arith}
use Rattle.std.proofs.Math.Logic.{by_cases}
use Rattle.std.proofs.Math.Decide.{dec_lt}
use Rattle.std.proofs.Math.Facts.{to_z_pos, to_z-neg}
use Rattle.whole.specs.Bytes.{signed, signed_low, signed_high}

pub twos_complement : (b : ℕ) → b < 256 → to_z w8 b ≡ signed b
twos_complement b byte =
    by_cases (dec_lt b 128)
    (λ below. to_z_pos w8 below ∙ sym (signed_low b below))
    (λ beyond.
    let above : 128 ≤ b = omega arith in
    let n : 2 ^ 8 - suc (255 - b) ≡ b = omega arith in
    ap (to_z w8) (sym n) ∙ to_z-neg w8 (255 - b) (omega arith) ∙ sym (signed_high b above byte))
