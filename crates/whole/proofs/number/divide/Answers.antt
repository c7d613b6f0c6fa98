-- What the machine makes, brought to the quotient and the remainder.
use Rattle.std.proofs.Common.{pos, ◌+ℤ◌, ◌-ℤ◌, ◌<ℤ◌, ℤ, FitsSigned, w32}
use Rattle.std.specs.Int.Signed.{quot_z, rem_z}
use mir.Facts.{to_z-of_z}
use Rattle.whole.specs.Size.{less_true, less_false}
use Rattle.whole.proofs.Division.{lowered_quotient, lowered_remainder, kept_quotient, kept_remainder, quotient_fits, remainder_fits}
use Rattle.whole.proofs.Signed.{quot_fits, rem_fits}
use Rattle.whole.proofs.number.divide.Goals as goal

module _ (x p : ℤ) (h : pos 0 <ℤ p) (fx : FitsSigned w32 x) (fp : FitsSigned w32 p) where
  quot_ok : FitsSigned w32 (quot_z x p)
  quot_ok = quot_fits x p h fx

  rem_ok : FitsSigned w32 (rem_z x p)
  rem_ok = rem_fits x p fx

  module _ (low : rem_z x p <ℤ pos 0) where
    quotient_ok : FitsSigned w32 (quot_z x p -ℤ pos 1)
    quotient_ok = rw (lowered_quotient x p h low) (quotient_fits p fx)

    remainder_ok : FitsSigned w32 (rem_z x p +ℤ p)
    remainder_ok = rw (lowered_remainder x p h low) (remainder_fits x h fp)

pub returns-then-r-lt0 : goal.returns-then-r-lt0
returns-then-r-lt0 c =
    let x = c.args.x in
    let p = c.args.p in
    let q = quot_ok x p c.requires c.ranges.x c.ranges.p in
    let r = rem_ok x p c.requires c.ranges.x c.ranges.p in
    let h = less_true _ _ (simp (to_z-of_z, c.ranges.x, c.ranges.p, r) at c.if-r-lt0.true) in
    simp (to_z-of_z, c.ranges.x, c.ranges.p, q, r, quotient_ok x p c.requires c.ranges.x c.ranges.p h, remainder_ok x p c.requires c.ranges.x c.ranges.p h)
    (lowered_quotient x p c.requires h, lowered_remainder x p c.requires h)

pub returns : goal.returns
returns c =
    let x = c.args.x in
    let p = c.args.p in
    let q = quot_ok x p c.requires c.ranges.x c.ranges.p in
    let r = rem_ok x p c.requires c.ranges.x c.ranges.p in
    let h = less_false _ _ (simp (to_z-of_z, c.ranges.x, c.ranges.p, r) at c.if-r-lt0.false) in
    simp (to_z-of_z, c.ranges.x, c.ranges.p, q, r)
    (kept_quotient x p c.requires h, kept_remainder x p c.requires h)
