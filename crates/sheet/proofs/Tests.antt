-- Laws of tests: what code answers that leaves at the first test that fails.
use mathlib.Core.Path.{◌≡◌, refl, sym, ◌∙◌}
use mathlib.Core.Bool.{Bool, true, false}
use Prim.Native.Nat.{ℕ, zero, suc}
use borrow.Author.Tests.{lt-ltb, le-ltb, le-leb, lt-leb, eq-eqb, ne_eqb}
use lib.Dec.{ltb, eqb, leb-suc-suc, leb-suc-zero, eqb-suc-zero}
use Rattle.whole.specs.Cases.{both}

pub first_fails : (a b : Bool) → a ≡ false → false ≡ both a b
first_fails a b e = rw e

pub first_holds : (a b c : Bool) → a ≡ true → c ≡ b → c ≡ both a b
first_holds a b c e f = rw e f

pub ruleset tests = (first_fails, first_holds, lt-ltb, le-ltb, le-leb, lt-leb, eq-eqb, ne_eqb)

pub below_one : (b : ℕ) → ltb b 1 ≡ eqb b 0
below_one zero = refl
below_one (suc b) = leb-suc-suc (suc b) 0 ∙ leb-suc-zero b ∙ sym (eqb-suc-zero b)

-- A callee answers r where b is asked.
module _ {r b : Bool} (e : r ≡ b) where
  pub refuted : r ≡ false → b ≡ false
  refuted h = sym e ∙ h

  pub upheld : r ≡ true → b ≡ true
  upheld h = sym e ∙ h
