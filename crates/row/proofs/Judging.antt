-- What an answer says of the row that was judged.
use mathlib.Core.Path.{◌≡◌, refl}
use mathlib.Core.Bool.{Bool, true, false}
use mathlib.Core.List.{List}
use lib.IntN.{ℤ}
use Rattle.std.specs.Prelude.{Result, Ok, Err}
use Rattle.whole.specs.Cases.{if}
use Rattle.whole.specs.declared.number.PastLimit.{PastLimit}
use Rattle.row.specs.Row.{all_in_limit}
use Rattle.row.specs.Judged.{good, wide, judged, judged_of}

module _ (m l : List ℤ) (r : Result (Unit {0}) PastLimit) (e : judged m ≡ judged_of r l) where
  -- Ok: it is the row that is left, and it is within the limit.
  pub judged_ok : {u : Unit {0}} → r ≡ Ok u → (l ≡ m) × (all_in_limit m ≡ true)
  judged_ok {u} t = by (all_in_limit m) refl (rw t at e)
    where
      by : (a : Bool) → all_in_limit m ≡ a → if a (good m) wide ≡ good l → (l ≡ m) × (all_in_limit m ≡ true)
      by true f e = (cc, f)
      by false f e = (cc, cc)

  pub judged_err : {p : PastLimit} → r ≡ Err p → all_in_limit m ≡ false
  judged_err {p} t = by (all_in_limit m) refl (rw t at e)
    where
      by : (a : Bool) → all_in_limit m ≡ a → if a (good m) wide ≡ wide → all_in_limit m ≡ false
      by true f e = cc
      by false f e = f

-- The same by a test: true where it is the row that is left.
module _ (m l : List ℤ) (b : Bool) {p : PastLimit} (e : judged m ≡ judged_of (if b (Ok tt) (Err p)) l) where
  pub judged_true : b ≡ true → (l ≡ m) × (all_in_limit m ≡ true)
  judged_true t = judged_ok m l (Ok tt) (rw t at e) refl

  pub judged_false : b ≡ false → all_in_limit m ≡ false
  judged_false t = judged_err m l (Err p) (rw t at e) refl
