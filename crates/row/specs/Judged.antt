-- A row judged against the limit.
use Rattle.std.specs.Prelude.{◌≡◌, refl, Bool, true, false, List, ℤ, Result, Ok, Err}
use Rattle.whole.specs.Cases.{if}
use Rattle.whole.specs.declared.number.PastLimit.{PastLimit}
use Rattle.row.specs.Row.{all_in_limit}

pub data Judged : Type 0 where
  good : List ℤ → Judged
  wide : Judged

abbrev pub judged : List ℤ → Judged
judged r = if (all_in_limit r) (good r) wide

-- What follows from a row: w where it is wide, and k of the row where not.
abbrev pub on_judged {ℓ} : {A : Type ℓ} → A → (List ℤ → A) → Judged → A
on_judged w k (good r) = k r
on_judged w k wide = w

-- What code says that judges a row and leaves it: where it is past the limit, nothing is said of what is left.
abbrev pub judged_of : Result (Unit {0}) PastLimit → List ℤ → Judged
judged_of (Ok u) r = good r
judged_of (Err e) r = wide

pub judged_ind : {A : Type 0} (w : A) (k : List ℤ → A) (r : List ℤ) (P : A → Type 0) → (all_in_limit r ≡ true → P (k r)) → P w → P (on_judged w k (judged r))
judged_ind w k r P f g = by (all_in_limit r) refl
  where
    by : (b : Bool) → all_in_limit r ≡ b → P (on_judged w k (if b (good r) wide))
    by true e = f e
    by false e = g
