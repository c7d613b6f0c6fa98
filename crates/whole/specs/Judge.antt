-- A number judged against the limit, as code answers it.
use Rattle.std.specs.Prelude.{◌≡◌, refl, Bool, true, false, ℤ, Result, Ok, Err}
use Rattle.whole.specs.Cases.{if}
use Rattle.whole.specs.Size.{in_limit}
use Rattle.whole.specs.declared.number.PastLimit.{PastLimit}

abbrev past_limit : PastLimit
past_limit = record {}

abbrev pub judge : ℤ → Result ℤ PastLimit
judge x = if (in_limit x) (Ok x) (Err past_limit)

-- ---- what an answer says
module _ (x : ℤ) (r : Result ℤ PastLimit) (e : r ≡ judge x) where
  pub judge_ok : {y : ℤ} → r ≡ Ok y → (y ≡ x) × (in_limit x ≡ true)
  judge_ok {y} k = by (in_limit x) refl (rw k at e)
    where
      by : (b : Bool) → in_limit x ≡ b → Ok y ≡ if b (Ok x) (Err past_limit) → (y ≡ x) × (in_limit x ≡ true)
      by true f e = (cc, f)
      by false f e = (cc, cc)

  pub judge_err : {p : PastLimit} → r ≡ Err p → in_limit x ≡ false
  judge_err {p} k = by (in_limit x) refl (rw k at e)
    where
      by : (b : Bool) → in_limit x ≡ b → Err p ≡ if b (Ok x) (Err past_limit) → in_limit x ≡ false
      by true f e = cc
      by false f e = f
