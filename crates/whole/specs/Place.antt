-- The lowest place at which something is wrong.
use Rattle.std.specs.Prelude.{Bool, ℕ, zero, suc, ◌+◌, Option, Some, None}
use Rattle.whole.specs.Cases.{if}

pub data Found : Type 0 where
  place : ℕ → Found
  nowhere : Found

abbrev pub on_found {ℓ} : {A : Type ℓ} → (ℕ → A) → A → Found → A
on_found k a (place i) = k i
on_found k a nowhere = a

-- The lowest of n places, from i on, that is not good.
unfoldable pub lowest : (ℕ → Bool) → ℕ → ℕ → Found
lowest good zero i = nowhere
lowest good (suc n) i = if (good i) (lowest good n (i + 1)) (place i)

-- What code says that looks for one.
abbrev pub found_of : Option ℕ → Found
found_of (Some i) = place i
found_of None = nowhere
