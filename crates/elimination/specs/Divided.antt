-- What dividing an upright equation by its number at j leaves.
use Rattle.std.specs.Prelude.{◌≡◌, List, ℕ, ℤ}
use Rattle.row.specs.Row.{at}
use Rattle.row.specs.Divide.{quotients, remainders}

pub record Divided (e : List ℤ) (j : ℕ) (p : ℤ) (r q : List ℤ) : Type 0 where
  pub divisor : p ≡ at e j
  pub rest : r ≡ remainders (at e j) e
  pub times : q ≡ quotients (at e j) e
