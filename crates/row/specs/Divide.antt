-- Every exponent of a row negated, or divided by one number.
use Rattle.std.specs.Prelude.{List, map, ℤ, neg_ℤ, ◌-ℤ◌, ◌*ℤ◌}
use Rattle.whole.specs.Division.{quotient}

abbrev pub negated : List ℤ → List ℤ
negated r = map neg_ℤ r

-- By a division that is named by its quotient.
abbrev pub quotients_by : (ℤ → ℤ → ℤ) → ℤ → List ℤ → List ℤ
quotients_by quo p r = map (λ (x : ℤ). quo x p) r

abbrev pub remainders_by : (ℤ → ℤ → ℤ) → ℤ → List ℤ → List ℤ
remainders_by quo p r = map (λ (x : ℤ). x -ℤ quo x p *ℤ p) r

-- By document 01's.
abbrev pub quotients : ℤ → List ℤ → List ℤ
quotients p r = quotients_by quotient p r

abbrev pub remainders : ℤ → List ℤ → List ℤ
remainders p r = remainders_by quotient p r
