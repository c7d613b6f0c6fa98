-- Sets of units under which lines agree.
use Rattle.std.specs.Prelude.{ℕ, ℤ, pos}
use Rattle.std.proofs.Common.{arith}
use mathlib.Core.List.{List}
use Rattle.elimination_rules.specs.Units.{yields, MostGeneral}
use Rattle.sheet_rules.specs.Shape.{Shape}
use Rattle.sheet_rules.specs.Agree.{Agrees, Agreeing, FirstClash}

-- Any choice yields a set.
pub general_agrees : (sh : Shape) (s : List ℕ) (n : ℕ) {t : List ℤ} {f : ℕ}
    → MostGeneral sh.unknown_columns sh.unknowns sh.columns (Agrees sh s n) t f → Agreeing sh s n
general_agrees sh s n {t} g = record {
  units = yields sh.unknown_columns sh.unknowns sh.columns t (λ j base. pos 0);
  agree = g.solves (λ j base. pos 0);
}

-- A clash is one of all lines.
pub clash_all : (sh : Shape) (s : List ℕ) {n : ℕ} → FirstClash sh s n → Agreeing sh s sh.lines → ⊥
clash_all sh s c a = c.none (record { units = a.units; agree = λ k h. a.agree k (omega (arith, c.among)) })
