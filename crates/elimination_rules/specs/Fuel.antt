-- The fuel of an equation is not short.
use Rattle.elimination_rules.specs.Equation.{Outcome, done, clashed, widened, spent}

abbrev pub Ended : Outcome → Type 0
Ended (done t k f) = Unit {0}
Ended clashed = Unit {0}
Ended widened = Unit {0}
Ended spent = ⊥
