-- The size of the smallest unknown falls at each call.
use Rattle.elimination.specs.Requires.{smallest_size}
use Rattle.elimination.proofs.equation.+solve.Given as goal

abbrev pub decreases-solve : goal.decreases-solve
decreases-solve l = smallest_size l.u l.e.now
