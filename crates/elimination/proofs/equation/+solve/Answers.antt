-- `elimination::equation::solve` meets its contract. It calls itself, and the size of the smallest unknown falls at each call.
use Rattle.std.proofs.Common.{refl, ◌∙◌, arith}
use Rattle.elimination_rules.specs.Round.{holds, solved}
use Rattle.elimination.proofs.Rounds.{round_goes, round_counts}
use Rattle.elimination.proofs.Courses.{solve_ends, solve_stops, goes, solve_goes}
use Rattle.elimination.proofs.equation.+solve.Goals as goal

pub returns-in_err-round : goal.returns-in_err-round
returns-in_err-round t c =
    solve_stops _ _ _ _ _ _ _ c.round.new.e _ (rw c.in_err-round.was at c.round.ensures) c.from_residual.result c.from_residual.ensures.1

pub after_round-requires : goal.after_round-requires
after_round-requires t c = round_counts c.requires.0 _ _ c.requires.1 (rw (c.in_ok-round.was, c.in-Solved.is) at c.round.ensures)

pub returns-in-Solved : goal.returns-in-Solved
returns-in-Solved t c =
    rw (c.after_round.ensures.0, c.after_round.ensures.1)
    (solve_ends _ _ _ _ _ _ (solved c.round.new.table c.in-Solved.free) _ (rw (c.in_ok-round.was, c.in-Solved.is) at c.round.ensures) (λ go. refl))

-- The round goes on.
pub after_round-requires-in-Again : goal.after_round-requires-in-Again
after_round-requires-in-Again t c = (round_goes c.requires.0 _ _ c.requires.1 (rw (c.in_ok-round.was, c.in-Again.is) at c.round.ensures)).counts

pub solve-requires : goal.solve-requires
solve-requires t c =
    let g = round_goes c.requires.0 _ _ c.requires.1 (rw (c.in_ok-round.was, c.in-Again.is) at c.round.ensures) in
    (omega (arith, g.smaller, c.decreases), (g.ready _ (c.round.auto.q ∙ c.requires.0.room), omega (arith, g.countable, c.after_round-in-Again.ensures.0)))

pub returns-in-Again : goal.returns-in-Again
returns-in-Again t c =
    let g = round_goes c.requires.0 _ _ c.requires.1 (rw (c.in_ok-round.was, c.in-Again.is) at c.round.ensures) in
    solve_goes _ (goes g) (rw (c.after_round-in-Again.ensures.0, c.after_round-in-Again.ensures.1) at c.solve.ensures)

pub returns-in-Holds : goal.returns-in-Holds
returns-in-Holds t c =
    solve_ends _ _ _ _ _ _ (holds c.round.new.table) _ (rw (c.in_ok-round.was, c.in-Holds.is) at c.round.ensures) (λ go. refl)
