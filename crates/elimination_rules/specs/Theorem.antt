-- What the promise decides.
use Rattle.std.specs.Prelude.{◌≡◌, List, [], ℕ, suc, ℤ, pos}
use Rattle.std.proofs.Common.{arith}
use Rattle.row.specs.Tables.{rows_fewer}
use Rattle.elimination_rules.specs.Equation.{Verdict, accepted, clash_at, wide_at, spent_all}
use Rattle.elimination_rules.specs.General.{val, values, Promise, Decided}

-- A clash exactly when there is no solution, where the verdict is not wide.
pub decided : (u v w m : ℕ) (es : List ℤ) (a : Verdict) → Promise u v w m es a → Decided u w m es a
decided u v w m es (accepted t k f) p = record { solution = λ c. values u c w v t []; holds = λ c uc cw. (p.column c uc cw).solves [] }
decided u v w m es (clash_at n) p =
    λ s. let c = p.at_column in
    p.none (s.solution c) (rows_fewer (λ e. val u c e (s.solution c) ≡ pos 0) w m (suc n) es (omega (arith, p.among)) (s.holds c p.from p.to))
decided u v w m es (wide_at n) p = tt
decided u v w m es spent_all p = tt
