-- Laws of one round of lists: what it is ready for, and what it leaves.
use mathlib.Core.Path.{◌≡◌, refl, sym, ap, ◌∙◌, subst}
use mathlib.Core.Bool.{true}
use mathlib.Core.List.{List}
use Prim.Native.Nat.{ℕ, ◌+◌, ◌*◌, ◌<◌, ◌^◌}
use native.Mathlib.Omega.{arith}
use lib.IntN.{ℤ}
use lib.ListN.{length}
use Rattle.whole.specs.Division.{quotient}
use Rattle.whole.proofs.Division.{rounded_down}
use Rattle.row.specs.Row.{all_in_limit}
use Rattle.elimination_rules.specs.Round.{Turn, holds, solved, again, clash, wide, upright, round}
use Rattle.elimination_rules.proofs.Upright.{length_upright}
use Rattle.elimination_rules.proofs.Ways.{turn_ind, round_ind}
use Rattle.elimination_rules.proofs.Fall.{again_remains, again_tabled}
use Rattle.elimination.specs.Requires.{Swappable, ReadyLists, Picked, Countable, smallest_size}
use Rattle.elimination.specs.Room.{Ready}
use Rattle.elimination.specs.declared.room.Elimination.{Elimination}

pub ready_lists : {s : Elimination} → Ready s → ReadyLists s.unknown_columns s.unknowns s.table.now s.equation.now s.quotients.now
ready_lists {s} R = record { table = R.table; equation = R.equation; columns = s.columns; word = s.word; rows = s.rows; room = s.quotients_room }

-- A table is as ready for quotients as for the equation that they are of.
pub ready_swappable : {u v j : ℕ} {t e q : List ℤ} (q' : List ℤ) → ReadyLists u v t e q → Picked u j e → length q' ≡ length q → Swappable v j t q'
ready_swappable {u} {v} q' R P k = record { table = R.table; rows = R.rows ∙ ap (λ n. v * n) (sym (k ∙ R.room)); column = omega arith }

-- A round that goes on leaves an equation as it was, but smaller, and lists that are ready for the next one.
pub record GoingOn (u v : ℕ) (t e : List ℤ) (k f : ℕ) (t' e' : List ℤ) : Type 0 where
  pub turn : round quotient u v t e f ≡ again t' e'
  pub smaller : smallest_size u e' < smallest_size u e
  pub counts : k + 1 < 2 ^ 32
  pub countable : Countable u (k + 1) e'
  pub table : all_in_limit t' ≡ true
  pub equation : all_in_limit e' ≡ true
  pub ready : (q : List ℤ) → length q ≡ length e → ReadyLists u v t' e' q

module _ {u v : ℕ} {t e q : List ℤ} (R : ReadyLists u v t e q) (k f : ℕ) (c : Countable u k e) where
  pub round_goes : {t' e' : List ℤ} → round quotient u v t e f ≡ again t' e' → GoingOn u v t e k f t' e'
  round_goes {t'} {e'} r =
      let m = again_remains rounded_down u v t e f r in
      let h = again_tabled quotient u v (length e) t e f refl R.rows r in
      let g = m.limited R.equation in
      record {
        turn = r;
        smaller = m.smaller;
        counts = omega arith;
        countable = omega arith;
        table = h.limited;
        equation = g;
        ready = λ p l. record { table = h.limited; equation = g; columns = omega arith; word = R.word; rows = rw m.long h.long; room = omega arith };
      }

  -- One that solves has picked an unknown, so that it can be counted.
  abbrev Counts : Turn → Type 0
  Counts (holds t') = Unit {0}
  Counts (solved t' f') = k + 1 < 2 ^ 32
  Counts (again t' e') = Unit {0}
  Counts clash = Unit {0}
  Counts wide = Unit {0}

  pub round_counts : {t' : List ℤ} {f' : ℕ} → round quotient u v t e f ≡ solved t' f' → k + 1 < 2 ^ 32
  round_counts r =
      subst Counts r
      (round_ind quotient u v (length e) t f Counts e (λ _ _. tt) (λ _ _. tt)
      (λ j p. turn_ind quotient u v (length e) t f Counts (upright e j) j (length_upright e j)
      (record { solves = λ _ _ _. omega (arith, p.some, p.size); clashes = λ _ _. tt; goes_on = λ _ _. tt; widens = tt })))
