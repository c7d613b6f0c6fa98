-- Equations more, and the start: for any set of assignments that a table stands for.
use Rattle.std.specs.Prelude.{◌≡◌, refl, List, [], ℤ, pos}
use Rattle.std.proofs.Common.{◌∙◌, ap, arith}
use Prim.Native.Nat.{ℕ, suc, ◌+◌, ◌≤◌, ◌<◌}
use Rattle.whole.specs.Cases.{by_less}
use Rattle.whole.specs.Word.{first_set}
use Rattle.row.specs.Row.{at, dot}
use Rattle.row.specs.Table.{start, Rows}
use Rattle.row.specs.Values.{none_dot}
use Rattle.row.specs.Tables.{values_start}
use Rattle.elimination_rules.specs.Kept.{start_kept}
use Rattle.elimination_rules.specs.Yield.{yield, yield_row, yield_past}
use Rattle.elimination_rules.specs.Moves.{Stands}
use Rattle.elimination_rules.specs.Course.{None}

-- "It starts with unknown j equal to itself": every assignment.
pub start_stands : (u v w : ℕ) → v ≤ w → Stands u v w (λ x. Unit {0}) (start w v) [] (first_set v)
start_stands u v w vw = record {
  kept = start_kept u v w vw;
  off = λ i a b. refl;
  solves = λ z _. tt;
  back = λ x. x;
  keeps = λ x i _. refl;
  zero_at = λ x _. none_dot x;
  found = λ x _. itself x;
  agrees = λ z i _. itself z i;
}
  where
    itself : (x : List ℤ) (i : ℕ) → at (yield w v (start w v) x) i ≡ at x i
    itself x i =
        by_less i v (λ h. yield_row w v (start w v) x i h ∙ values_start w 0 v i x (omega arith) h ∙ ap (at x) (omega arith))
        (λ h. yield_past w v (start w v) x i h)

-- One equation more.
abbrev pub With : (List ℤ → Type 0) → List ℤ → List ℤ → Type 0
With S e x = S x × (dot e x ≡ pos 0)

-- m equations more.
abbrev pub WithAll : (List ℤ → Type 0) → ℕ → ℕ → List ℤ → List ℤ → Type 0
WithAll S w m es x = S x × Rows (λ e. dot e x ≡ pos 0) w m es

-- The equations before number n have a table that stands for them, and with it there is a constant column that has none.
pub record Clash (u v w : ℕ) (S : List ℤ → Type 0) (m i : ℕ) (es : List ℤ) (place : ℕ) : Type 0 where
  pub nth : ℕ
  pub among : nth < m
  pub is_place : place ≡ i + nth
  pub table : List ℤ
  pub word : ℕ
  pub before : Stands u v w (WithAll S w nth es) table [] word
  pub none : None u w (WithAll S w (suc nth) es)
