-- The elimination keeps its promise.
use Rattle.std.specs.Prelude.{◌≡◌, List, [], ℕ, suc, ◌+◌, ◌*◌, ◌≤◌, length, ℤ, pos}
use Rattle.std.proofs.Common.{sym, ◌∙◌, ap, subst, arith}
use Rattle.whole.specs.Division.{Division}
use Rattle.whole.specs.Word.{first_set, count, count_first}
use Rattle.row.specs.Row.{dot}
use Rattle.row.specs.Table.{start, Rows}
use Rattle.row.specs.Tables.{rows_both, rows_fewer}
use Rattle.elimination_rules.specs.Equation.{Verdict, accepted, clash_at, wide_at, spent_all, eliminate}
use Rattle.elimination_rules.specs.General.{Gap, val, values, Holds, Column, Clashing, Promise}
use Rattle.elimination_rules.specs.Kept.{start_kept}
use Rattle.elimination_rules.specs.Moves.{Stands}
use Rattle.elimination_rules.specs.Fold.{WithAll, Clash, start_stands}
use Rattle.elimination_rules.proofs.Fold.{VerdictStands, each_stands}
use Rattle.elimination_rules.proofs.Rounds.{each_kept}
use Rattle.elimination_rules.specs.Columns.{whole, constant_whole, val_whole, stands_column, column_for}

-- Every assignment.
abbrev Any : List ℤ → Type 0
Any x = Unit {0}

module _ (u v w : ℕ) (vu : v ≤ u) where
  module _ (c : ℕ) (uc : u ≤ c) (m : ℕ) (es a : List ℤ) (g : Rows (Gap u v) w m es) where
    to_holds : WithAll Any w m es (whole u v c a) → Holds u c w m es a
    to_holds s = rows_both (Gap u v) (λ e. dot e (whole u v c a) ≡ pos 0) (λ e. val u c e a ≡ pos 0) (λ e h z. sym (val_whole u v c e a vu uc h) ∙ z) w m es g s.1

    from_holds : Holds u c w m es a → WithAll Any w m es (whole u v c a)
    from_holds s = (tt, rows_both (Gap u v) (λ e. val u c e a ≡ pos 0) (λ e. dot e (whole u v c a) ≡ pos 0) (λ e h z. val_whole u v c e a vu uc h ∙ z) w m es g s)

  column_is : (c m : ℕ) (es t : List ℤ) (f : ℕ) → u ≤ c → Rows (Gap u v) w m es → Stands u v w (WithAll Any w m es) t [] f → Column u v w (Holds u c w m es) t f c
  column_is c m es t f uc g s =
      column_for (Holds u c w m es) (λ a. to_holds c uc m es a g) (λ a. from_holds c uc m es a g) (stands_column u v w c vu uc (WithAll Any w m es) t f s)

  clashing : (m : ℕ) (es : List ℤ) (p : ℕ) → Rows (Gap u v) w m es → Clash u v w Any m 0 es p → Clashing u w m es p
  clashing m es p g k =
      let n = k.none in
      subst (Clashing u w m es) (sym (k.is_place ∙ omega arith)) (record {
        among = k.among;
        before = λ c. values u c w v k.table [];
        before_holds = λ c uc _.
            (column_is c k.nth es k.table k.word uc (rows_fewer (Gap u v) w m k.nth es (omega (arith, k.among)) g) k.before).solves [];
        at_column = n.at_column;
        from = n.from;
        to = n.to;
        none = λ a h. n.none (whole u v n.at_column a) (constant_whole u v n.at_column vu a)
            (from_holds n.at_column n.from (suc k.nth) es a (rows_fewer (Gap u v) w m (suc k.nth) es (omega (arith, k.among)) g) h);
      })

-- For every division whose remainders are smaller than the divisor, any number of columns, unknowns and equations, and any fuel.
pub elimination_is : {quo : ℤ → ℤ → ℤ} → Division quo → (n u v w m : ℕ) (es : List ℤ) → v ≤ u → u ≤ w → length es ≡ m * w → Rows (Gap u v) w m es
    → Promise u v w m es (eliminate quo n u v w m es)
elimination_is {quo} d n u v w m es vu uw l g =
    by (eliminate quo n u v w m es) (each_stands d n u v w vu uw Any m 0 es (start w v) 0 (first_set v) l g (start_stands u v w (omega arith)))
  where
    by : (a : Verdict) → VerdictStands d n u v w vu uw Any m 0 es a → Promise u v w m es a
    by (accepted t k f) s = record { kept = s.kept; column = λ c uc _. column_is u v w vu c m es t f uc g s }
    by (clash_at p) k = clashing u v w vu m es p g k
    by (wide_at p) k = tt
    by spent_all k = tt

-- At most the fuel for each unknown that is free no longer.
pub rounds_fit : {quo : ℤ → ℤ → ℤ} → Division quo → (n u v w m : ℕ) (es : List ℤ) → v ≤ u → u ≤ w → length es ≡ m * w
    → {t : List ℤ} {k f : ℕ} → eliminate quo n u v w m es ≡ accepted t k f → k + n * count v f ≤ n * v
rounds_fit d n u v w m es vu uw l h =
    omega (arith, (each_kept d n u v w (omega arith) uw m 0 es (start w v) 0 (first_set v) l (start_kept u v w (omega arith)) h).1, ap (λ c. n * c) (count_first v))
