-- An equation replaced and solved, the equations in order, and the start: for any set of assignments that a table stands for.
use Rattle.std.specs.Prelude.{◌≡◌, List, [], length, take, drop, ℤ}
use Rattle.std.proofs.Common.{subst, arith}
use Prim.Native.Nat.{ℕ, zero, suc, ◌+◌, ◌*◌, ◌≤◌}
use Rattle.whole.specs.Division.{Division}
use Rattle.row.specs.Table.{replaced, Rows}
use Rattle.row.specs.Tables.{long_take, long_drop}
use Rattle.elimination_rules.specs.Equation.{Outcome, done, clashed, widened, spent, one, Verdict, accepted, clash_at, wide_at, spent_all, on_outcome, each}
use Rattle.elimination_rules.specs.General.{Gap}
use Rattle.elimination_rules.proofs.Ways.{one_ind}
use Rattle.elimination_rules.specs.Kept.{replaced_long, replaced_off}
use Rattle.elimination_rules.specs.Moves.{Stands, more_stands, stands_for}
use Rattle.elimination_rules.specs.Course.{None}
use Rattle.elimination_rules.proofs.Course.{OutcomeStands, solve_stands}
use Rattle.elimination_rules.specs.Replace.{replaced_value}
use Rattle.elimination_rules.specs.Fold.{With, WithAll, Clash}

none_for : {u w : ℕ} {S : List ℤ → Type 0} (S' : List ℤ → Type 0) → ((x : List ℤ) → S' x → S x) → None u w S → None u w S'
none_for S' h n = record { at_column = n.at_column; from = n.from; to = n.to; none = λ x k y. n.none x k (h x y) }

module _ {quo : ℤ → ℤ → ℤ} (d : Division quo) (n u v w : ℕ) (vu : v ≤ u) (uw : u ≤ w) where
  -- ---- one equation
  module _ (S : List ℤ → Type 0) (t e : List ℤ) (k f : ℕ) (le : length e ≡ w) (g : Gap u v e) (s : Stands u v w S t [] f) where
    one_outcome : OutcomeStands u v w vu (With S e) d (one quo n u v t e k f)
    one_outcome =
        one_ind quo n u v t e k f (OutcomeStands u v w vu (With S e) d)
        (λ _. solve_stands u v w vu (With S e) d n t (replaced u v t e) k f (replaced_long u v w t e le (omega arith) uw s.kept.long)
        (more_stands e (replaced u v t e) (λ z. replaced_value u v w t e z vu (omega arith) le s.kept.long g)
        (replaced_off u v w t e f le (omega arith) s.kept) s)) tt

    pub one_stands : {t' : List ℤ} {k' f' : ℕ} → one quo n u v t e k f ≡ done t' k' f' → Stands u v w (With S e) t' [] f'
    one_stands h = subst (OutcomeStands u v w vu (With S e) d) h one_outcome

    pub one_clash : one quo n u v t e k f ≡ clashed → None u w (With S e)
    one_clash h = subst (OutcomeStands u v w vu (With S e) d) h one_outcome

  -- ---- the equations in order
  abbrev pub VerdictStands : (List ℤ → Type 0) → ℕ → ℕ → List ℤ → Verdict → Type 0
  VerdictStands S m i es (accepted t k f) = Stands u v w (WithAll S w m es) t [] f
  VerdictStands S m i es (clash_at p) = Clash u v w S m i es p
  VerdictStands S m i es (wide_at p) = Unit {0}
  VerdictStands S m i es spent_all = Unit {0}

  first : (S : List ℤ → Type 0) (m i : ℕ) (es t : List ℤ) (f : ℕ) → Stands u v w S t [] f → None u w (With S (take w es)) → Clash u v w S (suc m) i es i
  first S m i es t f s h = record {
    nth = 0;
    among = omega arith;
    is_place = omega arith;
    table = t;
    word = f;
    before = stands_for (WithAll S w 0 es) (λ x y. (y, tt)) (λ x y. y.0) s;
    none = none_for (WithAll S w 1 es) (λ x y. (y.0, y.1.0)) h;
  }

  -- The first equation and the others.
  joined : (S : List ℤ → Type 0) (m : ℕ) (es x : List ℤ) → WithAll (With S (take w es)) w m (drop w es) x → WithAll S w (suc m) es x
  joined S m es x y = (y.0.0, (y.0.1, y.1))

  parted : (S : List ℤ → Type 0) (m : ℕ) (es x : List ℤ) → WithAll S w (suc m) es x → WithAll (With S (take w es)) w m (drop w es) x
  parted S m es x y = ((y.0, y.1.0), y.1.1)

  later : (S : List ℤ → Type 0) (m i : ℕ) (es : List ℤ) (a : Verdict) → VerdictStands (With S (take w es)) m (i + 1) (drop w es) a → VerdictStands S (suc m) i es a
  later S m i es (accepted t k f) s = stands_for (WithAll S w (suc m) es) (joined S m es) (parted S m es) s
  later S m i es (clash_at p) c = record {
    nth = suc c.nth;
    among = omega (arith, c.among);
    is_place = omega (arith, c.is_place);
    table = c.table;
    word = c.word;
    before = stands_for (WithAll S w (suc c.nth) es) (joined S c.nth es) (parted S c.nth es) c.before;
    none = none_for (WithAll S w (suc (suc c.nth)) es) (parted S (suc c.nth) es) c.none;
  }
  later S m i es (wide_at p) c = tt
  later S m i es spent_all c = tt

  on_outcome_lem : (S : List ℤ → Type 0) (m i : ℕ) (es t : List ℤ) (f : ℕ) (go : List ℤ → ℕ → ℕ → Verdict) → Stands u v w S t [] f
      → ((t' : List ℤ) (k' f' : ℕ) → Stands u v w (With S (take w es)) t' [] f' → VerdictStands (With S (take w es)) m (i + 1) (drop w es) (go t' k' f'))
      → (o : Outcome) → OutcomeStands u v w vu (With S (take w es)) d o → VerdictStands S (suc m) i es (on_outcome go i o)
  on_outcome_lem S m i es t f go s h (done t' k' f') g = later S m i es (go t' k' f') (h t' k' f' g)
  on_outcome_lem S m i es t f go s h clashed g = first S m i es t f s g
  on_outcome_lem S m i es t f go s h widened g = tt
  on_outcome_lem S m i es t f go s h spent g = tt

  pub each_stands : (S : List ℤ → Type 0) (m i : ℕ) (es t : List ℤ) (k f : ℕ) → length es ≡ m * w → Rows (Gap u v) w m es → Stands u v w S t [] f
      → VerdictStands S m i es (each quo n u v w m i es t k f)
  unfolding each
  each_stands S zero i es t k f l g s = stands_for (WithAll S w 0 es) (λ x y. (y, tt)) (λ x y. y.0) s
  each_stands S (suc m) i es t k f l g s =
      on_outcome_lem S m i es t f (λ t' k' f'. each quo n u v w m (i + 1) (drop w es) t' k' f') s
      (λ t' k' f' s'. each_stands (With S (take w es)) m (i + 1) (drop w es) t' k' f' (long_drop w m es l) g.1 s')
      (one quo n u v t (take w es) k f) (one_outcome S t (take w es) k f (long_take w m es l) g.0 s)

-- ---- what every equation keeps, all of them keep; X is what running out of fuel would say
module _ (Q : List ℤ → ℕ → ℕ → Type 0) (X : Type 0) where
  abbrev pub OutcomeKeeps : Outcome → Type 0
  OutcomeKeeps (done t k f) = Q t k f
  OutcomeKeeps clashed = Unit {0}
  OutcomeKeeps widened = Unit {0}
  OutcomeKeeps spent = X

  abbrev pub VerdictKeeps : Verdict → Type 0
  VerdictKeeps (accepted t k f) = Q t k f
  VerdictKeeps (clash_at i) = Unit {0}
  VerdictKeeps (wide_at i) = Unit {0}
  VerdictKeeps spent_all = X

  outcome_keeps : (go : List ℤ → ℕ → ℕ → Verdict) (i : ℕ) → ((t : List ℤ) (k f : ℕ) → Q t k f → VerdictKeeps (go t k f))
      → (o : Outcome) → OutcomeKeeps o → VerdictKeeps (on_outcome go i o)
  outcome_keeps go i h (done t k f) g = h t k f g
  outcome_keeps go i h clashed g = tt
  outcome_keeps go i h widened g = tt
  outcome_keeps go i h spent g = g

  pub each_keeps : (quo : ℤ → ℤ → ℤ) (n u v w : ℕ) → ((t e : List ℤ) (k f : ℕ) → length e ≡ w → Q t k f → OutcomeKeeps (one quo n u v t e k f))
      → (m i : ℕ) (es t : List ℤ) (k f : ℕ) → length es ≡ m * w → Q t k f → VerdictKeeps (each quo n u v w m i es t k f)
  unfolding each
  each_keeps quo n u v w h zero i es t k f l g = g
  each_keeps quo n u v w h (suc m) i es t k f l g =
      outcome_keeps (λ t' k' f'. each quo n u v w m (i + 1) (drop w es) t' k' f') i
      (λ t' k' f' g'. each_keeps quo n u v w h m (i + 1) (drop w es) t' k' f' (long_drop w m es l) g')
      (one quo n u v t (take w es) k f) (h t (take w es) k f (long_take w m es l) g)
