-- What the work on a formed sheet keeps: the table, the count of rounds, the limit. And its fuel is never short.
use Rattle.std.specs.Prelude.{◌≡◌, ◌≢◌, true, length, ℤ}
use Rattle.std.proofs.Common.{ap, arith}
use Rattle.std.proofs.Math.Path.{subst}
use mathlib.Core.List.{List, [], ◌∷◌}
use Prim.Native.Nat.{ℕ, zero, suc, ◌+◌, ◌*◌, ◌≤◌, ◌<◌}
use Rattle.whole.specs.Cases.{by_less}
use Rattle.whole.specs.Division.{quotient}
use Rattle.whole.proofs.Division.{rounded_down}
use Rattle.whole.specs.Word.{first_set, count, count_first}
use Rattle.row.specs.Row.{all_in_limit}
use Rattle.row.specs.Judged.{judged_ind}
use Rattle.row.specs.Table.{start}
use Rattle.elimination_rules.specs.Equation.{Outcome, done, clashed, widened, spent, one, Verdict, accepted, clash_at, wide_at, spent_all, on_outcome}
use Rattle.elimination_rules.specs.Call.{fuel}
use Rattle.elimination_rules.specs.Kept.{start_kept}
use Rattle.elimination_rules.specs.Count.{Counted, OutcomeKept}
use Rattle.elimination_rules.proofs.Count.{one_outcome}
use Rattle.elimination_rules.specs.Fuel.{Ended}
use Rattle.elimination_rules.proofs.Fuel.{one_ended}
use Rattle.elimination_rules.proofs.Fold.{OutcomeKeeps}
use Rattle.sheet_rules.specs.Shape.{Shape}
use Rattle.sheet_rules.specs.Lines.{unit_at, equations_at}
use Rattle.sheet_rules.specs.Work.{on_done, equations, line_outcome, work, solved}
use Rattle.sheet_rules.specs.Formed.{Formed}
use Rattle.sheet_rules.specs.UnitRows.{Each, each_map}
use Rattle.sheet_rules.proofs.UnitRows.{equations_fit}
use Rattle.sheet_rules.specs.WorkKept.{TableKept}

-- ---- by induction: Q holds of the state before line i, C of a clash at line i, X of fuel that ran out
module _ (sh : Shape) (s : List ℕ) where
  -- A line within the limit comes to what its equations come to.
  pub line_ind : (i : ℕ) (t : List ℤ) (k f : ℕ) (P : Outcome → Type 0)
      → (all_in_limit (unit_at sh s i) ≡ true → P (equations sh (equations_at sh s i) t k f)) → P widened → P (line_outcome sh s i t k f)
  unfolding line_outcome
  line_ind i t k f P = judged_ind widened (λ _. equations sh (equations_at sh s i) t k f) (unit_at sh s i) P

  module _ (Q : ℕ → List ℤ → ℕ → ℕ → Type 0) (C : ℕ → Type 0) (X : Type 0) where
    abbrev pub LineKeeps : ℕ → Outcome → Type 0
    LineKeeps i (done t k f) = Q (i + 1) t k f
    LineKeeps i clashed = C i
    LineKeeps i widened = Unit {0}
    LineKeeps i spent = X

    abbrev pub WorkKeeps : Verdict → Type 0
    WorkKeeps (accepted t k f) = Q sh.lines t k f
    WorkKeeps (clash_at i) = C i
    WorkKeeps (wide_at i) = Unit {0}
    WorkKeeps spent_all = X

    on_outcome_lem : (go : List ℤ → ℕ → ℕ → Verdict) (i : ℕ) → ((t : List ℤ) (k f : ℕ) → Q (i + 1) t k f → WorkKeeps (go t k f))
        → (o : Outcome) → LineKeeps i o → WorkKeeps (on_outcome go i o)
    on_outcome_lem go i h (done t k f) g = h t k f g
    on_outcome_lem go i h clashed g = g
    on_outcome_lem go i h widened g = tt
    on_outcome_lem go i h spent g = g

    module _ (step : (i : ℕ) (t : List ℤ) (k f : ℕ) → i < sh.lines → Q i t k f → LineKeeps i (line_outcome sh s i t k f)) where
      pub work_ind : (m i : ℕ) → i + m ≡ sh.lines → (t : List ℤ) (k f : ℕ) → Q i t k f → WorkKeeps (work sh s m i t k f)
      unfolding work
      work_ind zero i e t k f q = subst (λ n. Q n t k f) (omega arith) q
      work_ind (suc m) i e t k f q =
          on_outcome_lem (λ t' k' f'. work sh s m (i + 1) t' k' f') i (λ t' k' f' q'. work_ind m (i + 1) (omega arith) t' k' f' q')
          (line_outcome sh s i t k f) (step i t k f (omega arith) q)

      pub solved_ind : Q 0 (start sh.columns sh.unknowns) 0 (first_set sh.unknowns) → WorkKeeps (solved sh s)
      solved_ind q = work_ind sh.lines 0 (omega arith) (start sh.columns sh.unknowns) 0 (first_set sh.unknowns) q

-- ---- what every equation keeps, those of a line keep
module _ (sh : Shape) (Q : List ℤ → ℕ → ℕ → Type 0) (X : Type 0)
    (keeps : (t e : List ℤ) (k f : ℕ) → length e ≡ sh.columns → Q t k f → OutcomeKeeps Q X (one quotient fuel sh.unknown_columns sh.unknowns t e k f)) where
  on_done_lem : (go : List ℤ → ℕ → ℕ → Outcome) → ((t : List ℤ) (k f : ℕ) → Q t k f → OutcomeKeeps Q X (go t k f))
      → (o : Outcome) → OutcomeKeeps Q X o → OutcomeKeeps Q X (on_done go o)
  on_done_lem go h (done t k f) g = h t k f g
  on_done_lem go h clashed g = tt
  on_done_lem go h widened g = tt
  on_done_lem go h spent g = g

  equations_keep : (es : List (List ℤ)) → Each (λ e. length e ≡ sh.columns) es → (t : List ℤ) (k f : ℕ) → Q t k f → OutcomeKeeps Q X (equations sh es t k f)
  unfolding equations
  equations_keep [] l t k f q = q
  equations_keep (e ∷ es) l t k f q =
      on_done_lem (λ t' k' f'. equations sh es t' k' f') (λ t' k' f' q'. equations_keep es l.1 t' k' f' q')
      (one quotient fuel sh.unknown_columns sh.unknowns t e k f) (keeps t e k f l.0 q)

-- ---- the table and the count
-- After n lines: their units are within the limit, the table is kept, and the rounds are at most the fuel for each unknown that is
-- free no longer.
pub record LinesKept (sh : Shape) (s : List ℕ) (n : ℕ) (t : List ℤ) (k f : ℕ) : Type 0 where
  pub units : (i : ℕ) → i < n → all_in_limit (unit_at sh s i) ≡ true
  pub kept : TableKept sh t f
  pub rounds : k + fuel * count sh.unknowns f ≤ fuel * sh.unknowns

module _ (sh : Shape) (s : List ℕ) (F : Formed sh s) where
  -- Kept, and within a bound on the rounds.
  abbrev Within : ℕ → List ℤ → ℕ → ℕ → Type 0
  Within b t k f = TableKept sh t f × (k + fuel * count sh.unknowns f ≤ b)

  one_within : (b : ℕ) (t e : List ℤ) (k f : ℕ) → length e ≡ sh.columns → Within b t k f
      → OutcomeKeeps (Within b) ⊥ (one quotient fuel sh.unknown_columns sh.unknowns t e k f)
  one_within b t e k f le g =
      by (one quotient fuel u v t e k f)
      (one_outcome rounded_down fuel u v sh.columns (omega (arith, F.laid)) (omega (arith, F.laid)) t e k f le g.0)
      (one_ended rounded_down u v fuel (omega arith) t e k f)
    where
      u : ℕ
      u = sh.unknown_columns

      v : ℕ
      v = sh.unknowns

      by : (o : Outcome) → OutcomeKept u v sh.columns fuel k f o → Ended o → OutcomeKeeps (Within b) ⊥ o
      by (done t' k' f') h _ = (h.0, omega (arith, h.1, g.1))
      by clashed h _ = tt
      by widened h _ = tt
      by spent h ended = ended

  line_within : (b i : ℕ) (t : List ℤ) (k f : ℕ) → i < sh.lines → Within b t k f → OutcomeKeeps (Within b) ⊥ (equations sh (equations_at sh s i) t k f)
  line_within b i t k f h g =
      let es = equations_at sh s i in
      equations_keep sh (Within b) ⊥ (one_within b) es (each_map (λ r x. x.long) es (equations_fit sh s F i h)) t k f g

  module _ (i : ℕ) (t : List ℤ) (k f : ℕ) (h : i < sh.lines) where
    pub line_kept : TableKept sh t f → {t' : List ℤ} {k' f' : ℕ} → line_outcome sh s i t k f ≡ done t' k' f'
        → TableKept sh t' f' × Counted sh.unknowns fuel k f k' f'
    line_kept g e =
        let b : ℕ = k + fuel * count sh.unknowns f in
        subst (OutcomeKeeps (Within b) ⊥) e (line_ind sh s i t k f (OutcomeKeeps (Within b) ⊥) (λ _. line_within b i t k f h (g, omega arith)) tt)

    abbrev Keeps : Outcome → Type 0
    Keeps o = LineKeeps sh s (LinesKept sh s) (λ _. Unit {0}) ⊥ i o

    line_keeps : LinesKept sh s i t k f → Keeps (line_outcome sh s i t k f)
    line_keeps g =
        line_ind sh s i t k f Keeps
        (λ l. by l (equations sh (equations_at sh s i) t k f) (line_within (fuel * sh.unknowns) i t k f h (g.kept, g.rounds))) tt
      where
        by : all_in_limit (unit_at sh s i) ≡ true → (o : Outcome) → OutcomeKeeps (Within (fuel * sh.unknowns)) ⊥ o → Keeps o
        by l (done t' k' f') q = record {
          units = λ j x. by_less j i (λ y. g.units j y) (λ y. let z : j ≡ i = omega arith in rw z l);
          kept = q.0;
          rounds = q.1;
        }
        by l clashed q = tt
        by l widened q = tt
        by l spent q = q

    -- One line more.
    pub line_more : LinesKept sh s i t k f → {t' : List ℤ} {k' f' : ℕ} → line_outcome sh s i t k f ≡ done t' k' f' → LinesKept sh s (i + 1) t' k' f'
    line_more g e = subst Keeps e (line_keeps g)

  pub start_kept_lines : LinesKept sh s 0 (start sh.columns sh.unknowns) 0 (first_set sh.unknowns)
  start_kept_lines = record {
    units = λ i h. absurd (omega arith);
    kept = start_kept sh.unknown_columns sh.unknowns sh.columns (omega (arith, F.laid));
    rounds = omega (arith, ap (λ n. fuel * n) (count_first sh.unknowns));
  }

  abbrev AllKept : Verdict → Type 0
  AllKept a = WorkKeeps sh s (LinesKept sh s) (λ _. Unit {0}) ⊥ a

  all_kept : AllKept (solved sh s)
  all_kept = solved_ind sh s (LinesKept sh s) (λ _. Unit {0}) ⊥ line_keeps start_kept_lines

  -- An accepted sheet.
  pub solved_kept : {t : List ℤ} {k f : ℕ} → solved sh s ≡ accepted t k f → LinesKept sh s sh.lines t k f
  solved_kept e = subst AllKept e all_kept

  -- The fuel is never short.
  pub solved_ends : solved sh s ≢ spent_all
  solved_ends e = subst AllKept e all_kept
