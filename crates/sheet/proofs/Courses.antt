-- Laws of the work on a sheet: what a line comes to, and a loop over the lines.
use mathlib.Core.Path.{◌≡◌, refl, ◌∙◌, ap}
use mathlib.Core.List.{List, [], ◌∷◌, map}
use Prim.Native.Nat.{ℕ, suc, ◌+◌, ◌-◌, ◌≤◌, ◌<◌}
use native.Mathlib.Nat.{sub-zero}
use native.Mathlib.Omega.{arith}
use lib.IntN.{ℤ}
use lib.ListN.{length}
use Rattle.std.specs.Prelude.{Result, Ok, Err}
use Rattle.std.specs.Result.{IsErrAnd}
use Rattle.whole.specs.Cases.{by_test}
use Rattle.whole.specs.Division.{quotient}
use Rattle.whole.specs.Word.{first_set}
use Rattle.row.specs.Row.{all_in_limit}
use Rattle.row.specs.Judged.{Judged, good, wide, judged, on_judged}
use Rattle.row.specs.Table.{start}
use Rattle.elimination_rules.specs.Equation.{Outcome, done, clashed, widened, spent, one, on_outcome, accepted, clash_at, wide_at}
use Rattle.elimination_rules.specs.Call.{fuel}
use Rattle.elimination.specs.declared.progress.Progress.{Progress}
use Rattle.elimination.specs.declared.progress.Stop as Why
use Rattle.elimination.specs.declared.progress.Stopped.{Stopped}
use Rattle.elimination.specs.declared.room.Elimination.{Elimination}
use Rattle.elimination.specs.Room.{Placed}
use Rattle.elimination.specs.Views.{outcome_of, verdict_of}
use Rattle.elimination.proofs.Courses.{room_again, one_wide}
use Rattle.sheet_rules.specs.Shape.{Shape}
use Rattle.sheet_rules.specs.Lines.{unit_at, equations_at}
use Rattle.sheet_rules.specs.Work.{on_done, equations, line_outcome, work, solved}
use Rattle.sheet_rules.specs.Formed.{Formed}
use Rattle.sheet_rules.proofs.WorkKept.{start_kept_lines, line_kept}
use Rattle.sheet.specs.Store.{Stored}
use Rattle.sheet.specs.Working.{Roomy, Stepping}
use Rattle.sheet.specs.Rooms.{SameWork}
use Rattle.sheet.specs.declared.room.Work.{Work}

-- ---- the equations of a line, of which there is one at the most
last_done : (o : Outcome) → on_done done o ≡ o
last_done (done t k f) = refl
last_done clashed = refl
last_done widened = refl
last_done spent = refl

module _ (sh : Shape) (t : List ℤ) (k f : ℕ) where
  abbrev solve : List ℤ → Outcome
  solve e = one quotient fuel sh.unknown_columns sh.unknowns t e k f

  one_judged : (e : List ℤ) → solve e ≡ on_judged widened solve (judged e)
  one_judged e = by_test (all_in_limit e) (λ h. rw h) (λ h. rw h (one_wide _ _ t e k f h))

  none_come : (es : List (List ℤ)) → map judged es ≡ [] → equations sh es t k f ≡ done t k f
  unfolding equations
  none_come [] e = refl
  none_come (x ∷ es) e = cc

  one_comes : (es : List (List ℤ)) (j : Judged) → map judged es ≡ j ∷ [] → equations sh es t k f ≡ on_judged widened solve j
  unfolding equations
  one_comes [] j e = cc
  one_comes (x ∷ []) j e = let is : judged x ≡ j = cc in last_done (solve x) ∙ one_judged x ∙ ap (on_judged widened solve) is
  one_comes (x ∷ (y ∷ es)) j e = cc

-- A line that is done has its unit in the store.
abbrev pub StoredIf : Shape → List ℕ → ℕ → Result Progress Why.Stop → List ℤ → Type 0
StoredIf sh s k (Ok p) store = Stored sh s (k + 1) store
StoredIf sh s k (Err why) store = Unit {0}

stored_if : {sh : Shape} {s : List ℕ} {store : List ℤ} (i : ℕ) (r : Result Progress Why.Stop) → Stored sh s (i + 1) store → StoredIf sh s i r store
stored_if i (Ok p) h = h
stored_if i (Err why) h = tt

-- ---- one line
module _ (sh : Shape) (s : List ℕ) (i : ℕ) (t : List ℤ) (k f : ℕ) where
  pub unit_wide : judged (unit_at sh s i) ≡ wide → line_outcome sh s i t k f ≡ widened
  unfolding line_outcome
  unit_wide u = rw u

  module _ {r : List ℤ} (u : judged (unit_at sh s i) ≡ good r) where
    unit_good : (o : Result Progress Why.Stop) (t' : List ℤ) → equations sh (equations_at sh s i) t k f ≡ outcome_of o t' → line_outcome sh s i t k f ≡ outcome_of o t'
    unfolding line_outcome
    unit_good o t' e = rw u e

    pub no_equation : map judged (equations_at sh s i) ≡ [] → line_outcome sh s i t k f ≡ done t k f
    unfolding line_outcome
    no_equation h = rw u (none_come sh t k f _ h)

    pub one_equation : (j : Judged) → map judged (equations_at sh s i) ≡ j ∷ [] → line_outcome sh s i t k f ≡ on_judged widened (solve sh t k f) j
    unfolding line_outcome
    one_equation j h = rw u (one_comes sh t k f _ j h)

    pub equation_wide : map judged (equations_at sh s i) ≡ wide ∷ [] → line_outcome sh s i t k f ≡ widened
    equation_wide h = one_equation wide h

    pub equation_solved : {e : List ℤ} (o : Result Progress Why.Stop) (t' : List ℤ) → map judged (equations_at sh s i) ≡ good e ∷ []
        → one quotient fuel sh.unknown_columns sh.unknowns t e k f ≡ outcome_of o t' → line_outcome sh s i t k f ≡ outcome_of o t'
    equation_solved {e} o t' h a = unit_good o t' (one_comes sh t k f _ (good e) h ∙ a)

-- The rounds still fit.
pub line_placed : {sh : Shape} {s : List ℕ} {p : Progress} {x : Elimination} {row other : List ℤ} (e : List ℤ) → Formed sh s → Stepping sh p x.table.now
    → Roomy sh x row other → length e ≡ length row → Placed x e p.rounds
line_placed e F P R l =
    record {
      table = P.kept.limit;
      unknowns = omega (arith, R.unknowns, R.unknown_columns, F.laid);
      sums = omega (arith, R.sums_room, R.equation_room);
      long = omega (arith, R.row_room, R.equation_room);
      count = omega (arith, P.counted, F.laid);
    }

-- ---- the lines in order: i are behind, and the table is t
pub record Lining (sh : Shape) (s : List ℕ) (i : ℕ) (p : Progress) (t : List ℤ) : Type 0 where
  pub stepping : Stepping sh p t
  pub is : solved sh s ≡ work sh s (sh.lines - i) i t p.rounds p.free

pub lining_none : {sh : Shape} {s : List ℕ} {t : List ℤ} → Formed sh s → t ≡ start sh.columns sh.unknowns → Lining sh s 0 (record { rounds = 0; free = first_set sh.unknowns }) t
lining_none {sh} {s} F begins =
    record {
      stepping = record { kept = rw begins (start_kept_lines sh s F).kept; counted = (start_kept_lines sh s F).rounds };
      is = rw (sub-zero, begins);
    }

module _ {sh : Shape} {s : List ℕ} {i : ℕ} {p : Progress} {t : List ℤ} (L : Lining sh s i p t) where
  pub lining_end : sh.lines ≤ i → solved sh s ≡ accepted t p.rounds p.free
  unfolding work
  lining_end h = let z : sh.lines - i ≡ 0 = omega arith in rw z at L.is

  module _ (h : i < sh.lines) where
    next : {o : Outcome} → line_outcome sh s i t p.rounds p.free ≡ o → solved sh s ≡ on_outcome (λ t k f. work sh s (sh.lines - (i + 1)) (i + 1) t k f) i o
    unfolding work
    next e = let d : sh.lines - i ≡ suc (sh.lines - (i + 1)) = omega arith in rw e at (rw d at L.is)

    pub lining_clash : line_outcome sh s i t p.rounds p.free ≡ clashed → solved sh s ≡ clash_at i
    lining_clash e = next e

    pub lining_wide : line_outcome sh s i t p.rounds p.free ≡ widened → solved sh s ≡ wide_at i
    lining_wide e = next e

    -- Line i ended the work, and the code says so.
    pub lining_stop : (why : Why.Stop) (t' : List ℤ) → line_outcome sh s i t p.rounds p.free ≡ outcome_of (Err why) t' → (d : Stopped) → d ≡ record { why = why; at = i }
        → (r : Result Progress Stopped) → IsErrAnd r (λ x. x ≡ d) → solved sh s ≡ verdict_of r t'
    lining_stop Why.TheVariants.Clash t' e d d' (Err x) x' = rw (x', d') (next e)
    lining_stop Why.TheVariants.Wide t' e d d' (Err x) x' = rw (x', d') (next e)
    lining_stop why t' e d d' (Ok q) x' = absurd x'

    pub lining_more : Formed sh s → {t' : List ℤ} {q : Progress} → line_outcome sh s i t p.rounds p.free ≡ outcome_of (Ok q) t' → Lining sh s (i + 1) q t'
    lining_more F e =
        let P = L.stepping in
        let n = line_kept sh s F i t p.rounds p.free h P.kept e in
        record { stepping = record { kept = n.0; counted = omega (arith, n.1, P.counted) }; is = next e }

-- What two steps keep, both keep.
pub work_again : {w x y : Work} → SameWork w x → SameWork x y → SameWork w y
work_again A B =
    record {
      sheet = B.sheet ∙ A.sheet;
      store_room = B.store_room ∙ A.store_room;
      store = B.store ∙ A.store;
      elimination = room_again A.elimination B.elimination;
      row = B.row ∙ A.row;
      other = B.other ∙ A.other;
    }
