-- The course of an equation and of equations in order: what they come to, by how each step went.
use mathlib.Core.Path.{◌≡◌, refl, sym, ap, ◌∙◌}
use mathlib.Core.Bool.{true, false}
use mathlib.Core.List.{List}
use Prim.Native.Nat.{ℕ, zero, suc, ◌+◌, ◌-◌, ◌*◌, ◌/◌, ◌%◌, ◌≤◌, ◌<◌, ◌^◌}
use native.Mathlib.Nat.{zero-add, sub-zero}
use native.Mathlib.Omega.{arith}
use borrow.Author.Tests.{leb-true, lt-ltb, le-ltb, eq-eqb, ne_eqb}
use lib.Dec.{ltb}
use lib.IntN.{ℤ, pos, nat_abs}
use lib.ListN.{length, take, drop, length-drop}
use lib.Seq.{drop-drop, length-take-le}
use Rattle.whole.specs.Cases.{if}
use Rattle.whole.specs.Division.{quotient}
use Rattle.whole.proofs.Division.{rounded_down}
use Rattle.whole.specs.Size.{limit, in_limit}
use Rattle.whole.specs.Word.{first_set, count, count_first}
use Rattle.row.specs.Row.{at, all_in_limit}
use Rattle.row.specs.Judged.{good, wide as past, judged}
use Rattle.row.specs.Smallest.{Pick, nothing, column, smallest, size_of}
use Rattle.row.specs.Smaller.{Least}
use Rattle.row.specs.Table.{replaced, start}
use Rattle.row.specs.Tables.{all_at}
use Rattle.std.specs.Prelude.{Result, Ok, Err}
use Rattle.row.proofs.Judging.{judged_ok}
use Rattle.row.proofs.RowLoops.{row_less}
use Rattle.elimination_rules.specs.Round.{Turn, solved, again, clash, wide, round}
use Rattle.elimination_rules.specs.Equation.{Outcome, done, clashed, widened, on_turn, solve, one, Verdict, accepted, clash_at, wide_at, on_outcome, each, eliminate}
use Rattle.elimination_rules.specs.Answer.{Answer, refuses}
use Rattle.whole.specs.Place.{Found, place, nowhere, on_found}
use Rattle.elimination_rules.specs.Call.{first_used, fuel, on_verdict, eliminated}
use Rattle.elimination_rules.specs.General.{Kept}
use Rattle.elimination_rules.specs.Zeros.{sized, in_length}
use Rattle.elimination_rules.specs.Upright.{least_unknown}
use Rattle.elimination_rules.specs.Kept.{start_kept}
use Rattle.elimination_rules.proofs.Count.{one_kept}
use Rattle.elimination.specs.Requires.{ReadyLists, Countable, smallest_size}
use Rattle.elimination.specs.Room.{SameRoom, Ready, Placed, Lined}
use Rattle.elimination.specs.Views.{turn_of, outcome_of, verdict_of}
use Rattle.std.specs.Result.{IsErrAnd, MatchResult}
use Rattle.elimination.specs.declared.progress.Progress.{Progress}
use Rattle.elimination.specs.declared.progress.Stop as Why
use Rattle.elimination.specs.declared.progress.Stopped.{Stopped}
use Rattle.elimination.specs.declared.refusal.Refusal.{Refusal}
use Rattle.elimination.specs.Refusals.{number_of, place_of}
use Rattle.elimination.specs.Heard.{answer_of}
use Rattle.elimination.specs.declared.room.Elimination.{Elimination}
use Rattle.elimination.proofs.Rounds.{ready_lists, GoingOn, round_goes, round_counts}

-- "more than any exponent's size"
pub fuel_enough : (u : ℕ) (e : List ℤ) → all_in_limit e ≡ true → smallest_size u e < fuel
fuel_enough u e h = by (smallest (take u e)) (least_unknown u e)
  where
    by : (b : Pick) → Least e u b → size_of b < fuel
    by nothing l = omega arith
    by (column j a) l =
        let s : 0 < nat_abs (at e j) = omega (arith, l.1, l.2) in
        omega (arith, l.1, leb-true (nat_abs (at e j)) limit (all_at in_limit (pos 0) e j h (in_length e j (sized (at e j) s))))

-- ---- the rounds of an equation
-- A round that ends them.
pub solve_ends : (u v : ℕ) (t e : List ℤ) (k f : ℕ) (a : Turn) (o : Outcome) → round quotient u v t e f ≡ a → ((go : List ℤ → List ℤ → Outcome) → on_turn go k f a ≡ o)
    → (n : ℕ) → smallest_size u e < n → solve quotient n u v t e k f ≡ o
unfolding solve
solve_ends u v t e k f a o r h zero l = absurd (omega arith)
solve_ends u v t e k f a o r h (suc n) l = rw r (h (λ t' e'. solve quotient n u v t' e' (k + 1) f))

-- A round that ends the work.
pub solve_stops : (u v : ℕ) (t e : List ℤ) (k f : ℕ) (t' e' : List ℤ) (s : Why.Stop) → round quotient u v t e f ≡ turn_of (Err s) t' e'
    → (r : Result Progress Why.Stop) → IsErrAnd r (λ x. x ≡ s) → (n : ℕ) → smallest_size u e < n → solve quotient n u v t e k f ≡ outcome_of r t'
solve_stops u v t e k f t' e' Why.TheVariants.Clash h (Err Why.TheVariants.Clash) x = solve_ends u v t e k f clash clashed h (λ go. refl)
solve_stops u v t e k f t' e' Why.TheVariants.Wide h (Err Why.TheVariants.Wide) x = solve_ends u v t e k f wide widened h (λ go. refl)
solve_stops u v t e k f t' e' Why.TheVariants.Clash h (Err Why.TheVariants.Wide) x = cc
solve_stops u v t e k f t' e' Why.TheVariants.Wide h (Err Why.TheVariants.Clash) x = cc
solve_stops u v t e k f t' e' s h (Ok p) x = absurd x

-- A round that goes on leaves an equation as it was, but smaller.
pub record Going (u v : ℕ) (t e : List ℤ) (k f : ℕ) (t' e' : List ℤ) : Type 0 where
  pub turn : round quotient u v t e f ≡ again t' e'
  pub smaller : smallest_size u e' < smallest_size u e
  pub counts : k + 1 < 2 ^ 32
  pub countable : Countable u (k + 1) e'
  pub table : all_in_limit t' ≡ true
  pub equation : all_in_limit e' ≡ true

pub goes : {u v : ℕ} {t e : List ℤ} {k f : ℕ} {t' e' : List ℤ} → GoingOn u v t e k f t' e' → Going u v t e k f t' e'
goes g = record { turn = g.turn; smaller = g.smaller; counts = g.counts; countable = g.countable; table = g.table; equation = g.equation }

pub solve_goes : {u v : ℕ} {t e : List ℤ} {k f : ℕ} {t' e' : List ℤ} (o : Outcome) → Going u v t e k f t' e'
    → ((n : ℕ) → smallest_size u e' < n → solve quotient n u v t' e' (k + 1) f ≡ o) → (n : ℕ) → smallest_size u e < n → solve quotient n u v t e k f ≡ o
unfolding solve
solve_goes o g h zero l = absurd (omega arith)
solve_goes o g h (suc n) l = rw g.turn (h n (omega arith))

-- What the rounds of an elimination leave.
module _ {s : Elimination} (R : Ready s) (k f : ℕ) (c : Countable s.unknown_columns k s.equation.now) where
  pub going_on : {t' e' : List ℤ} → round quotient s.unknown_columns s.unknowns s.table.now s.equation.now f ≡ again t' e' → GoingOn s.unknown_columns s.unknowns s.table.now s.equation.now k f t' e'
  going_on = round_goes (ready_lists R) k f c

  pub going : {t' e' : List ℤ} → round quotient s.unknown_columns s.unknowns s.table.now s.equation.now f ≡ again t' e' → Going s.unknown_columns s.unknowns s.table.now s.equation.now k f t' e'
  going r = goes (going_on r)

  pub solved_counts : {t' : List ℤ} {f' : ℕ} → round quotient s.unknown_columns s.unknowns s.table.now s.equation.now f ≡ solved t' f' → k + 1 < 2 ^ 32
  solved_counts = round_counts (ready_lists R) k f c

-- ---- one equation
good_in_limit : (r e : List ℤ) → judged r ≡ good e → all_in_limit e ≡ true
good_in_limit r e j = let h = judged_ok r e (Ok tt) j refl in ap all_in_limit h.0 ∙ h.1

-- What the code says of a row past the limit.
pub said_widened : {o : Outcome} → o ≡ widened → (r : Result Progress Why.Stop) (t : List ℤ) → IsErrAnd r (λ x. x ≡ Why.TheVariants.Wide) → o ≡ outcome_of r t
said_widened w (Err Why.TheVariants.Wide) t h = w
said_widened w (Err Why.TheVariants.Clash) t h = cc
said_widened w (Ok p) t h = absurd h

module _ (u v : ℕ) (t e : List ℤ) (k f : ℕ) where
  pub one_wide : all_in_limit e ≡ false → one quotient fuel u v t e k f ≡ widened
  unfolding one
  one_wide h = rw h

  module _ (h : all_in_limit e ≡ true) where
    pub replaced_wide : judged (replaced u v t e) ≡ past → one quotient fuel u v t e k f ≡ widened
    unfolding one
    replaced_wide j = rw (h, j)

    pub one_solves : (e' : List ℤ) (o : Outcome) → judged (replaced u v t e) ≡ good e' → ((n : ℕ) → smallest_size u e' < n → solve quotient n u v t e' k f ≡ o)
        → one quotient fuel u v t e k f ≡ o
    unfolding one
    one_solves e' o j s = rw (h, j) (s fuel (fuel_enough u e' (good_in_limit (replaced u v t e) e' j)))

-- What is then solved.
pub replaced_countable : (u k : ℕ) (r e' : List ℤ) → judged r ≡ good e' → k + 100000000 < 2 ^ 32 → (all_in_limit e' ≡ true) × Countable u k e'
replaced_countable u k r e' j c = let h = good_in_limit r e' j in (h, omega (arith, fuel_enough u e' h))

pub replaced_ready : {s : Elimination} {k : ℕ} {e : List ℤ} (e' : List ℤ) → Placed s e k → length e' ≡ length s.equation.now
    → judged (replaced s.unknown_columns s.unknowns s.table.now e) ≡ good e'
    → ReadyLists s.unknown_columns s.unknowns s.table.now e' s.quotients.now × Countable s.unknown_columns k e'
replaced_ready {s} {k} e' P l j =
    let h = replaced_countable s.unknown_columns k _ e' j P.count in
    (record { table = P.table; equation = h.0; columns = omega (arith, s.columns); word = s.word; rows = rw l s.rows; room = omega (arith, s.quotients_room) }, h.1)

-- What `map_err` was given, by what it made of it.
module _ {A B C : Type 0} (r : Result A B) {r' : Result A C} (P : B → C → Type 0) (m : MatchResult r (λ x. r' ≡ Ok x) (λ y. IsErrAnd r' (P y))) where
  pub mapped_ok : {x : A} → r' ≡ Ok x → r ≡ Ok x
  mapped_ok {x} e = by r m
    where
      by : (r : Result A B) → MatchResult r (λ x. r' ≡ Ok x) (λ y. IsErrAnd r' (P y)) → r ≡ Ok x
      by (Ok y) m = cc
      by (Err y) m = absurd (rw e at m)

  pub mapped_err : {z : C} → r' ≡ Err z → (y : B) × ((r ≡ Err y) × P y z)
  mapped_err {z} e = by r m
    where
      by : (r : Result A B) → MatchResult r (λ x. r' ≡ Ok x) (λ y. IsErrAnd r' (P y)) → (y : B) × ((r ≡ Err y) × P y z)
      by (Ok y) m = cc
      by (Err y) m = (y, (refl, rw e at m))

-- What two methods keep, one after the other.
pub room_again : {s t x : Elimination} → SameRoom s t → SameRoom t x → SameRoom s x
room_again a b = record {
  unknown_columns = b.unknown_columns ∙ a.unknown_columns;
  unknowns = b.unknowns ∙ a.unknowns;
  width = b.width ∙ a.width;
  sums_room = b.sums_room ∙ a.sums_room;
  table = b.table ∙ a.table;
  equation = b.equation ∙ a.equation;
  quotients = b.quotients ∙ a.quotients;
  sums = b.sums ∙ a.sums;
}

-- ---- a loop over m rows of w numbers, end to end in es: i are behind, and the rest starts at a
pub record Passed (w m : ℕ) (es : List ℤ) (a i : ℕ) : Type 0 where
  pub within : i ≤ m
  pub left : length es ≡ a + (m - i) * w

pub passed_none : {w m : ℕ} {es : List ℤ} → length es ≡ m * w → Passed w m es 0 0
passed_none e = record { within = omega arith; left = rw (zero-add, sub-zero) e }

module _ {w m : ℕ} {es : List ℤ} {a i : ℕ} (P : Passed w m es a i) (h : i < m) where
  pub passed_room : a + w ≤ length es
  passed_room = omega (arith, row_less m i w h)

  pub passed_part : length (take w (drop a es)) ≡ w
  passed_part = length-take-le w (drop a es) (omega (arith, passed_room, length-drop a es))

  pub passed_more : Passed w m es (a + w) (i + 1)
  passed_more = record { within = omega arith; left = omega (arith, row_less m i w h) }

-- ---- the equations in order: the table is t after k rounds, with the word f
pub record Lining (u v w m : ℕ) (es t : List ℤ) (k f a i : ℕ) : Type 0 where
  pub passed : Passed w m es a i
  pub kept : Kept u v w t f
  pub counted : k + fuel * count v f ≤ fuel * v
  pub is : eliminate quotient fuel u v w m es ≡ each quotient fuel u v w (m - i) i (drop a es) t k f

module _ {s : Elimination} {es : List ℤ} {m : ℕ} (S : Lined s es m) where
  abbrev u : ℕ
  u = s.unknown_columns

  abbrev v : ℕ
  v = s.unknowns

  abbrev w : ℕ
  w = length s.equation.now

  pub lining_none : (t : List ℤ) → t ≡ start w v → Lining u v w m es t 0 (first_set v) 0 0
  lining_none t b = record {
    passed = passed_none S.long;
    kept = rw b (start_kept u v w (omega (arith, S.unknowns, s.columns)));
    counted = rw (count_first v) (omega arith);
    is = rw (sub-zero, b);
  }

  module _ {t : List ℤ} {k f a i : ℕ} (L : Lining u v w m es t k f a i) where
    pub lining_end : m ≤ i → eliminate quotient fuel u v w m es ≡ accepted t k f
    unfolding each
    lining_end h = let z : m - i ≡ 0 = omega arith in rw z at L.is

    module _ (h : i < m) where
      abbrev e : List ℤ
      e = take w (drop a es)

      abbrev rest : List ℤ → ℕ → ℕ → Verdict
      rest t' k' f' = each quotient fuel u v w (m - (i + 1)) (i + 1) (drop w (drop a es)) t' k' f'

      next_one : eliminate quotient fuel u v w m es ≡ on_outcome rest i (one quotient fuel u v t e k f)
      unfolding each
      next_one = let d : m - i ≡ suc (m - (i + 1)) = omega arith in rw d at L.is

      -- The rounds still fit.
      pub lining_placed : (x : Elimination) → SameRoom s x → x.table.now ≡ t → Placed x e k
      lining_placed x R b =
          let p : length e ≡ w = passed_part L.passed h in
          record {
            table = rw b L.kept.limit;
            unknowns = omega (arith, R.unknowns, R.unknown_columns, S.unknowns);
            sums = R.sums_room ∙ S.sums ∙ sym R.width;
            long = p ∙ sym R.width;
            count = omega (arith, L.counted, S.few);
          }

      -- Equation i comes to o, which ends the work with z, whatever the rest would come to.
      pub lining_ends : (o : Outcome) (z : Verdict) → one quotient fuel u v t e k f ≡ o → ((go : List ℤ → ℕ → ℕ → Verdict) → on_outcome go i o ≡ z)
          → eliminate quotient fuel u v w m es ≡ z
      lining_ends o z r g = rw r at next_one ∙ g rest

      -- Equation i ended the work, and the code says so.
      pub lining_stop : (why : Why.Stop) (t' : List ℤ) → one quotient fuel u v t e k f ≡ outcome_of (Err why) t' → (d : Stopped) → d ≡ record { why = why; at = i }
          → (r : Result Progress Stopped) → IsErrAnd r (λ x. x ≡ d) → eliminate quotient fuel u v w m es ≡ verdict_of r t'
      lining_stop Why.TheVariants.Clash t' h d d' (Err x) x' = rw (x', d') (lining_ends clashed (clash_at i) h (λ go. refl))
      lining_stop Why.TheVariants.Wide t' h d d' (Err x) x' = rw (x', d') (lining_ends widened (wide_at i) h (λ go. refl))
      lining_stop why t' h d d' (Ok p) x' = absurd x'

      pub lining_more : (t' : List ℤ) (k' f' : ℕ) → one quotient fuel u v t e k f ≡ done t' k' f' → Lining u v w m es t' k' f' (a + w) (i + 1)
      lining_more t' k' f' r =
          let n = one_kept rounded_down fuel u v w (omega (arith, S.unknowns, s.columns)) (omega (arith, S.unknowns, s.word)) t e k f (passed_part L.passed h) L.kept r in
          record { passed = passed_more L.passed h; kept = n.0; counted = omega (arith, n.1); is = rw (← drop-drop w a es) (rw r at next_one) }

-- ---- the answer
-- How many of n numbers the caller's table takes.
abbrev pub wanted_of : Result Progress Stopped → ℕ → ℕ
wanted_of (Ok p) n = n
wanted_of (Err s) n = 0

pub wanted_few : (x : Result Progress Stopped) (n : ℕ) → wanted_of x n ≤ n
wanted_few (Ok p) n = omega arith
wanted_few (Err s) n = omega arith

-- ---- the call
-- What the code says of a refusal d.
pub said_refused : (d : Refusal) (r : Result Progress Refusal) (t : List ℤ) → IsErrAnd r (λ x. x ≡ d) → refuses (number_of d) (place_of d) t ≡ answer_of number_of place_of r t
said_refused d (Err x) t e = rw e refl
said_refused d (Ok p) t e = absurd e

module _ (v : ℕ) (es lent : List ℤ) where
  pub refuses_unknowns : 24 < v → eliminated v es lent ≡ refuses 3 0 lent
  unfolding eliminated
  refuses_unknowns h = rw (lt-ltb 24 v h)

  module _ (a : v ≤ 24) where
    pub refuses_length : (length es % 32 ≡ 0 → ⊥) → eliminated v es lent ≡ refuses 4 0 lent
    unfolding eliminated
    refuses_length h = rw (le-ltb 24 v a, ne_eqb (length es % 32) 0 h)

    abbrev worked : Answer
    worked = on_verdict lent (eliminate quotient fuel 24 v 32 (length es / 32) es)

    module _ (b : length es % 32 ≡ 0) where
      found : (x : Found) → first_used 24 v 32 (length es / 32) 0 es ≡ x
          → eliminated v es lent ≡ on_found (λ i. refuses 5 i lent) (if (ltb (length lent) (32 * v)) (refuses 8 0 lent) worked) x
      unfolding eliminated
      found x e = rw (le-ltb 24 v a, eq-eqb (length es % 32) 0 b, e)

      pub refuses_column : (i : ℕ) → first_used 24 v 32 (length es / 32) 0 es ≡ place i → eliminated v es lent ≡ refuses 5 i lent
      refuses_column i e = found (place i) e

      module _ (e : first_used 24 v 32 (length es / 32) 0 es ≡ nowhere) where
        pub refuses_room : length lent < 32 * v → eliminated v es lent ≡ refuses 8 0 lent
        refuses_room h = rw (lt-ltb (length lent) (32 * v) h) at (found nowhere e)

        pub is_worked : 32 * v ≤ length lent → eliminated v es lent ≡ worked
        is_worked h = rw (le-ltb (length lent) (32 * v) h) at (found nowhere e)
