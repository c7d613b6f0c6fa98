-- The first equation with something in a column that is not used: as a search over the places finds it, and as a loop over the equations does.
use Rattle.std.proofs.Common.{◌≡◌, refl, sym, ◌∙◌, ap, ℕ, zero, suc, ◌+◌, ◌-◌, ◌*◌, ◌≤◌, ◌<◌, true, false, List, ℤ, not, length, take, drop, Option, Some, None, arith}
use native.Mathlib.Nat.{zero-mul, sub-zero, add-sub_cancel_left}
use lib.Seq.{drop-drop}
use Rattle.std.specs.List.{find, range_with_len}
use Rattle.std.specs.Option.{option_map}
use Rattle.whole.specs.Cases.{if, by_test}
use Rattle.whole.specs.Place.{place, nowhere, found_of}
use Rattle.row.proofs.RowLoops.{next_row}
use Rattle.elimination_rules.specs.Call.{unused, first_used}
use Rattle.elimination.proofs.Courses.{Passed, passed_none, passed_more}

module _ (u v w : ℕ) (es : List ℤ) where
  -- Equation i, as the code takes it.
  abbrev pub equation : ℕ → List ℤ
  equation i = take ((i + 1) * w - i * w) (drop (i * w) es)

  equation_is : (i : ℕ) → equation i ≡ take w (drop (i * w) es)
  equation_is i = rw (next_row i w, add-sub_cancel_left) refl

  used_find : (m i : ℕ) → first_used u v w m i (drop (i * w) es) ≡ found_of (find (λ j. not (unused u v (equation j))) (range_with_len i m))
  unfolding first_used
  used_find zero i = refl
  used_find (suc m) i =
      by_test (unused u v (equation i))
      (λ e. rw (e, ← equation_is i, e, drop-drop w (i * w) es, ← next_row i w) (used_find m (i + 1)))
      (λ e. rw (e, ← equation_is i, e) refl)

  same : (r : Option ℕ) → option_map (λ i. i) r ≡ r
  same None = refl
  same (Some i) = refl

  pub used_found : (m : ℕ) (r : Option ℕ) → option_map (λ i. i) r ≡ find (λ j. not (unused u v (equation j))) (range_with_len 0 m) → first_used u v w m 0 es ≡ found_of r
  used_found m r e = rw zero-mul at (used_find m 0) ∙ ap found_of (sym e ∙ same r)

-- ---- a loop over the equations: i are behind, and the rest starts at a
pub record Searched (u v w m : ℕ) (es : List ℤ) (a i : ℕ) : Type 0 where
  pub passed : Passed w m es a i
  pub is : first_used u v w m 0 es ≡ first_used u v w (m - i) i (drop a es)

pub searched_none : (u v w m : ℕ) (es : List ℤ) → length es ≡ m * w → Searched u v w m es 0 0
searched_none u v w m es e = record { passed = passed_none e; is = rw sub-zero }

module _ {u v w m : ℕ} {es : List ℤ} {a i : ℕ} (S : Searched u v w m es a i) where
  pub searched_end : m ≤ i → first_used u v w m 0 es ≡ nowhere
  unfolding first_used
  searched_end h = let z : m - i ≡ 0 = omega arith in rw z at S.is

  module _ (h : i < m) where
    next : first_used u v w m 0 es ≡ if (unused u v (take w (drop a es))) (first_used u v w (m - (i + 1)) (i + 1) (drop w (drop a es))) (place i)
    unfolding first_used
    next = let d : m - i ≡ suc (m - (i + 1)) = omega arith in rw d at S.is

    pub searched_stop : unused u v (take w (drop a es)) ≡ false → first_used u v w m 0 es ≡ place i
    searched_stop e = rw e at next

    pub searched_more : unused u v (take w (drop a es)) ≡ true → Searched u v w m es (a + w) (i + 1)
    searched_more e = record { passed = passed_more S.passed h; is = rw (← drop-drop w a es) (rw e at next) }
