-- The table is kept: the start, what is left of a free word, a row with its unknowns replaced, and what a round is to keep.
use Rattle.std.specs.Prelude.{◌≡◌, ◌≢◌, List, ℕ, suc, ◌*◌, ◌≤◌, length, take, ℤ, pos}
use Rattle.std.proofs.Common.{sym, ◌∙◌, ap, subst, arith, length-take}
use Rattle.whole.specs.Cases.{by_less}
use Rattle.whole.specs.Word.{bit, cleared, bit_cleared_same, bit_cleared_other, first_set, count, by_bit, bit_first_below, bit_first_above}
use Rattle.row.specs.Row.{at}
use Rattle.row.specs.Table.{add_rows, constants, replaced, start}
use Rattle.row.specs.Values.{single_other}
use Rattle.row.specs.Tables.{length_added, length_constants, rows_map, at_itself, length_start, rows_start, start_in_limit, zero_added, constants_low}
use Rattle.elimination_rules.specs.Round.{Turn, holds, solved, again, clash, wide}
use Rattle.elimination_rules.specs.General.{Off, Kept}
use Rattle.elimination_rules.specs.Zeros.{Zero, Nonzero, Below, sized}
use Rattle.elimination_rules.specs.Upright.{Picked}

-- "It starts with unknown j equal to itself, all V columns free."
pub start_kept : (u v w : ℕ) → v ≤ w → Kept u v w (start w v) (first_set v)
start_kept u v w vw = record {
  free = λ i b. by_less i v (λ h. h) (λ h. absurd (omega (arith, bit_first_above v i h)));
  zero_else = rows_start (Off u (first_set v)) w 0 v
      (λ j _ l i _ b. at_itself w j i (omega arith) ∙ single_other j i (λ e. absurd (omega (arith, bit_first_below v i (omega arith)))));
  long = length_start w 0 v;
  limit = start_in_limit w 0 v;
}

-- A bit that is left after one is cleared was set, and is another.
pub still_free : (f j i : ℕ) → bit i (cleared f j) ≡ 1 → (bit i f ≡ 1) × (i ≢ j)
still_free f j i b = (sym (bit_cleared_other f j i other) ∙ b, other)
  where
    other : i ≢ j
    other e = let z : bit j (cleared f j) ≡ 1 = subst (λ k. bit k (cleared f j) ≡ 1) e b in omega (arith, bit_cleared_same f j)

-- ---- the equation is one in the free unknowns
pub replaced_off : (u v w : ℕ) (t e : List ℤ) (f : ℕ) → length e ≡ w → v ≤ w → Kept u v w t f → Off u f (replaced u v t e)
replaced_off u v w t e f le vw k i a b =
    ap (λ n. at (add_rows n (take v e) t (constants u e)) i) le
    ∙ zero_added w v i (take v e) t (constants u e) (length-take v e ∙ omega arith) (constants_low u e i a)
    (rows_map (Off u f) (λ r. at r i ≡ pos 0) (λ r o. o i a b) w v t k.zero_else)

pub replaced_long : (u v w : ℕ) (t e : List ℤ) → length e ≡ w → v ≤ w → u ≤ w → length t ≡ v * w → length (replaced u v t e) ≡ w
replaced_long u v w t e le vw uw lt =
    ap (λ n. length (add_rows n (take v e) t (constants u e))) le
    ∙ length_added w v (take v e) t (constants u e) (length-take v e ∙ omega arith) lt (length_constants u e (omega arith) ∙ le)

-- The unknown that is picked is free.
pub picked_free : (u f : ℕ) (e : List ℤ) (j : ℕ) → Off u f e → Picked u e j → bit j f ≡ 1
picked_free u f e j o p = by_bit j f (λ b. absurd (sized (at e j) p.some (o j p.below b))) (λ b. b)

-- ---- one round: a round that solves clears one set bit, and one that goes on leaves an unknown in the equation
abbrev pub TurnKept : ℕ → ℕ → ℕ → List ℤ → ℕ → Turn → Type 0
TurnKept u v w e f (holds t') = Kept u v w t' f × Zero (Below u) e
TurnKept u v w e f (solved t' f') = Kept u v w t' f' × (count v f ≡ suc (count v f'))
TurnKept u v w e f (again t' e') = Kept u v w t' f × Off u f e' × (length e' ≡ w) × Nonzero (Below u) e'
TurnKept u v w e f clash = Unit {0}
TurnKept u v w e f wide = Unit {0}
