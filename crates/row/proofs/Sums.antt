-- Laws of rows added up: the sums stay within 64 bits, and what a loop over the rows has left to add.
use mathlib.Core.Path.{◌≡◌, refl, sym, ap, ◌∙◌}
use mathlib.Core.Bool.{true}
use mathlib.Core.List.{List}
use Prim.Native.Nat.{ℕ, ◌+◌, ◌-◌, ◌*◌, ◌≤◌, ◌<◌}
use native.Mathlib.Nat.{zero-add, sub-zero}
use native.Mathlib.Numerals.{add-one}
use native.Mathlib.Omega.{arith}
use borrow.Author.Tests.{leb-true, le-leb, ltb-true, ltb-false}
use lib.Dec.{leb, ltb}
use lib.ListN.{length, take, drop, replicate, drop_of_length-le, length-drop}
use lib.Seq.{drop-cons, drop-drop, length-take-le, take_at}
use lib.IntN.{ℤ, pos, nat_abs}
use Rattle.whole.specs.Cases.{if, if_ind}
use Rattle.whole.specs.Size.{limit, in_limit, Within, within_limit, within_add, within_mul, within_more}
use Rattle.row.specs.Row.{at, all_in_limit, plus}
use Rattle.row.specs.Values.{at_plus, length_plus, plus_zero}
use Rattle.row.specs.Table.{add_rows, constants, replaced}
use Rattle.row.specs.Tables.{all_at, all_of, all_both, all_take, all_drop, length_constants, constants_low, constants_high, zeros_in_limit}
use Rattle.row.specs.Requires.{all_within, Addable, Replaceable}
use Rattle.row.proofs.RowLoops.{row_less}
use Rattle.row.proofs.Loops.{Painted, always, painted_past, all_always}
use Rattle.std.proofs.lemmas.List.{length-replicate, take-replicate}

-- ---- sizes
module _ (m : ℕ) (r : List ℤ) where
  pub at_within : all_within m r ≡ true → (i : ℕ) → i < length r → Within m (at r i)
  at_within h i l = record { within = leb-true (nat_abs (at r i)) m (all_at (λ z. leb (nat_abs z) m) (pos 0) r i h l) }

  all_within_lem : ((i : ℕ) → i < length r → Within m (at r i)) → all_within m r ≡ true
  all_within_lem h = all_of (λ z. leb (nat_abs z) m) (pos 0) r (λ i l. le-leb (nat_abs (at r i)) m (h i l).within)

-- A number times a row adds at most the limit's square to each size.
plus_within : (m : ℕ) (f : ℤ) (r s : List ℤ) → length s ≡ length r → all_within m r ≡ true → in_limit f ≡ true → all_in_limit s ≡ true
    → all_within (m + limit * limit) (plus f r s) ≡ true
plus_within m f r s e h g k =
    all_within_lem (m + limit * limit) (plus f r s)
    (λ i l.
    let n : i < length r = omega (arith, length_plus f r s (omega arith)) in
    let o : i < length s = omega arith in
    rw (at_plus f r s i) (within_add (at_within m r h i n) (within_mul (within_limit f g) (at_within limit s k i o))))

-- ---- the constants
pub constants_at : (u : ℕ) (e : List ℤ) (i : ℕ) → at (constants u e) i ≡ if (ltb i u) (pos 0) (at e i)
constants_at u e i =
    if_ind (ltb i u) (pos 0) (at e i) (λ z. at (constants u e) i ≡ z)
    (λ h. constants_low u e i (ltb-true i u h))
    (λ h. constants_high u e i (ltb-false i u h))

-- A loop that writes the columns of e from u on over a row of n zeros.
pub constants_begin : (u n : ℕ) (e : List ℤ) → u ≤ length e → n ≡ length e → Painted always (constants u e) (replicate n (pos 0)) (replicate n (pos 0)) u
constants_begin u n e h k =
    let z : ℤ = pos 0 in
    painted_past always z (constants u e) (replicate n z) u (omega (arith, length-replicate n z)) (length_constants u e h ∙ sym k ∙ sym (length-replicate n z))
    (take_at (replicate u z) (drop u e) u (length-replicate u z) ∙ sym (take-replicate u n z (omega arith)))
    (all_always (constants u e) ∙ sym (all_always (drop u (constants u e))))

constants_in_limit : (u : ℕ) (e : List ℤ) → all_in_limit e ≡ true → all_in_limit (constants u e) ≡ true
constants_in_limit u e h = all_both in_limit (replicate u (pos 0)) (drop u e) (zeros_in_limit u) (all_drop in_limit u e h)

-- ---- a loop that adds to r the rows of t, each times its number in fs. After j rows, which end at a, the sums are s.
pub record Added (fs t r s : List ℤ) (a j : ℕ) : Type 0 where
  pub able : Addable fs t r
  pub within : j ≤ length fs
  pub left : length t ≡ a + (length fs - j) * length r
  pub long : length s ≡ length r
  pub is : add_rows (length r) (drop j fs) (drop a t) s ≡ add_rows (length r) fs t r
  pub small : all_within (limit + j * (limit * limit)) s ≡ true

pub added_none : {fs t r : List ℤ} → Addable fs t r → Added fs t r r 0 0
added_none A = record { able = A; within = omega arith; left = rw (zero-add, sub-zero) A.rows; long = refl; is = refl; small = A.row }

module _ {fs t r s : List ℤ} {a j : ℕ} (A : Added fs t r s a j) where
  pub added_all : length fs ≤ j → s ≡ add_rows (length r) fs t r
  unfolding add_rows
  added_all h = rw (drop_of_length-le fs h) at A.is

  pub added_small : all_within 4000000000000000000 s ≡ true
  added_small = all_within_lem 4000000000000000000 s (λ i l. within_more (at_within (limit + j * (limit * limit)) s A.small i l) (omega arith))

  module _ (h : j < length fs) where
    one_more : (length fs - j) * length r ≡ length r + (length fs - (j + 1)) * length r
    one_more = row_less (length fs) j (length r) h

    pub added_room : a + length r ≤ length t
    added_room = omega (arith, one_more)

    pub added_part : length (take (length r) (drop a t)) ≡ length s
    added_part = length-take-le (length r) (drop a t) (omega (arith, added_room, length-drop a t)) ∙ sym A.long

    -- The sums are now x.
    pub added_more : (x : List ℤ) → x ≡ plus (at fs j) s (take (length r) (drop a t)) → Added fs t r x (a + length r) (j + 1)
    unfolding add_rows
    added_more x e =
        let p = take (length r) (drop a t) in
        let f = all_at in_limit (pos 0) fs j A.able.numbers h in
        let k = all_take in_limit (length r) (drop a t) (all_drop in_limit a t A.able.table) in
        let m : limit + (j + 1) * (limit * limit) ≡ limit + j * (limit * limit) + limit * limit = omega arith in
        record {
          able = A.able;
          within = omega arith;
          left = omega (arith, one_more);
          long = ap length e ∙ length_plus (at fs j) s p (omega (arith, added_part)) ∙ A.long;
          is = rw (e, add-one, ← drop-drop (length r) a t) (rw (drop-cons fs j (pos 0) h) at A.is);
          small = rw (e, m) (plus_within (limit + j * (limit * limit)) (at fs j) s p added_part A.small f k);
        }

    -- A number 0 adds nothing.
    pub added_skip : at fs j ≡ pos 0 → Added fs t r s (a + length r) (j + 1)
    added_skip e = added_more s (rw e (sym (plus_zero s (take (length r) (drop a t)) (omega (arith, added_part)))))

-- ---- rows for the unknowns of an equation, added to its constants
module _ {u v : ℕ} {t e sums out : List ℤ} (R : Replaceable u v t e sums out) where
  long_numbers : length (take v e) ≡ v
  long_numbers = length-take-le v e (omega arith)

  pub replace_addable : Addable (take v e) t (constants u e)
  replace_addable = record {
    numbers = all_take in_limit v e R.equation;
    table = R.table;
    row = constants_in_limit u e R.equation;
    few = omega (arith, long_numbers);
    rows = rw (long_numbers, length_constants u e R.columns) R.rows;
  }

  pub replace_added : add_rows (length (constants u e)) (take v e) t (constants u e) ≡ replaced u v t e
  replace_added = rw (length_constants u e R.columns)
