-- Laws of the loops over the rows of the table.
use mathlib.Core.Path.{◌≡◌, refl, sym, ap, ◌∙◌}
use mathlib.Core.Bool.{true}
use mathlib.Core.List.{List, ◌++◌, append-nil, append_assoc}
use Prim.Native.Nat.{ℕ, suc, ◌+◌, ◌-◌, ◌*◌, ◌≤◌, ◌<◌}
use native.Mathlib.Nat.{zero-add, sub-zero}
use native.Mathlib.Omega.{arith}
use borrow.Rule.Slice.PartMut.{same_len_mid}
use lib.IntN.{ℤ, pos}
use lib.ListN.{length, take, drop, length-drop}
use lib.Seq.{take_all, length-take-le}
use Rattle.whole.specs.Size.{in_limit}
use Rattle.row.specs.Row.{at, all_in_limit}
use Rattle.std.specs.Prelude.{Result, Ok, Err}
use Rattle.std.specs.Result.{IsErr}
use Rattle.whole.specs.declared.number.PastLimit.{PastLimit}
use Rattle.row.specs.Judged.{judged, judged_of}
use Rattle.row.specs.Table.{itself, start_from, start}
use Rattle.row.specs.Tables.{all_both, all_take, all_drop, length_itself}
use Rattle.row.specs.Values.{plus_zero}
use Rattle.row.proofs.Judging.{judged_ok, judged_err}
use Rattle.row.proofs.RowLoops.{Worked, worked_none, worked_all, worked_good, worked_room, worked_stop, worked_more, row_less, put_front}
use Rattle.elimination_rules.specs.Round.{swap, swaps}
use Rattle.elimination.specs.Requires.{Swappable}

-- ---- a loop that writes the start: j rows are there, up to a
pub record Started (w v : ℕ) (t : List ℤ) (a j : ℕ) : Type 0 where
  pub within : j ≤ v
  pub columns : v ≤ w
  pub long : length t ≡ v * w
  pub left : v * w ≡ a + (v - j) * w
  pub is : start w v ≡ take a t ++ start_from w j (v - j)

pub started_none : (w v : ℕ) (t : List ℤ) → length t ≡ v * w → v ≤ w → Started w v t 0 0
started_none w v t e h = record { within = omega arith; columns = h; long = e; left = rw (zero-add, sub-zero); is = rw sub-zero }

module _ {w v : ℕ} {t : List ℤ} {a j : ℕ} (S : Started w v t a j) where
  pub started_all : v ≤ j → t ≡ start w v
  unfolding start_from
  started_all h =
      let z : v - j ≡ 0 = omega arith in
      let r : length t ≤ a = omega (arith, S.long, rw z at S.left) in
      sym (rw (z, append-nil, take_all a t r) at S.is)

  module _ (h : j < v) where
    pub started_room : a + w ≤ length t
    started_room = omega (arith, row_less v j w h)

    pub started_part : length (take w (drop a t)) ≡ w
    started_part = length-take-le w (drop a t) (omega (arith, started_room, length-drop a t))

    -- The row is now l.
    pub started_more : (l : List ℤ) → l ≡ itself w j → Started w v (take a t ++ (l ++ drop w (drop a t))) (a + w) (j + 1)
    unfolding start_from
    started_more l e =
        let k : length l ≡ w = ap length e ∙ length_itself w j in
        let d : v - j ≡ suc (v - (j + 1)) = omega arith in
        let n : suc j ≡ j + 1 = omega arith in
        record {
          within = omega arith;
          columns = S.columns;
          long = same_len_mid a w t l (k ∙ sym started_part) ∙ S.long;
          left = omega (arith, row_less v j w h);
          is = rw (put_front t l a w (omega (arith, started_room)) k, append_assoc (take a t) l, e) (rw (d, n) at S.is);
        }

-- ---- a row with unknown j replaced, where it has none of it
pub swap_none : (j : ℕ) (q r : List ℤ) → all_in_limit r ≡ true → length q ≡ length r → at r j ≡ pos 0 → judged (swap j q r) ≡ judged_of (Ok tt) r
swap_none j q r h l e = rw (e, plus_zero r q (omega arith), h)

-- ---- a loop that replaces unknown j in each row: n rows are left, from a on; the table is t, and each number in it within the limit
pub record Swapping (t₀ q : List ℤ) (j v : ℕ) (t : List ℤ) (a n : ℕ) : Type 0 where
  pub column : j < length q
  pub same : length t ≡ length t₀
  pub good : all_in_limit t ≡ true
  pub work : Worked in_limit (swap j q) (length q) (swaps v j q t₀) t a n

pub swapping_none : (v j : ℕ) (t q : List ℤ) → Swappable v j t q → Swapping t q j v t 0 v
swapping_none v j t q S = record { column = S.column; same = refl; good = S.table; work = worked_none in_limit _ _ _ t v S.rows refl }

module _ {t₀ q : List ℤ} {j v : ℕ} {t : List ℤ} {a n : ℕ} (S : Swapping t₀ q j v t a n) where
  pub swapping_all : n ≡ 0 → judged (swaps v j q t₀) ≡ judged_of (Ok tt) t
  swapping_all z =
      let W = rw z at S.work in
      rw (worked_good in_limit _ _ (swaps v j q t₀) t a W, worked_all in_limit _ _ _ t a W)

  module _ (h : 0 < n) where
    abbrev row : List ℤ
    row = take (length q) (drop a t)

    pub swapping_room : a + length q ≤ length t
    swapping_room = worked_room in_limit _ _ _ t a n S.work h

    swapping_part : length row ≡ length q
    swapping_part = length-take-le (length q) (drop a t) (omega (arith, swapping_room, length-drop a t))

    pub swapping_row : (all_in_limit row ≡ true) × (length q ≡ length row) × (j < length row)
    swapping_row = (all_take in_limit (length q) (drop a t) (all_drop in_limit a t S.good), sym swapping_part, omega (arith, swapping_part, S.column))

    pub swapping_same : (l : List ℤ) → length l ≡ length row → length (take a t ++ (l ++ drop (length q) (drop a t))) ≡ length t₀
    swapping_same l k = same_len_mid a (length q) t l k ∙ S.same

    -- The row was judged, and is now l.
    module _ (r : Result (Unit {0}) PastLimit) (l : List ℤ) (e : judged (swap j q row) ≡ judged_of r l) where
      pub swapping_stop : {p : PastLimit} → r ≡ Err p → (r' : Result (Unit {0}) PastLimit) (t' : List ℤ) → IsErr r' → judged (swaps v j q t₀) ≡ judged_of r' t'
      swapping_stop f (Err p') t' x = rw (worked_stop in_limit _ _ _ t a n S.work h (judged_err (swap j q row) l r e f))
      swapping_stop f (Ok u) t' x = cc

      pub swapping_more : {u : Unit {0}} → r ≡ Ok u → length l ≡ length row → Swapping t₀ q j v (take a t ++ (l ++ drop (length q) (drop a t))) (a + length q) (n - 1)
      swapping_more y k =
          let g = judged_ok (swap j q row) l r e y in
          let good : all_in_limit l ≡ true = ap all_in_limit g.0 ∙ g.1 in
          record {
            column = S.column;
            same = swapping_same l k;
            good = all_both in_limit (take a t) _ (all_take in_limit a t S.good) (all_both in_limit l _ good (all_drop in_limit (length q) _ (all_drop in_limit a t S.good)));
            work = worked_more in_limit _ _ _ t a n (length q) S.work h refl l g.0 (k ∙ swapping_part) good;
          }
