-- Laws of loops over the rows of a table: g of each row of w numbers in place, leaving at the first row of which not all is p.
use mathlib.Core.Path.{◌≡◌, refl, sym, ◌∙◌}
use mathlib.Core.Bool.{Bool, true, false}
use mathlib.Core.List.{List, ◌++◌, append_assoc}
use Prim.Native.Nat.{ℕ, zero, suc, ◌+◌, ◌-◌, ◌*◌, ◌≤◌, ◌<◌}
use native.Mathlib.Nat.{suc-mul, zero-mul}
use native.Mathlib.Omega.{arith}
use lib.IntN.{ℤ}
use lib.ListN.{length, take, drop, length-append, length-drop, take-append-drop}
use lib.Seq.{take_all, take_at, drop_at, take-add, drop-drop, length-take-le}
use Rattle.row.specs.Row.{all}
use Rattle.row.specs.Table.{each_row}
use Rattle.row.specs.Tables.{all_append}

-- One row fewer, in the words of a loop that counts up to n.
pub row_less : (n j w : ℕ) → j < n → (n - j) * w ≡ w + (n - (j + 1)) * w
row_less n j w h = let d : n - j ≡ suc (n - (j + 1)) = omega arith in rw d (omega (arith, suc-mul (n - (j + 1)) w))

-- The row after row j begins where row j ends.
pub next_row : (j w : ℕ) → (j + 1) * w ≡ j * w + w
next_row j w = omega (arith, suc-mul j w)

-- The row from a on is now l: what ends with it, and what follows.
module _ (t l : List ℤ) (a w : ℕ) (room : a ≤ length t) (k : length l ≡ w) where
  long_front : length (take a t ++ l) ≡ a + w
  long_front = length-append (take a t) l ∙ simp (length-take-le a t room, k)

  pub put_front : take (a + w) (take a t ++ (l ++ drop w (drop a t))) ≡ take a t ++ l
  put_front = rw (← append_assoc (take a t) l (drop w (drop a t))) (take_at (take a t ++ l) (drop w (drop a t)) (a + w) long_front)

  put_rest : drop (a + w) (take a t ++ (l ++ drop w (drop a t))) ≡ drop w (drop a t)
  put_rest = rw (← append_assoc (take a t) l (drop w (drop a t))) (drop_at (take a t ++ l) (drop w (drop a t)) (a + w) long_front)

-- n rows are left, from a on, of the table t; m is what the table is to be.
pub record Worked (p : ℤ → Bool) (g : List ℤ → List ℤ) (w : ℕ) (m t : List ℤ) (a n : ℕ) : Type 0 where
  pub long : length t ≡ a + n * w
  pub is : m ≡ take a t ++ each_row g w n (drop a t)
  pub good : all p (take a t) ≡ true

module _ (p : ℤ → Bool) (g : List ℤ → List ℤ) (w : ℕ) (m : List ℤ) where
  pub worked_none : (t : List ℤ) (v : ℕ) → length t ≡ v * w → m ≡ each_row g w v t → Worked p g w m t 0 v
  unfolding all
  worked_none t v e f = record { long = omega arith; is = f; good = refl }

  pub worked_all : (t : List ℤ) (a : ℕ) → Worked p g w m t a 0 → t ≡ m
  unfolding each_row
  worked_all t a W = sym (W.is ∙ take-append-drop a t)

  pub worked_good : (t : List ℤ) (a : ℕ) → Worked p g w m t a 0 → all p m ≡ true
  unfolding each_row
  worked_good t a W = rw (W.is, take-append-drop a t) (rw (take_all a t (omega (arith, W.long, zero-mul w))) at W.good)

  module _ (t : List ℤ) (a : ℕ) where
    pub worked_room : (n : ℕ) → Worked p g w m t a n → 0 < n → a + w ≤ length t
    worked_room zero W h = absurd (omega arith)
    worked_room (suc n) W h = omega (arith, W.long, suc-mul n w)

    pub worked_stop : (n : ℕ) → Worked p g w m t a n → 0 < n → all p (g (take w (drop a t))) ≡ false → all p m ≡ false
    unfolding each_row
    worked_stop zero W h e = absurd (omega arith)
    worked_stop (suc n) W h e = rw (W.is, all_append, W.good, all_append, e)

    -- The row is now l, which is g of it.
    turn : (n : ℕ) → Worked p g w m t a (suc n) → (l : List ℤ) → l ≡ g (take w (drop a t)) → length l ≡ w → all p l ≡ true
        → Worked p g w m (take a t ++ (l ++ drop w (drop a t))) (a + w) n
    unfolding each_row
    turn n W l e k h =
        let T = take a t in
        let R = drop w (drop a t) in
        let room : a ≤ length t = omega (arith, W.long, suc-mul n w) in
        record {
          long = omega (arith, length-append T (l ++ R), length-append l R, length-take-le a t room, length-drop w (drop a t), length-drop a t, W.long, suc-mul n w);
          is = rw (put_front t l a w room k, put_rest t l a w room k, append_assoc T l, e) W.is;
          good = rw (put_front t l a w room k, all_append p T l, W.good) h;
        }

    -- The same in the words of a loop that counts n down; k is the part's length as the code computes it.
    pub worked_more : (n k : ℕ) → Worked p g w m t a n → 0 < n → k ≡ w → (l : List ℤ) → l ≡ g (take w (drop a t)) → length l ≡ w → all p l ≡ true
        → Worked p g w m (take a t ++ (l ++ drop k (drop a t))) (a + w) (n - 1)
    worked_more zero k W h e l is long good = absurd (omega arith)
    worked_more (suc n) k W h e l is long good =
        let d : suc n - 1 ≡ n = omega arith in
        rw (e, d) (turn n W l is long good)

    -- A row that g leaves as it is costs no pass.
    pub worked_skip : (n : ℕ) → Worked p g w m t a n → 0 < n → g (take w (drop a t)) ≡ take w (drop a t) → all p (take w (drop a t)) ≡ true → Worked p g w m t (a + w) (n - 1)
    unfolding each_row
    worked_skip zero W h e k = absurd (omega arith)
    worked_skip (suc n) W h e k =
        let d : suc n - 1 ≡ n = omega arith in
        let to : take (a + w) t ≡ take a t ++ take w (drop a t) = take-add a w t in
        let from : drop (a + w) t ≡ drop w (drop a t) = sym (drop-drop w a t) in
        rw d
        (record {
          long = omega (arith, W.long, suc-mul n w);
          is = rw (to, from, append_assoc (take a t) (take w (drop a t)), ← e) W.is;
          good = rw (to, all_append p (take a t), W.good) k;
        })
