-- Laws of loops over a slice:
--     scan-..      leaves at the first element of which p does not hold; what is left to judge is all p (drop i s);
--     painted-..   makes the slice r into m in place, from the front; after i turns it is take i m ++ drop i r;
--     judged-..    the same, leaving at the first number of m that is past the limit.
use mathlib.Core.Path.{◌≡◌, refl, sym, ap, ◌∙◌}
use mathlib.Core.Bool.{Bool, true, false}
use mathlib.Core.List.{List, [], ◌∷◌, ◌++◌, append-nil, map}
use Prim.Native.Nat.{ℕ, zero, suc, ◌+◌, ◌≤◌, ◌<◌, ◌^◌}
use native.Mathlib.Numerals.{add-one}
use native.Mathlib.Omega.{arith}
use lib.ListN.{length, get_or, take, drop, set, drop_of_length-le, length-set, length-append, length-drop, take-append-drop}
use lib.Seq.{drop-cons, take_all, take-append_seam}
use lib.IntN.{ℤ, pos}
use lib.Signed.{mag}
use mir.Syntax.{Width}
use mir.Val.{to_z, of_z, hbits}
use Rattle.std.specs.Prelude.{Result, Ok, Err, ◌&&◌}
use Rattle.std.specs.List.{list_all}
use Rattle.whole.specs.Cases.{both}
use Rattle.std.specs.Result.{IsErr}
use Rattle.whole.specs.declared.number.PastLimit.{PastLimit}
use Rattle.whole.specs.Size.{in_limit}
use Rattle.whole.proofs.Signed.{read}
use Rattle.row.specs.Row.{at, all}
use Rattle.row.specs.Judged.{judged, judged_of}

-- What std's `all` over a slice says.
pub all_list : {A : Type 0} (p : A → Bool) (s : List A) → list_all p s ≡ all p s
unfolding all
all_list p [] = refl
all_list p (x ∷ s) = by (p x) (all_list p s)
  where
    by : (b : Bool) → list_all p s ≡ all p s → (b && list_all p s) ≡ both b (all p s)
    by true e = e
    by false e = refl

module _ {A : Type 0} (p : A → Bool) (d : A) (s : List A) (i : ℕ) where
  pub scan_more : i < length s → p (get_or s i d) ≡ true → all p (drop i s) ≡ all p (drop (i + 1) s)
  unfolding all
  scan_more l e = rw (add-one, drop-cons s i d, e)

  pub scan_stop : i < length s → p (get_or s i d) ≡ false → all p (drop i s) ≡ false
  unfolding all
  scan_stop l e = rw (drop-cons s i d, e)

  pub scan_end : length s ≤ i → all p (drop i s) ≡ true
  unfolding all
  scan_end l = rw (drop_of_length-le s l)

module _ {A : Type 0} where
  paint_read : (m r : List A) (i : ℕ) (d : A) → length m ≡ length r → i < length r → get_or (take i m ++ drop i r) i d ≡ get_or r i d
  paint_read m [] i d e l = absurd (omega arith)
  paint_read [] (x ∷ r) i d e l = absurd (omega arith)
  paint_read (y ∷ m) (x ∷ r) zero d e l = refl
  paint_read (y ∷ m) (x ∷ r) (suc i) d e l = paint_read m r i d (omega arith) (omega arith)

  paint_more : (m r : List A) (i : ℕ) (d : A) → length m ≡ length r → i < length r → set (take i m ++ drop i r) i (get_or m i d) ≡ take (suc i) m ++ drop (suc i) r
  paint_more m [] i d e l = absurd (omega arith)
  paint_more [] (x ∷ r) i d e l = absurd (omega arith)
  paint_more (y ∷ m) (x ∷ r) zero d e l = refl
  paint_more (y ∷ m) (x ∷ r) (suc i) d e l = ap (λ (t : List A). y ∷ t) (paint_more m r i d (omega arith) (omega arith))

-- The invariant of a loop that makes the slice r into m in place, from the front, and leaves at the first element of m of
-- which p does not hold. After i turns the slice is l. Where nothing is judged, p is `always`.
pub record Painted {A : Type 0} (p : A → Bool) (m r l : List A) (i : ℕ) : Type 0 where
  pub within : i ≤ length r
  pub long : length m ≡ length r
  pub same : length l ≡ length r
  pub is : l ≡ take i m ++ drop i r
  pub judged : all p m ≡ all p (drop i m)

abbrev pub always : {A : Type 0} → A → Bool
always _ = true

pub all_always : {A : Type 0} (s : List A) → all always s ≡ true
unfolding all
all_always [] = refl
all_always (x ∷ s) = all_always s

module _ {A : Type 0} (p : A → Bool) (d : A) (m r : List A) where
  pub painted_none : length m ≡ length r → Painted p m r r 0
  painted_none e = record { within = omega arith; long = e; same = refl; is = refl; judged = refl }

  -- The loop may begin past a front that is as it is to be.
  pub painted_past : (n : ℕ) → n ≤ length r → length m ≡ length r → take n m ≡ take n r → all p m ≡ all p (drop n m) → Painted p m r r n
  painted_past n h e f t = record { within = h; long = e; same = refl; is = sym (rw f (take-append-drop n r)); judged = t }

  module _ (l : List A) (i : ℕ) (P : Painted p m r l i) where
    pub painted_read : i < length l → get_or l i d ≡ get_or r i d
    painted_read h = rw P.is (paint_read m r i d P.long (omega arith))

    pub painted_more : i < length l → (x : A) → x ≡ get_or m i d → p x ≡ true → Painted p m r (set l i x) (i + 1)
    painted_more h x e t =
        let k : i < length r = omega arith in
        record {
          within = omega arith;
          long = P.long;
          same = length-set l i x ∙ P.same;
          is = rw (P.is, e, add-one) (paint_more m r i d P.long k);
          judged = P.judged ∙ scan_more p d m i (omega arith) (ap p (sym e) ∙ t);
        }

    pub painted_stop : i < length l → (x : A) → x ≡ get_or m i d → p x ≡ false → all p m ≡ false
    painted_stop h x e t = P.judged ∙ scan_stop p d m i (omega arith) (ap p (sym e) ∙ t)

    pub painted_all : length l ≤ i → l ≡ m
    painted_all h =
        let a : length m ≤ i = omega arith in
        let b : length r ≤ i = omega arith in
        P.is ∙ rw (take_all i m a, drop_of_length-le r b, append-nil)

    pub painted_good : length l ≤ i → all p m ≡ true
    painted_good h = P.judged ∙ scan_end p d m i (omega arith)

-- A loop that writes s over the front of r.
pub front_long : {A : Type 0} (s r : List A) → length s ≤ length r → length (s ++ drop (length s) r) ≡ length r
front_long s r l = omega (arith, length-append s (drop (length s) r), length-drop (length s) r)

pub painted_front : {A : Type 0} (p : A → Bool) (s r l : List A) (i : ℕ) → i ≡ length s → Painted p (s ++ drop (length s) r) r l i → l ≡ s ++ drop (length s) r
painted_front p s r l i e P = rw e at P.is ∙ ap (λ x. x ++ drop (length s) r) (take-append_seam s (drop (length s) r))

-- An element that is not painted yet, as the code reads it.
pub painted_held : (w : Width) {p : ℤ → Bool} {m r l : List ℤ} {i : ℕ} → Painted p m r l i → i < length l → mag (at l i) < 2 ^ hbits w → to_z w (of_z w (at l i)) ≡ at r i
painted_held w {p} {m} {r} {l} {i} P h k = read w (at l i) k ∙ painted_read p (pos 0) m r l i P h

-- A loop that judges each number of m, and paints it over r where it is within the limit.
module _ {m r l : List ℤ} {i : ℕ} (P : Painted in_limit m r l i) where
  pub judged_stop : i < length l → (x : ℤ) → x ≡ at m i → in_limit x ≡ false → (r : Result (Unit {0}) PastLimit) → IsErr r → judged m ≡ judged_of r l
  judged_stop h x e t (Err past) k = rw (painted_stop in_limit (pos 0) m r l i P h x e t)
  judged_stop h x e t (Ok u) k = cc

  pub judged_all : length l ≤ i → judged m ≡ judged_of (Ok tt) l
  judged_all h = rw (painted_good in_limit (pos 0) m r l i P h, painted_all in_limit (pos 0) m r l i P h)

-- An element of a map.
pub map_at : {A B : Type 0} (f : A → B) (s : List A) (i : ℕ) (d : A) (d' : B) → i < length s → get_or (map f s) i d' ≡ f (get_or s i d)
map_at f [] i d d' l = absurd (omega arith)
map_at f (x ∷ s) zero d d' l = refl
map_at f (x ∷ s) (suc i) d d' l = map_at f s i d d' (omega arith)
