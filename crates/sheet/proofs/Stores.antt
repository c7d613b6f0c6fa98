-- Laws of the store of line units.
use mathlib.Core.Path.{◌≡◌, ◌∙◌}
use mathlib.Core.Bool.{Bool, true, false}
use mathlib.Core.List.{List, ◌++◌, append-nil}
use Prim.Native.Nat.{ℕ, ◌+◌, ◌*◌, ◌≤◌, ◌<◌}
use native.Mathlib.Omega.{arith}
use lib.IntN.{ℤ}
use lib.ListN.{length, take, drop, drop_of_length-le, length-append, length-drop}
use lib.Seq.{length-take-le}
use Rattle.std.specs.Prelude.{Ok, Err}
use Rattle.whole.specs.Cases.{if, by_less}
use Rattle.whole.specs.declared.number.PastLimit.{PastLimit}
use Rattle.row.specs.Row.{all_in_limit}
use Rattle.row.specs.Judged.{judged, judged_of}
use Rattle.sheet_rules.specs.Shape.{Shape}
use Rattle.sheet_rules.specs.Lines.{unit_at}
use Rattle.sheet_rules.specs.Parts.{row_room, put_here, put_after}
use Rattle.sheet.specs.Store.{Stored}

-- A copy over a row of the same length leaves nothing of it.
pub copied : (l r : List ℤ) → length r ≡ length l → l ++ drop (length l) r ≡ l
copied l r e = let h : length r ≤ length l = omega arith in rw (drop_of_length-le r h, append-nil)

-- A row judged by its test.
pub tested : (b : Bool) (r : List ℤ) {p : PastLimit} → b ≡ all_in_limit r → judged r ≡ judged_of (if b (Ok tt) (Err p)) r
tested true r e = rw (← e)
tested false r e = rw (← e)

-- No unit yet.
pub stored_none : {sh : Shape} {s : List ℕ} {t : List ℤ} → sh.columns * sh.lines ≤ length t → Stored sh s 0 t
stored_none room = record { room = room; so_far = omega arith; holds = λ i h. absurd (omega arith) }

module _ {sh : Shape} {s : List ℕ} {k : ℕ} {t : List ℤ} (S : Stored sh s k t) where
  pub stored_room : (i : ℕ) → i < sh.lines → sh.columns * i + sh.columns ≤ length t
  stored_room i h = omega (arith, S.room, row_room sh.columns sh.lines i h)

  pub stored_fewer : (j : ℕ) → j ≤ k → Stored sh s j t
  stored_fewer j h = record { room = S.room; so_far = omega (arith, S.so_far); holds = λ i l. S.holds i (omega arith) }

  -- No line is left.
  pub stored_all : sh.lines ≤ k → Stored sh s sh.lines t
  stored_all h = let e : k ≡ sh.lines = omega (arith, S.so_far) in rw e at S

  -- l is put in as the unit of line k; n is the row's length as the code computes it.
  pub stored_more : (n : ℕ) (l : List ℤ) → k < sh.lines → n ≡ sh.columns → length l ≡ sh.columns → l ≡ unit_at sh s k
      → Stored sh s (k + 1) (take (sh.columns * k) t ++ (l ++ drop n (drop (sh.columns * k) t)))
  stored_more n l h e long is =
      let w = sh.columns in
      let a = w * k in
      let r = drop n (drop a t) in
      let room : a ≤ length t = omega (arith, stored_room k h) in
      record {
        room =
            omega
            (arith, S.room, stored_room k h, length-append (take a t) (l ++ r), length-append l r, length-take-le a t room, length-drop n (drop a t), length-drop a t);
        so_far = omega arith;
        holds =
            λ i g.
            by_less i k
            (λ m. put_after t l r a room w (w * i) (row_room w k i m) ∙ S.holds i m)
            (λ m. let i_is : i ≡ k = omega arith in rw i_is (put_here t l r a room w long ∙ is));
      }
