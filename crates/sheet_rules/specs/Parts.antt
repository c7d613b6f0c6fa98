-- Laws of a part of a list: w elements from a on, and row i of rows of w elements.
use Rattle.std.specs.Prelude.{◌≡◌, List, ◌++◌, ℕ, ◌+◌, ◌*◌, ◌≤◌, ◌<◌, length, take, drop}
use Rattle.std.proofs.Common.{sym, ◌∙◌, ap, mul-suc, mul-le-mul_left, arith, length-drop, take-append-drop, length-take-le, take_at, drop_at}
use Rattle.std.proofs.lemmas.List.{take-append-le, drop-append-le}

-- Row i of n rows is within them.
pub row_room : (w n i : ℕ) → i < n → w * i + w ≤ w * n
row_room w n i h = omega (arith, mul-suc w i, mul-le-mul_left w h)

module _ {A : Type 0} (w a : ℕ) where
  pub part_long : (t : List A) → a + w ≤ length t → length (take w (drop a t)) ≡ w
  part_long t h = length-take-le w (drop a t) (omega (arith, length-drop a t))

  pub part_front : (t r : List A) → a + w ≤ length t → take w (drop a (t ++ r)) ≡ take w (drop a t)
  part_front t r h =
      let d : a ≤ length t = omega arith in
      let e : w ≤ length (drop a t) = omega (arith, length-drop a t) in
      rw (drop-append-le a t r d, take-append-le w (drop a t) r e)

-- l is put into t from a on.
module _ {A : Type 0} (t l r : List A) (a : ℕ) (room : a ≤ length t) where
  pub put_here : (w : ℕ) → length l ≡ w → take w (drop a (take a t ++ (l ++ r))) ≡ l
  put_here w e = rw (drop_at (take a t) (l ++ r) a (length-take-le a t room)) (take_at l r w e)

  pub put_after : (w b : ℕ) → b + w ≤ a → take w (drop b (take a t ++ (l ++ r))) ≡ take w (drop b t)
  put_after w b h =
      let k : b + w ≤ length (take a t) = omega (arith, length-take-le a t room) in
      part_front w b (take a t) (l ++ r) k
      ∙ sym (part_front w b (take a t) (drop a t) k)
      ∙ ap (λ x. take w (drop b x)) (take-append-drop a t)
