-- Laws of a row that is changed number by number.
use mathlib.Core.Path.{◌≡◌, refl, sym, ◌∙◌, ap₂}
use mathlib.Core.List.{List, map}
use Prim.Native.Nat.{ℕ, ◌+◌, ◌<◌}
use native.Mathlib.Omega.{arith}
use lib.IntN.{ℤ, pos, ◌-ℤ◌, ◌*ℤ◌}
use lib.ListN.{length, set, length-map}
use Rattle.row.specs.Row.{at, less}
use Rattle.row.specs.Values.{at_less}
use Rattle.row.proofs.Loops.{Painted, always, painted_none, painted_more, map_at}

-- A loop that makes r into f of each number of s.
module _ (f : ℤ → ℤ) (s : List ℤ) where
  pub mapped_none : (r : List ℤ) → length s ≡ length r → Painted always (map f s) r r 0
  mapped_none r e = painted_none always (pos 0) (map f s) r (length-map s f ∙ e)

  pub mapped_more : {r l : List ℤ} {i : ℕ} → Painted always (map f s) r l i → i < length l → (x : ℤ) → x ≡ f (at s i) → Painted always (map f s) r (set l i x) (i + 1)
  mapped_more {r} {l} {i} P h x e = painted_more always (pos 0) (map f s) r l i P h x (e ∙ sym (map_at f s i (pos 0) (pos 0) (omega (arith, length-map s f)))) refl

-- The number in column i of r less f times q, by the numbers that stand there.
pub less_turn : (f : ℤ) (r q : List ℤ) (i : ℕ) {x y z : ℤ} → z ≡ x -ℤ f *ℤ y → x ≡ at r i → y ≡ at q i → z ≡ at (less f r q) i
less_turn f r q i e a b = e ∙ ap₂ (λ x y. x -ℤ f *ℤ y) a b ∙ sym (at_less f r q i)
