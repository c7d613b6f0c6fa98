-- The first v values of a function, as a list.
use Rattle.std.specs.Prelude.{◌≡◌, refl, List, [], ◌∷◌, ℕ, zero, suc, ◌<◌, length, ℤ}
use Rattle.std.proofs.Common.{ap, arith}
use Rattle.row.specs.Row.{at}

abbrev pub first_values : ℕ → (ℕ → ℤ) → List ℤ
first_values zero g = []
first_values (suc v) g = g 0 ∷ first_values v (λ i. g (suc i))

pub at_first : (v : ℕ) (g : ℕ → ℤ) (i : ℕ) → i < v → at (first_values v g) i ≡ g i
at_first zero g i h = absurd (omega arith)
at_first (suc v) g zero h = refl
at_first (suc v) g (suc i) h = at_first v (λ k. g (suc k)) i (omega arith)

pub length_first : (v : ℕ) (g : ℕ → ℤ) → length (first_values v g) ≡ v
length_first zero g = refl
length_first (suc v) g = ap suc (length_first v (λ k. g (suc k)))

-- A list of v numbers is its first v columns.
pub first_at : (v : ℕ) (l : List ℤ) → length l ≡ v → first_values v (at l) ≡ l
first_at zero [] h = refl
first_at zero (x ∷ l) h = absurd (omega arith)
first_at (suc v) [] h = absurd (omega arith)
first_at (suc v) (x ∷ l) h = ap (λ r. x ∷ r) (first_at v l (omega arith))
