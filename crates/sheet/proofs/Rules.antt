-- Laws of the line table, by the number of a line's code.
use mathlib.Core.Path.{◌≡◌, refl}
use mathlib.Core.List.{List, [], ◌∷◌}
use Prim.Native.Nat.{ℕ, zero, suc}
use Rattle.std.specs.Prelude.{None}
use Rattle.sheet_rules.specs.Shape.{Line}
use Rattle.sheet_rules.specs.Prefix.{first_below, second_below}
use Rattle.sheet.specs.Store.{UnitSum, EquationSum}
use Rattle.sheet.specs.declared.line.Source as S
use Rattle.sheet.specs.declared.line.Sum as M

-- What good operands say.
pub ruleset below = (first_below, second_below)

-- What holds at each number of the table, and past it, holds of every byte.
pub by_code : (P : ℕ → Type 0) → P 0 → P 1 → P 2 → P 3 → P 4 → P 5 → P 6 → P 7 → P 8
    → ((n : ℕ) → P (suc (suc (suc (suc (suc (suc (suc (suc (suc n)))))))))) → (n : ℕ) → P n
by_code P a b c d e f g h i more zero = a
by_code P a b c d e f g h i more (suc zero) = b
by_code P a b c d e f g h i more (suc (suc zero)) = c
by_code P a b c d e f g h i more (suc (suc (suc zero))) = d
by_code P a b c d e f g h i more (suc (suc (suc (suc zero)))) = e
by_code P a b c d e f g h i more (suc (suc (suc (suc (suc zero))))) = f
by_code P a b c d e f g h i more (suc (suc (suc (suc (suc (suc zero)))))) = g
by_code P a b c d e f g h i more (suc (suc (suc (suc (suc (suc (suc zero))))))) = h
by_code P a b c d e f g h i more (suc (suc (suc (suc (suc (suc (suc (suc zero)))))))) = i
by_code P a b c d e f g h i more (suc (suc (suc (suc (suc (suc (suc (suc (suc n))))))))) = more n

-- n is none of these numbers, as a `match` tells it.
abbrev pub Others : List ℕ → ℕ → Type 0
Others [] n = Unit {0}
Others (m ∷ ms) n = Others ms n × (n ≡ m → ⊥)

module _ (a b z : ℕ) where
  abbrev coded : ℕ → Line
  coded n = record { code = n; a = a; b = b; last = z }

  pub no_unit : (n : ℕ) → Others (8 ∷ 6 ∷ 5 ∷ 4 ∷ 3 ∷ 2 ∷ 1 ∷ []) n → UnitSum (coded n) (M.TheVariants.Alone S.TheVariants.Nothing)
  no_unit =
      by_code (λ n. Others (8 ∷ 6 ∷ 5 ∷ 4 ∷ 3 ∷ 2 ∷ 1 ∷ []) n → UnitSum (coded n) (M.TheVariants.Alone S.TheVariants.Nothing))
      (λ h. search) (λ h. absurd (h.0.0.0.0.0.0.1 refl)) (λ h. absurd (h.0.0.0.0.0.1 refl)) (λ h. absurd (h.0.0.0.0.1 refl))
      (λ h. absurd (h.0.0.0.1 refl)) (λ h. absurd (h.0.0.1 refl)) (λ h. absurd (h.0.1 refl))
      (λ h. search) (λ h. absurd (h.1 refl)) (λ n h. search)

  pub no_equation : (n : ℕ) → Others (8 ∷ 6 ∷ 7 ∷ 3 ∷ 2 ∷ []) n → EquationSum (coded n) None
  no_equation =
      by_code (λ n. Others (8 ∷ 6 ∷ 7 ∷ 3 ∷ 2 ∷ []) n → EquationSum (coded n) None)
      (λ h. search) (λ h. search) (λ h. absurd (h.0.0.0.0.1 refl)) (λ h. absurd (h.0.0.0.1 refl))
      (λ h. search) (λ h. search) (λ h. absurd (h.0.1 refl))
      (λ h. absurd (h.0.0.1 refl)) (λ h. absurd (h.1 refl)) (λ n h. search)
