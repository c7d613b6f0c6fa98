-- Cases: one `if` and its law, and two numbers compared.
use Rattle.std.specs.Prelude.{◌≡◌, refl, ◌≢◌, Bool, true, false, ℕ, ◌≤◌, ◌<◌, ltb}
use Rattle.std.proofs.Common.{arith, ltb-true, ltb-false}

abbrev pub if {ℓ} : {A : Type ℓ} → Bool → A → A → A
if true a b = a
if false a b = b

abbrev pub both : Bool → Bool → Bool
both a b = if a b false

-- What holds of either arm, each under its test, holds of the `if`.
pub if_ind : {A : Type 0} (b : Bool) (x y : A) (P : A → Type 0) → (b ≡ true → P x) → (b ≡ false → P y) → P (if b x y)
if_ind true x y P f g = f refl
if_ind false x y P f g = g refl

pub both_left : (a b : Bool) → both a b ≡ true → a ≡ true
both_left true b e = refl
both_left false b e = e

pub both_right : (a b : Bool) → both a b ≡ true → b ≡ true
both_right true b e = e
both_right false b e = cc

pub both_assoc : (a b c : Bool) → both a (both b c) ≡ both (both a b) c
both_assoc true b c = refl
both_assoc false b c = refl

pub not_both : {P : Type 0} → true ≡ false → P
not_both e = let z : ◌≡◌ {A = ℕ} 0 1 = cc in absurd (omega arith)

pub by_test : (b : Bool) {P : Type 0} → (b ≡ true → P) → (b ≡ false → P) → P
by_test true f g = f refl
by_test false f g = g refl

pub by_less : (i n : ℕ) {P : Type 0} → (i < n → P) → (n ≤ i → P) → P
by_less i n f g = by_test (ltb i n) (λ e. f (ltb-true i n e)) (λ e. g (ltb-false i n e))

pub by_equal : (i j : ℕ) {P : Type 0} → (i ≡ j → P) → (i ≢ j → P) → P
by_equal i j f g = by_less i j (λ h. g (λ e. omega arith)) (λ h. by_less j i (λ k. g (λ e. omega arith)) (λ k. f (omega arith)))
