-- Identities of ℤ by computation. To prove x ≡ y, two expressions in the numbers of a list:
--     identity (a ∷ b ∷ []) (search terms depth 20) (search terms depth 20) tt
-- `search` finds the two expressions, their difference is brought to a sum of products in order, and that sum is zero.
use Rattle.std.specs.Prelude.{◌≡◌, refl, Bool, true, false, not, cond, List, [], ◌∷◌, ℕ, T, leb, eqb, get_or, ℤ, pos, negsuc, neg_ℤ, ◌+ℤ◌, ◌-ℤ◌, ◌*ℤ◌}
use Rattle.std.proofs.Common.{sym, ◌∙◌, ap, ap₂, arith, eqb→eq}
use Rattle.std.proofs.Math.IntN.{zero-*ℤ, *ℤ-zero, +ℤ_idl, +ℤ_assoc}
use Rattle.whole.specs.Difference.{differences, as_difference}
use Rattle.whole.specs.Ring.{mul_assoc, mul_left_comm, add_left_comm, mul_add, add_mul, one_mul, minus_one_mul, equal_by_difference}

infixl 6 ◌⊕◌ ◌⊝◌
infixl 7 ◌⊗◌
pub data Expression : Type 0 where
  variable : ℕ → Expression
  constant : ℤ → Expression
  ◌⊕◌ : Expression → Expression → Expression
  ◌⊝◌ : Expression → Expression → Expression
  ◌⊗◌ : Expression → Expression → Expression
  minus : Expression → Expression

abbrev pub value : List ℤ → Expression → ℤ
value ρ (variable i) = get_or ρ i (pos 0)
value ρ (constant c) = c
value ρ (e ⊕ f) = value ρ e +ℤ value ρ f
value ρ (e ⊝ f) = value ρ e -ℤ value ρ f
value ρ (e ⊗ f) = value ρ e *ℤ value ρ f
value ρ (minus e) = neg_ℤ (value ρ e)

-- ---- sums of products: a product is a list of variables in order, a sum a list of coefficients and products in order
pub data Sum : Type 0 where
  nothing : Sum
  plus : ℤ → List ℕ → Sum → Sum

abbrev product : List ℤ → List ℕ → ℤ
product ρ [] = pos 1
product ρ (i ∷ m) = get_or ρ i (pos 0) *ℤ product ρ m

abbrev total : List ℤ → Sum → ℤ
total ρ nothing = pos 0
total ρ (plus c m p) = c *ℤ product ρ m +ℤ total ρ p

abbrev insert : ℕ → List ℕ → List ℕ
insert i [] = i ∷ []
insert i (j ∷ m) = cond (leb i j) (i ∷ j ∷ m) (j ∷ insert i m)

abbrev merge : List ℕ → List ℕ → List ℕ
merge [] n = n
merge (i ∷ m) n = insert i (merge m n)

abbrev same : List ℕ → List ℕ → Bool
same [] [] = true
same [] (j ∷ n) = false
same (i ∷ m) [] = false
same (i ∷ m) (j ∷ n) = cond (eqb i j) (same m n) false

abbrev ordered : List ℕ → List ℕ → Bool
ordered [] n = true
ordered (i ∷ m) [] = false
ordered (i ∷ m) (j ∷ n) = cond (eqb i j) (ordered m n) (leb i j)

abbrev join : ℤ → List ℕ → Sum → Sum
join c m nothing = plus c m nothing
join c m (plus d n p) =
    cond (same m n) (plus (c +ℤ d) m p) (cond (ordered m n) (plus c m (plus d n p)) (plus d n (join c m p)))

abbrev add : Sum → Sum → Sum
add nothing q = q
add (plus c m p) q = join c m (add p q)

abbrev scale : ℤ → List ℕ → Sum → Sum
scale c m nothing = nothing
scale c m (plus d n p) = join (c *ℤ d) (merge m n) (scale c m p)

abbrev multiply : Sum → Sum → Sum
multiply nothing q = nothing
multiply (plus c m p) q = add (scale c m q) (multiply p q)

abbrev pub normal : Expression → Sum
normal (variable i) = plus (pos 1) (i ∷ []) nothing
normal (constant c) = plus c [] nothing
normal (e ⊕ f) = add (normal e) (normal f)
normal (e ⊝ f) = add (normal e) (scale (negsuc 0) [] (normal f))
normal (e ⊗ f) = multiply (normal e) (normal f)
normal (minus e) = scale (negsuc 0) [] (normal e)

abbrev is_zero : ℤ → Bool
is_zero (pos n) = eqb n 0
is_zero (negsuc n) = false

abbrev pub vanishes : Sum → Bool
vanishes nothing = true
vanishes (plus c m p) = cond (is_zero c) (vanishes p) false

-- ---- each step keeps the value
cond_ind : {A : Type 0} (c : Bool) (x y : A) (P : A → Type 0) → (T c → P x) → (T (not c) → P y) → P (cond c x y)
cond_ind true x y P f g = f tt
cond_ind false x y P f g = g tt

same_is : (m n : List ℕ) → T (same m n) → m ≡ n
same_is [] [] t = refl
same_is [] (j ∷ n) t = absurd t
same_is (i ∷ m) [] t = absurd t
same_is (i ∷ m) (j ∷ n) t =
    cond_ind (eqb i j) (same m n) false (λ b. T b → i ∷ m ≡ j ∷ n) (λ h t. ap₂ ◌∷◌ (eqb→eq i j h) (same_is m n t)) (λ h t. absurd t) t

scale_law : (c x d y p : ℤ) → c *ℤ d *ℤ (x *ℤ y) +ℤ c *ℤ x *ℤ p ≡ c *ℤ x *ℤ (d *ℤ y +ℤ p)
scale_law c x d y p = simp (mul_add, mul_assoc, mul_left_comm)

variable_law : (x : ℤ) → pos 1 *ℤ (x *ℤ pos 1) +ℤ pos 0 ≡ x
variable_law x = rw (as_difference x) (simp differences (omega arith))

constant_law : (x : ℤ) → x *ℤ pos 1 +ℤ pos 0 ≡ x
constant_law x = rw (as_difference x) (simp differences (omega arith))

zero_is : (c : ℤ) → T (is_zero c) → c ≡ pos 0
zero_is (pos n) t = ap pos (eqb→eq n 0 t)
zero_is (negsuc n) t = absurd t

module _ (ρ : List ℤ) where
  insert_is : (i : ℕ) (m : List ℕ) → product ρ (insert i m) ≡ get_or ρ i (pos 0) *ℤ product ρ m
  insert_is i [] = refl
  insert_is i (j ∷ m) =
      cond_ind (leb i j) (i ∷ j ∷ m) (j ∷ insert i m) (λ l. product ρ l ≡ get_or ρ i (pos 0) *ℤ product ρ (j ∷ m)) (λ h. refl)
      (λ h. ap (λ x. get_or ρ j (pos 0) *ℤ x) (insert_is i m) ∙ mul_left_comm (get_or ρ j (pos 0)) (get_or ρ i (pos 0)) (product ρ m))

  merge_is : (m n : List ℕ) → product ρ (merge m n) ≡ product ρ m *ℤ product ρ n
  merge_is [] n = sym (one_mul (product ρ n))
  merge_is (i ∷ m) n =
      insert_is i (merge m n)
      ∙ ap (λ x. get_or ρ i (pos 0) *ℤ x) (merge_is m n)
      ∙ sym (mul_assoc (get_or ρ i (pos 0)) (product ρ m) (product ρ n))

  join_is : (c : ℤ) (m : List ℕ) (p : Sum) → total ρ (join c m p) ≡ c *ℤ product ρ m +ℤ total ρ p
  join_is c m nothing = refl
  join_is c m (plus d n p) =
      cond_ind (same m n) (plus (c +ℤ d) m p) (cond (ordered m n) (plus c m (plus d n p)) (plus d n (join c m p))) Joined
      (λ h. ap (λ x. x +ℤ total ρ p) (add_mul c d (product ρ m)) ∙ +ℤ_assoc (c *ℤ product ρ m) (d *ℤ product ρ m) (total ρ p) ∙ ap (λ k. c *ℤ product ρ m +ℤ (d *ℤ product ρ k +ℤ total ρ p)) (same_is m n h))
      (λ h. cond_ind (ordered m n) (plus c m (plus d n p)) (plus d n (join c m p)) Joined (λ k. refl)
      (λ k. ap (λ x. d *ℤ product ρ n +ℤ x) (join_is c m p) ∙ add_left_comm (d *ℤ product ρ n) (c *ℤ product ρ m) (total ρ p)))
    where
      Joined : Sum → Type 0
      Joined l = total ρ l ≡ c *ℤ product ρ m +ℤ total ρ (plus d n p)

  add_is : (p q : Sum) → total ρ (add p q) ≡ total ρ p +ℤ total ρ q
  add_is nothing q = sym (+ℤ_idl (total ρ q))
  add_is (plus c m p) q =
      join_is c m (add p q) ∙ ap (λ x. c *ℤ product ρ m +ℤ x) (add_is p q) ∙ sym (+ℤ_assoc (c *ℤ product ρ m) (total ρ p) (total ρ q))

  scale_is : (c : ℤ) (m : List ℕ) (p : Sum) → total ρ (scale c m p) ≡ c *ℤ product ρ m *ℤ total ρ p
  scale_is c m nothing = sym (*ℤ-zero (c *ℤ product ρ m))
  scale_is c m (plus d n p) =
      join_is (c *ℤ d) (merge m n) (scale c m p)
      ∙ ap₂ (λ x y. c *ℤ d *ℤ x +ℤ y) (merge_is m n) (scale_is c m p)
      ∙ scale_law c (product ρ m) d (product ρ n) (total ρ p)

  multiply_is : (p q : Sum) → total ρ (multiply p q) ≡ total ρ p *ℤ total ρ q
  multiply_is nothing q = sym (zero-*ℤ (total ρ q))
  multiply_is (plus c m p) q =
      add_is (scale c m q) (multiply p q)
      ∙ ap₂ ◌+ℤ◌ (scale_is c m q) (multiply_is p q)
      ∙ sym (add_mul (c *ℤ product ρ m) (total ρ p) (total ρ q))

  minus_is : (p : Sum) → total ρ (scale (negsuc 0) [] p) ≡ neg_ℤ (total ρ p)
  minus_is p = scale_is (negsuc 0) [] p ∙ minus_one_mul (total ρ p)

  normal_is : (e : Expression) → total ρ (normal e) ≡ value ρ e
  normal_is (variable i) = variable_law (get_or ρ i (pos 0))
  normal_is (constant c) = constant_law c
  normal_is (e ⊕ f) = add_is (normal e) (normal f) ∙ ap₂ ◌+ℤ◌ (normal_is e) (normal_is f)
  normal_is (e ⊝ f) = add_is (normal e) (scale (negsuc 0) [] (normal f)) ∙ ap₂ ◌+ℤ◌ (normal_is e) (minus_is (normal f) ∙ ap neg_ℤ (normal_is f))
  normal_is (e ⊗ f) = multiply_is (normal e) (normal f) ∙ ap₂ ◌*ℤ◌ (normal_is e) (normal_is f)
  normal_is (minus e) = minus_is (normal e) ∙ ap neg_ℤ (normal_is e)

  vanishes_is : (p : Sum) → T (vanishes p) → total ρ p ≡ pos 0
  vanishes_is nothing t = refl
  vanishes_is (plus c m p) t =
      cond_ind (is_zero c) (vanishes p) false (λ b. T b → total ρ (plus c m p) ≡ pos 0)
      (λ z u. ap₂ ◌+ℤ◌ (ap (λ x. x *ℤ product ρ m) (zero_is c z) ∙ zero-*ℤ (product ρ m)) (vanishes_is p u))
      (λ z u. absurd u)
      t

  equal_values : (e f : Expression) → T (vanishes (normal (e ⊝ f))) → value ρ e ≡ value ρ f
  equal_values e f t = (equal_by_difference (value ρ e) (value ρ f)).0 (sym (normal_is (e ⊝ f)) ∙ vanishes_is (normal (e ⊝ f)) t)

-- ---- the expression of a number, found by `search`
pub record Term (ρ : List ℤ) (z : ℤ) : Type 0 where
  pub expression : Expression
  pub is : value ρ expression ≡ z

module _ {ρ : List ℤ} where
  abbrev pub of_add : (x y : ℤ) → Term ρ x → Term ρ y → Term ρ (x +ℤ y)
  of_add x y f g = record { expression = f.expression ⊕ g.expression; is = ap₂ ◌+ℤ◌ f.is g.is }

  abbrev pub of_mul : (x y : ℤ) → Term ρ x → Term ρ y → Term ρ (x *ℤ y)
  of_mul x y f g = record { expression = f.expression ⊗ g.expression; is = ap₂ ◌*ℤ◌ f.is g.is }

  abbrev pub of_neg : (x : ℤ) → Term ρ x → Term ρ (neg_ℤ x)
  of_neg x f = record { expression = minus f.expression; is = ap neg_ℤ f.is }

  abbrev pub of_pos : (n : ℕ) → Term ρ (pos n)
  of_pos n = record { expression = constant (pos n); is = refl }

  abbrev pub of_negsuc : (n : ℕ) → Term ρ (negsuc n)
  of_negsuc n = record { expression = constant (negsuc n); is = refl }

abbrev pub of_0 : {ρ : List ℤ} (a : ℤ) → Term (a ∷ ρ) a
of_0 a = record { expression = variable 0; is = refl }

abbrev pub of_1 : {ρ : List ℤ} (a b : ℤ) → Term (a ∷ b ∷ ρ) b
of_1 a b = record { expression = variable 1; is = refl }

abbrev pub of_2 : {ρ : List ℤ} (a b c : ℤ) → Term (a ∷ b ∷ c ∷ ρ) c
of_2 a b c = record { expression = variable 2; is = refl }

abbrev pub of_3 : {ρ : List ℤ} (a b c d : ℤ) → Term (a ∷ b ∷ c ∷ d ∷ ρ) d
of_3 a b c d = record { expression = variable 3; is = refl }

abbrev pub of_4 : {ρ : List ℤ} (a b c d e : ℤ) → Term (a ∷ b ∷ c ∷ d ∷ e ∷ ρ) e
of_4 a b c d e = record { expression = variable 4; is = refl }

abbrev pub of_5 : {ρ : List ℤ} (a b c d e f : ℤ) → Term (a ∷ b ∷ c ∷ d ∷ e ∷ f ∷ ρ) f
of_5 a b c d e f = record { expression = variable 5; is = refl }

abbrev pub of_6 : {ρ : List ℤ} (a b c d e f g : ℤ) → Term (a ∷ b ∷ c ∷ d ∷ e ∷ f ∷ g ∷ ρ) g
of_6 a b c d e f g = record { expression = variable 6; is = refl }

abbrev pub of_7 : {ρ : List ℤ} (a b c d e f g h : ℤ) → Term (a ∷ b ∷ c ∷ d ∷ e ∷ f ∷ g ∷ h ∷ ρ) h
of_7 a b c d e f g h = record { expression = variable 7; is = refl }

pub ruleset terms = (of_0, of_1, of_2, of_3, of_4, of_5, of_6, of_7, of_add, of_mul, of_neg, of_pos, of_negsuc)

pub identity : (ρ : List ℤ) {x y : ℤ} (f : Term ρ x) (g : Term ρ y) → T (vanishes (normal (f.expression ⊝ g.expression))) → x ≡ y
identity ρ f g t = sym f.is ∙ equal_values ρ f.expression g.expression t ∙ g.is
