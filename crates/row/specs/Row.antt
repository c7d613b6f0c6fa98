-- Rows of exponents, of any number of columns.
use Rattle.std.specs.Prelude.{Bool, true, List, [], ◌∷◌, ℕ, zero, suc, eqb, get_or, ℤ, pos, neg_ℤ, nat_abs, ◌+ℤ◌, ◌*ℤ◌}
use Rattle.whole.specs.Cases.{both}
use Rattle.whole.specs.Size.{in_limit}

-- The exponent in column i, 0 past the end.
abbrev pub at : List ℤ → ℕ → ℤ
at r i = get_or r i (pos 0)

unfoldable pub all {ℓ} : {A : Type ℓ} → (A → Bool) → List A → Bool
all p [] = true
all p (x ∷ xs) = both (p x) (all p xs)

abbrev pub all_in_limit : List ℤ → Bool
all_in_limit r = all in_limit r

abbrev pub is_zero : ℤ → Bool
is_zero z = eqb (nat_abs z) 0

abbrev pub all_zero : List ℤ → Bool
all_zero r = all is_zero r

-- r and f times s, column by column; the shorter row counts as filled up with zeros.
unfoldable pub plus : ℤ → List ℤ → List ℤ → List ℤ
plus f [] [] = []
plus f [] (y ∷ s) = (f *ℤ y) ∷ plus f [] s
plus f (x ∷ r) [] = x ∷ r
plus f (x ∷ r) (y ∷ s) = (x +ℤ f *ℤ y) ∷ plus f r s

-- r less f times s.
abbrev pub less : ℤ → List ℤ → List ℤ → List ℤ
less f r s = plus (neg_ℤ f) r s

-- The value of a row at an assignment: the sum of exponent times number, column by column.
unfoldable pub dot : List ℤ → List ℤ → ℤ
dot [] a = pos 0
dot (x ∷ r) [] = pos 0
dot (x ∷ r) (y ∷ a) = x *ℤ y +ℤ dot r a

-- 1 in column j and 0 in those before it.
unfoldable pub single : ℕ → List ℤ
single zero = pos 1 ∷ []
single (suc j) = pos 0 ∷ single j
