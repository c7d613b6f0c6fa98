-- Units as text: "factors in column order with `^e` unless e is 1, or `1` when there are none".
use Rattle.std.specs.Prelude.{List, [], ◌∷◌, ◌++◌, ℕ, zero, suc, ◌+◌, ◌-◌, ◌/◌, ◌%◌, eqb, ltb, ℤ, pos, negsuc, get_or}
use Rattle.whole.specs.Cases.{if}
use Rattle.row.specs.Row.{is_zero}
use Rattle.sheet_rules.specs.Quoted.{text}

-- The last k decimal digits of a number, with no zero in front where it has no more than k.
unfoldable pub digits : ℕ → ℕ → List ℕ
digits zero n = []
digits (suc k) n = if (ltb n 10) ((48 + n) ∷ []) (digits k (n / 10) ++ ((48 + n % 10) ∷ []))

abbrev pub decimal : ℕ → List ℕ
decimal n = digits 20 n

-- An exponent with its sign.
abbrev pub signed_text : ℤ → List ℕ
signed_text (pos n) = decimal n
signed_text (negsuc n) = text "-" ++ decimal (suc n)

abbrev pub power : ℤ → List ℕ
power (pos n) = if (eqb n 1) [] (text "^" ++ signed_text (pos n))
power (negsuc n) = text "^" ++ signed_text (negsuc n)

-- "the bases s, m, kg, A, K, mol, cd, pulse"
abbrev pub bases : List (List ℕ)
bases = text "s" ∷ text "m" ∷ text "kg" ∷ text "A" ∷ text "K" ∷ text "mol" ∷ text "cd" ∷ text "pulse" ∷ []

-- A name counted from one.
abbrev pub counted : List ℕ → ℕ → List ℕ
counted letter i = letter ++ decimal (i + 1)

-- The name of column j, where the first u are unknowns.
abbrev pub name : ℕ → ℕ → List ℕ
name u j = if (ltb j u) (counted (text "U") j) (get_or bases (j - u) [])

abbrev pub factor : ℕ → ℕ → ℤ → List ℕ
factor u j e = name u j ++ power e

-- The factors of a row whose first column is j: those whose exponent is not 0.
unfoldable pub factors : ℕ → ℕ → List ℤ → List (List ℕ)
factors u j [] = []
factors u j (e ∷ r) = if (is_zero e) [] (factor u j e ∷ []) ++ factors u (j + 1) r

abbrev pub or_one : List (List ℕ) → List (List ℕ)
or_one [] = text "1" ∷ []
or_one (f ∷ fs) = f ∷ fs

-- Texts with a separator between them.
unfoldable pub joined : List ℕ → List (List ℕ) → List ℕ
joined between [] = []
joined between (f ∷ []) = f
joined between (f ∷ g ∷ fs) = f ++ between ++ joined between (g ∷ fs)

abbrev pub unit_text : List ℕ → ℕ → List ℤ → List ℕ
unit_text between u r = joined between (or_one (factors u 0 r))
