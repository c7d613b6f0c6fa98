-- What the elimination promises: the statements, for a reader. There are w columns, the first u of them for unknowns, of which v
-- are used; the others are constants, the base units. The bases are independent of each other, so most is said of one of them,
-- column c: a row then has a value at an assignment of a number to each unknown, and a unit is such numbers taken together
-- (Units.antt). Words in quotation marks are document 01's or demand 3's.
use Rattle.std.specs.Prelude.{◌≡◌, true, List, [], ◌∷◌, ℕ, zero, suc, ◌*◌, ◌≤◌, ◌<◌, length, take, drop, ℤ, pos, ◌+ℤ◌}
use Rattle.whole.specs.Word.{bit}
use Rattle.row.specs.Row.{at, dot, all_in_limit}
use Rattle.row.specs.Table.{Rows}
use Rattle.elimination_rules.specs.Equation.{Verdict, accepted, clash_at, wide_at, spent_all}

-- "Columns V to 23 hold 0."
abbrev pub Gap : ℕ → ℕ → List ℤ → Type 0
Gap u v r = (i : ℕ) → v ≤ i → i < u → at r i ≡ pos 0

-- "Its column is now 0 everywhere and no longer free": an unknown's column that is not free, by the word f, holds 0.
abbrev pub Off : ℕ → ℕ → List ℤ → Type 0
Off u f r = (i : ℕ) → i < u → bit i f ≡ 0 → at r i ≡ pos 0

-- The value of a row in constant column c at an assignment a: the sum of its exponents times the numbers, and its constant.
unfoldable pub val : ℕ → ℕ → List ℤ → List ℤ → ℤ
val u c r a = dot (take u r) a +ℤ at r c

-- "the table yields units": of a choice z, the value of each of the v rows.
unfoldable pub values : ℕ → ℕ → ℕ → ℕ → List ℤ → List ℤ → List ℤ
values u c w zero t z = []
values u c w (suc v) t z = val u c (take w t) z ∷ values u c w v (drop w t) z

-- "An equation is .. set to zero": each of m equations is zero at a.
abbrev pub Holds : ℕ → ℕ → ℕ → ℕ → List ℤ → List ℤ → Type 0
Holds u c w m es a = Rows (λ e. val u c e a ≡ pos 0) w m es

-- A table of v rows and a word of free unknowns, as each equation leaves them.
pub record Kept (u v w : ℕ) (t : List ℤ) (f : ℕ) : Type 0 where
  pub free : (i : ℕ) → bit i f ≡ 1 → i < v
  pub zero_else : Rows (Off u f) w v t
  pub long : length t ≡ v * w
  pub limit : all_in_limit t ≡ true

-- A table is most general for the assignments A of constant column c.
pub record Column (u v w : ℕ) (A : List ℤ → Type 0) (t : List ℤ) (f c : ℕ) : Type 0 where
  -- "Give each free unknown any unit ..., exponents as large as you like, and the table yields units under which every line agrees."
  pub solves : (z : List ℤ) → A (values u c w v t z)
  -- "Every set of units under which all lines agree comes out of the table this way,
  pub choice : List ℤ → List ℤ
  pub yielded : (a : List ℤ) → A a → (j : ℕ) → j < v → at (values u c w v t (choice a)) j ≡ at a j
  -- from exactly one choice": only the free unknowns' numbers count, and two choices that differ there yield different units.
  pub same : (y z : List ℤ) → ((i : ℕ) → bit i f ≡ 1 → at y i ≡ at z i) → values u c w v t y ≡ values u c w v t z
  pub only : (y z : List ℤ) → values u c w v t y ≡ values u c w v t z → (i : ℕ) → bit i f ≡ 1 → at y i ≡ at z i

-- .. for m equations, in every constant column.
pub record General (u v w m : ℕ) (es t : List ℤ) (f : ℕ) : Type 0 where
  pub kept : Kept u v w t f
  pub column : (c : ℕ) → u ≤ c → c < w → Column u v w (Holds u c w m es) t f c

-- "the line named is the first whose lines so far, itself included, have none": equation n.
pub record Clashing (u w m : ℕ) (es : List ℤ) (n : ℕ) : Type 0 where
  pub among : n < m
  -- Those before it have a solution in every constant column.
  pub before : ℕ → List ℤ
  pub before_holds : (c : ℕ) → u ≤ c → c < w → Holds u c w n es (before c)
  -- With it there is a constant column in which they have none.
  pub at_column : ℕ
  pub from : u ≤ at_column
  pub to : at_column < w
  pub none : (a : List ℤ) → Holds u at_column w (suc n) es a → ⊥

-- What each verdict says of m equations. Past the limit nothing is promised; that fuel never runs out is shown in Fuel.antt.
abbrev pub Promise : ℕ → ℕ → ℕ → ℕ → List ℤ → Verdict → Type 0
Promise u v w m es (accepted t k f) = General u v w m es t f
Promise u v w m es (clash_at n) = Clashing u w m es n
Promise u v w m es (wide_at n) = Unit {0}
Promise u v w m es spent_all = Unit {0}

-- There is a solution in every constant column.
pub record Solvable (u w m : ℕ) (es : List ℤ) : Type 0 where
  pub solution : ℕ → List ℤ
  pub holds : (c : ℕ) → u ≤ c → c < w → Holds u c w m es (solution c)

-- "where .. no exponent passes the limit, the sheet is refused as a clash exactly when no such set exists"
abbrev pub Decided : ℕ → ℕ → ℕ → List ℤ → Verdict → Type 0
Decided u w m es (accepted t k f) = Solvable u w m es
Decided u w m es (clash_at n) = Solvable u w m es → ⊥
Decided u w m es (wide_at n) = Unit {0}
Decided u w m es spent_all = Unit {0}
