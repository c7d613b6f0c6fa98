-- The constants of one column, and a set of assignments that one column rules out.
use Rattle.std.specs.Prelude.{◌≡◌, List, ℤ}
use Rattle.std.proofs.Common.{◌∙◌}
use Prim.Native.Nat.{ℕ, ◌≤◌, ◌<◌}
use Rattle.row.specs.Row.{at, dot, single}
use Rattle.row.specs.Values.{dot_single}
use Rattle.elimination_rules.specs.Zeros.{Zero, Below, dot_from}

-- The constants of column c: 1 there, and 0 in every other column from u on.
abbrev pub Constant : ℕ → ℕ → List ℤ → Type 0
Constant u c x = (i : ℕ) → u ≤ i → at x i ≡ at (single c) i

-- There is a constant column of which S has no assignment.
pub record None (u w : ℕ) (S : List ℤ → Type 0) : Type 0 where
  pub at_column : ℕ
  pub from : u ≤ at_column
  pub to : at_column < w
  pub none : (x : List ℤ) → Constant u at_column x → S x → ⊥

-- A row with no unknown has its constant for a value.
pub constant_value : (u c : ℕ) (r x : List ℤ) → Zero (Below u) r → Constant u c x → dot r x ≡ at r c
constant_value u c r x z k = dot_from u r x (single c) z k ∙ dot_single r c
