-- Laws of one round: what it comes to by its tests.
use mathlib.Core.Path.{◌≡◌, subst}
use mathlib.Core.Bool.{true, false}
use mathlib.Core.List.{List}
use Prim.Native.Nat.{ℕ, ◌-◌}
use native.Mathlib.Omega.{arith}
use lib.IntN.{ℤ, pos}
use lib.ListN.{length, take, drop, set, length-drop}
use lib.Seq.{take_all}
use Rattle.std.specs.Prelude.{Result, Ok, Err}
use Rattle.std.specs.Result.{IsErrAnd}
use Rattle.whole.specs.declared.number.PastLimit.{PastLimit}
use Rattle.whole.specs.Division.{quotient}
use Rattle.whole.specs.Word.{cleared}
use Rattle.row.specs.Row.{all_zero}
use Rattle.row.specs.Judged.{judged, on_judged, judged_of}
use Rattle.row.specs.Smallest.{column, smallest}
use Rattle.row.specs.Smaller.{Least}
use Rattle.elimination_rules.specs.Round.{Turn, swaps, upright, solved, again, clash, wide, turn}
use Rattle.elimination_rules.specs.Upright.{least_unknown}
use Rattle.elimination.specs.Requires.{Picked}
use Rattle.elimination.specs.Divided.{Divided}
use Rattle.elimination.specs.Room.{SameRoom}
use Rattle.elimination.specs.Views.{turn_of}
use Rattle.elimination.specs.declared.progress.Stop as S
use Rattle.elimination.specs.declared.round.Turned as T
use Rattle.elimination.specs.declared.room.Elimination.{Elimination}

-- A part up to the end, as the code computes it.
pub part_end : (u : ℕ) (r : List ℤ) → take (length r - u) (drop u r) ≡ drop u r
part_end u r = take_all (length r - u) (drop u r) (omega (arith, length-drop u r))

-- What the code says of a row past the limit.
pub said_wide : {a : Turn} → a ≡ wide → (r : Result T.Turned S.Stop) (t e : List ℤ) → IsErrAnd r (λ s. s ≡ S.TheVariants.Wide) → a ≡ turn_of r t e
said_wide w (Err S.TheVariants.Wide) t e h = w
said_wide w (Err S.TheVariants.Clash) t e h = cc
said_wide w (Ok x) t e h = absurd h

-- ---- the round that picked j, by the remainders r and the quotients q; t' is what is left of the table, judged
module _ (u v : ℕ) (t e : List ℤ) (f j : ℕ) {p : ℤ} {r q : List ℤ} (D : Divided e j p r q) where
  pub turn_clash : all_zero (take u r) ≡ true → all_zero (drop u r) ≡ false → turn quotient u v t e f j ≡ clash
  unfolding turn
  turn_clash a b = rw (← D.rest, a, b)

  module _ (t' : List ℤ) {b g : Result (Unit {0}) PastLimit} where
    pub turn_solved : all_zero (take u r) ≡ true → all_zero (drop u r) ≡ true → judged (swaps v j q t) ≡ judged_of b t' → b ≡ g
        → turn quotient u v t e f j ≡ on_judged wide (λ x. solved x (cleared f j)) (judged_of g t')
    unfolding turn
    turn_solved a b s x = rw (← D.rest, ← D.times, a, b, s, x)

    pub turn_again : all_zero (take u r) ≡ false → judged (swaps v j (set q j (pos 0)) t) ≡ judged_of b t' → b ≡ g
        → turn quotient u v t e f j ≡ on_judged wide (λ x. again x (set r j p)) (judged_of g t')
    unfolding turn
    turn_again a s x = rw (← D.rest, ← D.times, ← D.divisor, a, s, x)

-- ---- the same of s, which left b when it had divided
module _ {s b : Elimination} (f j : ℕ) {p : ℤ} (D : Divided (upright s.equation.now j) j p b.equation.now b.quotients.now) (T : b.table.now ≡ s.table.now) (R : SameRoom s b) where
  abbrev turned : Turn
  turned = turn quotient s.unknown_columns s.unknowns s.table.now (upright s.equation.now j) f j

  module _ (x : all_zero (take b.unknown_columns b.equation.now) ≡ true) where
    pub is_clash : all_zero (drop b.unknown_columns b.equation.now) ≡ false → turned ≡ clash
    unfolding turn
    is_clash y = rw (← D.rest, ← R.unknown_columns, x, y)

    module _ (y : all_zero (drop b.unknown_columns b.equation.now) ≡ true)
        {r : Result (Unit {0}) PastLimit} (t : List ℤ) (z : judged (swaps b.unknowns j b.quotients.now b.table.now) ≡ judged_of r t) where
      pub is_solved : {u : Unit {0}} → r ≡ Ok u → turned ≡ solved t (cleared f j)
      unfolding turn
      is_solved o = rw (← D.rest, ← D.times, ← R.unknown_columns, ← R.unknowns, ← T, x, y, z, o)

      pub solves_wide : {e : PastLimit} → r ≡ Err e → turned ≡ wide
      unfolding turn
      solves_wide o = rw (← D.rest, ← D.times, ← R.unknown_columns, ← R.unknowns, ← T, x, y, z, o)

  module _ (x : all_zero (take b.unknown_columns b.equation.now) ≡ false)
      {r : Result (Unit {0}) PastLimit} (t : List ℤ) (z : judged (swaps b.unknowns j (set b.quotients.now j (pos 0)) b.table.now) ≡ judged_of r t) where
    pub is_again : {u : Unit {0}} → r ≡ Ok u → turned ≡ again t (set b.equation.now j p)
    unfolding turn
    is_again o = rw (← D.rest, ← D.times, ← D.divisor, ← R.unknown_columns, ← R.unknowns, ← T, x, z, o)

    pub again_wide : {e : PastLimit} → r ≡ Err e → turned ≡ wide
    unfolding turn
    again_wide o = rw (← D.rest, ← D.times, ← D.divisor, ← R.unknown_columns, ← R.unknowns, ← T, x, z, o)

-- ---- the pick: an unknown that is not 0
pub is_picked : (u : ℕ) (e : List ℤ) (j a : ℕ) → smallest (take u e) ≡ column j a → Picked u j e
is_picked u e j a p =
    let l = subst (Least e u) p (least_unknown u e) in
    record { unknown = l.0; some = omega (arith, l.1, l.2) }
