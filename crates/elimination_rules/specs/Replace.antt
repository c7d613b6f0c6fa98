-- "replace every unknown by its row": the equation so made has, at a choice, the value of the equation at what the table yields.
use Rattle.std.specs.Prelude.{◌≡◌, List, [], ◌∷◌, ℕ, ◌*◌, ◌≤◌, length, take, ℤ, pos, ◌+ℤ◌, ◌*ℤ◌}
use Rattle.std.proofs.Common.{sym, ◌∙◌, ap, ap₂, arith, length-take, get_or-take}
use Rattle.std.proofs.Math.ListN.{get_or-eq_default}
use Rattle.whole.specs.Cases.{by_less}
use Rattle.whole.specs.Identity.{identity, terms}
use Rattle.row.specs.Row.{at, plus, dot}
use Rattle.row.specs.Table.{add_rows, constants, replaced, row_values}
use Rattle.row.specs.Values.{at_plus, same_dot, plus_dot}
use Rattle.row.specs.Tables.{constants_low, constants_high, dot_added}
use Rattle.elimination_rules.specs.General.{Gap}
use Rattle.elimination_rules.specs.Zeros.{Zero, From, dot_below, dot_from}
use Rattle.elimination_rules.specs.Yield.{yield, yield_row, yield_past}

pub take_past : (v : ℕ) (e : List ℤ) → Zero (From v) (take v e)
take_past v e i h = get_or-eq_default (take v e) (pos 0) (omega (arith, length-take v e))

-- A row is its unknowns and its constants.
pub dot_parts : (u v : ℕ) (e x : List ℤ) → v ≤ u → Gap u v e → dot e x ≡ dot (take v e) x +ℤ dot (constants u e) x
dot_parts u v e x vu g =
    same_dot e (plus (pos 1) (take v e) (constants u e)) x (λ i. column i ∙ sym (at_plus (pos 1) (take v e) (constants u e) i))
    ∙ plus_dot (pos 1) (take v e) (constants u e) x ∙ one_more (dot (take v e) x) (dot (constants u e) x)
  where
    one_more : (a b : ℤ) → a +ℤ pos 1 *ℤ b ≡ a +ℤ b
    one_more a b = identity (a ∷ b ∷ []) (search terms depth 20) (search terms depth 20) tt

    left : (a : ℤ) → a ≡ a +ℤ pos 1 *ℤ pos 0
    left a = identity (a ∷ []) (search terms depth 20) (search terms depth 20) tt

    right : (a : ℤ) → a ≡ pos 0 +ℤ pos 1 *ℤ a
    right a = identity (a ∷ []) (search terms depth 20) (search terms depth 20) tt

    sum : {a b : ℤ} (i : ℕ) → at (take v e) i ≡ a → at (constants u e) i ≡ b → a +ℤ pos 1 *ℤ b ≡ at (take v e) i +ℤ pos 1 *ℤ at (constants u e) i
    sum i h k = ap₂ (λ a b. a +ℤ pos 1 *ℤ b) (sym h) (sym k)

    column : (i : ℕ) → at e i ≡ at (take v e) i +ℤ pos 1 *ℤ at (constants u e) i
    column i =
        by_less i v (λ h. left (at e i) ∙ sum i (get_or-take v e i (pos 0) h) (constants_low u e i (omega arith)))
        (λ h. by_less i u (λ k. g i h k ∙ sum i (take_past v e i h) (constants_low u e i k))
        (λ k. right (at e i) ∙ sum i (take_past v e i h) (constants_high u e i k)))

pub replaced_value : (u v w : ℕ) (t e z : List ℤ) → v ≤ u → v ≤ w → length e ≡ w → length t ≡ v * w → Gap u v e → dot (replaced u v t e) z ≡ dot e (yield w v t z)
replaced_value u v w t e z vu vw le lt g =
    ap (λ n. dot (add_rows n (take v e) t (constants u e)) z) le
    ∙ dot_added w v (take v e) t (constants u e) z (length-take v e ∙ omega arith) lt
    ∙ ap₂ ◌+ℤ◌ (dot_from u (constants u e) z y (constants_low u e) (λ i h. sym (yield_past w v t z i (omega arith))))
    (dot_below v (take v e) (row_values w v t z) y (take_past v e) (λ i h. sym (yield_row w v t z i h)))
    ∙ swap (dot (constants u e) y) (dot (take v e) y)
    ∙ sym (dot_parts u v e y vu g)
  where
    y : List ℤ
    y = yield w v t z

    swap : (a b : ℤ) → a +ℤ b ≡ b +ℤ a
    swap a b = identity (a ∷ b ∷ []) (search terms depth 20) (search terms depth 20) tt
