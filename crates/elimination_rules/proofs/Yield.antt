-- What a table makes of a choice, and how a choice moves when an unknown is replaced: a row with j replaced has, at a choice, the
-- value that the row had at the choice moved. This holds for any q.
use Rattle.std.specs.Prelude.{◌≡◌, List, [], ◌∷◌, ◌++◌, ℕ, zero, suc, ◌*◌, ◌<◌, length, drop, ℤ, negsuc, ◌+ℤ◌, ◌-ℤ◌, ◌*ℤ◌}
use Rattle.std.proofs.Common.{sym, ◌∙◌, ap₂, arith}
use Rattle.std.proofs.Math.Path.{ap}
use Rattle.std.proofs.Math.Seq.{drop-nil}
use Rattle.whole.specs.Identity.{identity, terms}
use Rattle.row.specs.Row.{at, plus, dot, single}
use Rattle.row.specs.Values.{plus_none, less_dot}
use Rattle.row.specs.Tables.{values_each}
use Rattle.elimination_rules.specs.Round.{swap}
use Rattle.elimination_rules.proofs.Swap.{swapped, length_swap}
use Rattle.elimination_rules.specs.Yield.{yield, moved, dot_moved}

pub dot_swap : (q : List ℤ) (j : ℕ) (r z : List ℤ) → dot (swap j q r) z ≡ dot r (moved (negsuc 0) q j z)
dot_swap q j r z = less_dot (at r j) r q z ∙ law (dot r z) (at r j) (dot q z) ∙ sym (dot_moved (negsuc 0) q j z r)
  where
    law : (d a e : ℤ) → d -ℤ a *ℤ e ≡ d +ℤ negsuc 0 *ℤ e *ℤ a
    law d a e = identity (d ∷ a ∷ e ∷ []) (search terms depth 20) (search terms depth 20) tt

drop_single : (c : ℤ) (z : List ℤ) (j v : ℕ) → j < v → drop v (plus c z (single j)) ≡ drop v z
unfolding plus single
drop_single c z j zero h = absurd (omega arith)
drop_single c [] zero (suc v) h = ap (drop v) (plus_none c []) ∙ drop-nil v
drop_single c [] (suc j) (suc v) h = drop_single c [] j v (omega arith) ∙ drop-nil v
drop_single c (x ∷ z) zero (suc v) h = ap (drop v) (plus_none c z)
drop_single c (x ∷ z) (suc j) (suc v) h = drop_single c z j v (omega arith)

pub yield_swapped : (w v j : ℕ) (q t z : List ℤ) → j < v → length q ≡ w → length t ≡ v * w → yield w v (swapped w v j q t) z ≡ yield w v t (moved (negsuc 0) q j z)
unfolding moved
yield_swapped w v j q t z h lq lt =
    ap₂ ◌++◌ (values_each (swap j q) w (length_swap w j q lq) (moved (negsuc 0) q j z) z (λ r _. dot_swap q j r z) v t lt)
    (sym (drop_single (negsuc 0 *ℤ dot q z) z j v h))
