-- A table that is correct but too special, "say every unknown dimensionless where that happens to agree", is not most general.
use Rattle.std.specs.Prelude.{◌≡◌, ◌≢◌, List, ℕ, zero, suc, ◌≤◌, ◌<◌, ℤ}
use Rattle.std.proofs.Common.{sym, ◌∙◌, ap, arith}
use Rattle.whole.specs.Cases.{by_less}
use Rattle.whole.specs.Word.{bit, count}
use Rattle.row.specs.Row.{at}
use Rattle.elimination_rules.specs.General.{values, Holds, Column, General}

-- A word whose count is 0 has no bit set.
pub count_none : (v f : ℕ) → count v f ≡ 0 → (i : ℕ) → i < v → bit i f ≡ 0
unfolding count
count_none zero f h i l = absurd (omega arith)
count_none (suc v) f h i l = by_less i v (λ k. count_none v f (omega arith) i k) (λ k. let e : i ≡ v = omega arith in rw e (omega arith))

-- Where two solutions differ, some unknown is free.
pub not_too_special : {u v w m : ℕ} {es t : List ℤ} {f : ℕ} → General u v w m es t f
    → (c : ℕ) → u ≤ c → c < w → (a b : List ℤ) → Holds u c w m es a → Holds u c w m es b → (j : ℕ) → j < v → at a j ≢ at b j → 0 < count v f
not_too_special {u} {v} {w} {m} {es} {t} {f} g c uc cw a b h k j jv different =
    by_less 0 (count v f) (λ l. l) (λ l. absurd (different (sym (s.yielded a h j jv) ∙ ap (λ x. at x j) (one_yield (omega arith)) ∙ s.yielded b k j jv)))
  where
    s : Column u v w (Holds u c w m es) t f c
    s = g.column c uc cw

    one_yield : count v f ≡ 0 → values u c w v t (s.choice a) ≡ values u c w v t (s.choice b)
    one_yield z = s.same (s.choice a) (s.choice b) (λ i e. absurd (omega (arith, count_none v f z i (g.kept.free i e))))

-- Any two most general tables yield the same: what one yields of a choice, the other yields of some choice.
pub same_yields : {u v w m : ℕ} {es t t' : List ℤ} {f f' : ℕ} → General u v w m es t f → (g : General u v w m es t' f')
    → (c : ℕ) (uc : u ≤ c) (cw : c < w) (z : List ℤ) (j : ℕ) → j < v
    → at (values u c w v t' ((g.column c uc cw).choice (values u c w v t z))) j ≡ at (values u c w v t z) j
same_yields {u} {v} {w} {t = t} s g c uc cw z j jv = (g.column c uc cw).yielded (values u c w v t z) ((s.column c uc cw).solves z) j jv
