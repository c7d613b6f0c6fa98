-- Demand 3 for the public call, of its definition `eliminated`, which the code's contract equates with what the code does. A call is
-- `heard` with number, place, rounds, mask and the lent table at exit: number 0 is accepted, 9 past the limit, 10 a clash.
use Rattle.std.specs.Prelude.{◌≡◌, refl, ◌≢◌, ◌↔◌, List, ◌++◌, ℕ, ◌+◌, ◌*◌, ◌/◌, ◌≤◌, ◌<◌, ◌^◌, length, take, drop, ℤ, pos}
use Rattle.std.proofs.Common.{sym, ◌∙◌, ap, subst, mul_comm, arith, take_at, drop_at}
use Rattle.whole.proofs.Division.{rounded_down}
use Rattle.whole.specs.Word.{first_set, count}
use Rattle.row.specs.Table.{start}
use Rattle.elimination_rules.specs.Equation.{Verdict, accepted, clash_at, wide_at, spent_all}
use Rattle.elimination_rules.specs.Answer.{Answer, heard, unanswered, refuses}
use Rattle.elimination_rules.specs.Call.{fuel, on_verdict, eliminated_by, eliminated}
use Rattle.elimination_rules.specs.General.{General, Promise}
use Rattle.elimination_rules.specs.Theorem.{decided}
use Rattle.elimination_rules.proofs.Theorem.{elimination_is, rounds_fit}
use Rattle.elimination_rules.specs.First.{at_first}
use Rattle.elimination_rules.specs.Special.{not_too_special}
use Rattle.elimination_rules.proofs.Fold.{VerdictKeeps}
use Rattle.elimination_rules.proofs.Rounds.{each_ended}
use Rattle.elimination_rules.specs.Units.{Units, in_base, Agree, Agreeing, FirstClash, general_units, solvable_units, clash_units, clash_all}
use Rattle.elimination_rules.specs.Checked.{Checked}
use Rattle.elimination_rules.proofs.Checked.{verdict, checked_answer, call_ind, answer_checked}
use Rattle.elimination_rules.specs.Demand.{Accepted}

module _ (u w v : ℕ) (uw : u ≤ w) (es lent : List ℤ) where
  abbrev m : ℕ
  m = length es / w

  abbrev answer : Answer
  answer = eliminated_by u w v es lent

  promised : Checked u w v es lent → {a : Verdict} → verdict u w v es lent ≡ a → Promise u v w m es a
  promised c s = subst (Promise u v w m es) s (elimination_is rounded_down fuel u v w m es c.unknowns uw c.whole c.gap)

  abbrev Ended : Verdict → Type 0
  Ended a = VerdictKeeps (λ t k f. Unit {0}) ⊥ a

  ended : Checked u w v es lent → Ended (verdict u w v es lent)
  ended c = each_ended rounded_down fuel u v w m 0 es (start w v) 0 (first_set v) (omega arith) c.whole

  -- ---- accepted
  module _ (k f : ℕ) (t : List ℤ) where
    written : Checked u w v es lent → (t₀ : List ℤ) → verdict u w v es lent ≡ accepted t₀ k f → t ≡ t₀ ++ drop (length t₀) lent → Accepted u w v es lent k f t
    written c t₀ s e =
        let g : General u v w m es t₀ f = promised c s in
        let l : length t₀ ≡ w * v = g.kept.long ∙ mul_comm v w in
        let is : take (w * v) t ≡ t₀ = ap (take (w * v)) e ∙ take_at t₀ (drop (length t₀) lent) (w * v) l in
        record {
          checked = c;
          general = rw is g;
          units = rw is (general_units u v w g);
          rest = ap (drop (w * v)) e ∙ drop_at t₀ (drop (length t₀) lent) (w * v) l ∙ ap (λ n. drop n lent) l;
          rounds = omega (arith, rounds_fit rounded_down fuel u v w m es c.unknowns uw c.whole s);
        }

    pub accepts_general : answer ≡ heard 0 0 k f t → Accepted u w v es lent k f t
    accepts_general h = by (verdict u w v es lent) refl (sym (checked_answer u w v es lent c) ∙ h)
      where
        c : Checked u w v es lent
        c = answer_checked u w v es lent 0 0 k f t (omega arith) (omega arith) (omega arith) (omega arith) h

        by : (a : Verdict) → verdict u w v es lent ≡ a → on_verdict lent a ≡ heard 0 0 k f t → Accepted u w v es lent k f t
        by (accepted t₀ k₀ f₀) s e = written c t₀ (cc) (cc)
        by (clash_at i) s e = let z : ◌≡◌ {A = ℕ} 10 0 = cc in absurd (omega arith)
        by (wide_at i) s e = let z : ◌≡◌ {A = ℕ} 9 0 = cc in absurd (omega arith)
        by spent_all s e = let z : ◌≡◌ {A = ℕ} 0 1 = cc in absurd (omega arith)

  -- ---- a clash
  pub clash_first : (i k f : ℕ) (t : List ℤ) → answer ≡ heard 10 i k f t → FirstClash u v w m es i
  clash_first i k f t h = by (verdict u w v es lent) refl (sym (checked_answer u w v es lent c) ∙ h)
    where
      c : Checked u w v es lent
      c = answer_checked u w v es lent 10 i k f t (omega arith) (omega arith) (omega arith) (omega arith) h

      by : (a : Verdict) → verdict u w v es lent ≡ a → on_verdict lent a ≡ heard 10 i k f t → FirstClash u v w m es i
      by (accepted t₀ k₀ f₀) s e = let z : ◌≡◌ {A = ℕ} 0 10 = cc in absurd (omega arith)
      by (clash_at j) s e = let z : j ≡ i = cc in subst (FirstClash u v w m es) z (clash_units u v w c.gap (promised c s))
      by (wide_at j) s e = let z : ◌≡◌ {A = ℕ} 9 10 = cc in absurd (omega arith)
      by spent_all s e = let z : ◌≡◌ {A = ℕ} 0 1 = cc in absurd (omega arith)

  -- "where the sheet is well formed, the table has room and no exponent passes the limit", that is, where the answer is not 9 (which
  -- the definition gives exactly when the work meets a number past the limit), "the sheet is refused as a clash exactly when no such
  -- set exists".
  pub clash_exactly : Checked u w v es lent → ((i : ℕ) → answer ≢ refuses 9 i lent) → ((i : ℕ) × (answer ≡ refuses 10 i lent)) ↔ (Agreeing u v w m es → ⊥)
  clash_exactly c narrow = (λ h. clash_all u v w (clash_first h.0 0 0 lent h.1), λ none. by (verdict u w v es lent) refl none)
    where
      by : (a : Verdict) → verdict u w v es lent ≡ a → (Agreeing u v w m es → ⊥) → (i : ℕ) × (answer ≡ refuses 10 i lent)
      by (accepted t k f) s none = absurd (none (solvable_units u v w c.gap (decided u v w m es (accepted t k f) (promised c s))))
      by (clash_at i) s none = (i, checked_answer u w v es lent c ∙ ap (on_verdict lent) s)
      by (wide_at i) s none = absurd (narrow i (checked_answer u w v es lent c ∙ ap (on_verdict lent) s))
      by spent_all s none = absurd (subst Ended s (ended c))

  -- .. and it is accepted exactly when such a set exists.
  pub accepts_exactly : Checked u w v es lent → ((i : ℕ) → answer ≢ refuses 9 i lent) → ((k f : ℕ) × (t : List ℤ) × (answer ≡ heard 0 0 k f t)) ↔ Agreeing u v w m es
  accepts_exactly c narrow = (λ h. agreeing h.0 h.1 h.2 h.3, λ some. by (verdict u w v es lent) refl some)
    where
      agreeing : (k f : ℕ) (t : List ℤ) → answer ≡ heard 0 0 k f t → Agreeing u v w m es
      agreeing k f t h = record { units = _; agree = (accepts_general k f t h).units.solves (λ j b. pos 0) }

      by : (a : Verdict) → verdict u w v es lent ≡ a → Agreeing u v w m es → (k f : ℕ) × (t : List ℤ) × (answer ≡ heard 0 0 k f t)
      by (accepted t k f) s some = (k, f, _, checked_answer u w v es lent c ∙ ap (on_verdict lent) s)
      by (clash_at i) s some = absurd (clash_all u v w (clash_units u v w c.gap (promised c s)) some)
      by (wide_at i) s some = absurd (narrow i (checked_answer u w v es lent c ∙ ap (on_verdict lent) s))
      by spent_all s some = absurd (subst Ended s (ended c))

  -- ---- every call is answered
  abbrev Answered : Answer → Type 0
  Answered (heard n i k f t) = Unit {0}
  Answered unanswered = ⊥

  on_verdict_lem : (a : Verdict) → Ended a → Answered (on_verdict lent a)
  on_verdict_lem (accepted t k f) e = tt
  on_verdict_lem (clash_at i) e = tt
  on_verdict_lem (wide_at i) e = tt
  on_verdict_lem spent_all e = e

  pub answered : answer ≢ unanswered
  answered h = subst Answered h (call_ind u w v es lent Answered tt tt (λ _. tt) tt (λ c. on_verdict_lem (verdict u w v es lent) (ended c)))

-- ---- document 01's columns: 24 unknowns, 8 bases, 32 numbers
module _ (v : ℕ) (es lent : List ℤ) where
  -- "Take an accepted sheet": the first 32V numbers are most general for the equations, and the rest of the table stays.
  pub accepted_call : (k f : ℕ) (t : List ℤ) → eliminated v es lent ≡ heard 0 0 k f t → Accepted 24 32 v es lent k f t
  unfolding eliminated
  accepted_call k f t h = accepts_general 24 32 v (omega arith) es lent k f t h

  -- The rounds fit the answer's word.
  pub rounds_call : (k f : ℕ) (t : List ℤ) → eliminated v es lent ≡ heard 0 0 k f t → k < 2 ^ 32
  rounds_call k f t h = let a = accepted_call k f t h in omega (arith, a.rounds, a.checked.unknowns)

  -- "the line named is the first whose lines so far, itself included, have none"
  pub clash_call : (i k f : ℕ) (t : List ℤ) → eliminated v es lent ≡ heard 10 i k f t → FirstClash 24 v 32 (length es / 32) es i
  unfolding eliminated
  clash_call i k f t h = clash_first 24 32 v (omega arith) es lent i k f t h

  -- "refused as a clash exactly when no such set exists", and accepted exactly when one does.
  pub clash_call_exactly : Checked 24 32 v es lent → ((i : ℕ) → eliminated v es lent ≢ refuses 9 i lent)
      → ((i : ℕ) × (eliminated v es lent ≡ refuses 10 i lent)) ↔ (Agreeing 24 v 32 (length es / 32) es → ⊥)
  unfolding eliminated
  clash_call_exactly c h = clash_exactly 24 32 v (omega arith) es lent c h

  pub accepts_call_exactly : Checked 24 32 v es lent → ((i : ℕ) → eliminated v es lent ≢ refuses 9 i lent)
      → ((k f : ℕ) × (t : List ℤ) × (eliminated v es lent ≡ heard 0 0 k f t)) ↔ Agreeing 24 v 32 (length es / 32) es
  unfolding eliminated
  accepts_call_exactly c h = accepts_exactly 24 32 v (omega arith) es lent c h

  pub answered_call : eliminated v es lent ≢ unanswered
  unfolding eliminated
  answered_call = answered 24 32 v (omega arith) es lent

  -- Where every equation agrees under each of two sets of units that differ, some unknown is free: no table is too special.
  pub special_call : (k f : ℕ) (t : List ℤ) → eliminated v es lent ≡ heard 0 0 k f t
      → (x y : Units) → Agree 24 v 32 (length es / 32) es x → Agree 24 v 32 (length es / 32) es y
      → (j b : ℕ) → j < v → 24 + b < 32 → x j b ≢ y j b → 0 < count v f
  special_call k f t h x y ax ay j b jv l different =
      not_too_special (accepted_call k f t h).general (24 + b) (omega arith) l (in_base v x b) (in_base v y b) (ax b l) (ay b l) j jv
      (λ e. different (sym (at_first v (λ i. x i b) j jv) ∙ e ∙ at_first v (λ i. y i b) j jv))
