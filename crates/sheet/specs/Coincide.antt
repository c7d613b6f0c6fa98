-- What the contracts of the calls say of their results: any two that one of them permits coincide, and a refusal leaves the lent
-- table as it was.
use Rattle.std.specs.Prelude.{◌≡◌, refl, ◌≢◌, List, ℕ, zero, suc, ◌<◌, ℤ, Result, Err}
use Rattle.std.proofs.Common.{sym, ◌∙◌, subst, arith}
use Rattle.row.specs.Judged.{judged_ind}
use Rattle.elimination_rules.specs.Equation.{Verdict, accepted, clash_at, wide_at, spent_all}
use Rattle.elimination_rules.specs.Answer.{Answer, heard, unanswered, refuses, accepts}
use Rattle.elimination_rules.specs.Call.{on_accepted}
use Rattle.elimination.specs.Heard.{answer_of}
use Rattle.elimination.specs.Coincide.{same_answer}
use Rattle.elimination.specs.declared.progress.Progress.{Progress}
use Rattle.sheet_rules.specs.Shape.{shape_of}
use Rattle.sheet_rules.specs.Checks.{on_checked, checked_sheet}
use Rattle.sheet_rules.specs.Lines.{unit_at, reads}
use Rattle.sheet_rules.specs.Work.{solved}
use Rattle.sheet_rules.specs.Calls.{check, ask_by, ask_line, ask_channel, lines_part}
use Rattle.sheet_rules.proofs.Answers.{check_ind, ask_ind, check_answered, line_answered, channel_answered}
use Rattle.sheet.specs.Refusals.{number_of, place_of, number_some, told_apart}
use Rattle.sheet.specs.declared.refusal.Refusal.{Refusal}

-- For a call with the answer a, where the table was lent.
pub record Settled (lent : List ℤ) (a : Answer) : Type 0 where
  pub answered : a ≢ unanswered
  pub coincide : (r r' : Result Progress Refusal) (t t' : List ℤ) → a ≡ answer_of number_of place_of r t → a ≡ answer_of number_of place_of r' t' → (r ≡ r') × (t ≡ t')
  pub refused : (r : Refusal) (t : List ℤ) → a ≡ answer_of number_of place_of (Err r) t → t ≡ lent
  pub any_refused : (n i : ℕ) (t : List ℤ) → a ≡ refuses (suc n) i t → t ≡ lent

abbrev Leaves : List ℤ → Answer → Type 0
Leaves lent (heard zero i k f t) = Unit {0}
Leaves lent (heard (suc n) i k f t) = t ≡ lent
Leaves lent unanswered = Unit {0}

left : (lent : List ℤ) (n i : ℕ) (t : List ℤ) → 0 < n → Leaves lent (refuses n i t) → t ≡ lent
left lent zero i t h l = absurd (omega arith)
left lent (suc n) i t h l = l

settled : (lent : List ℤ) (a : Answer) → a ≢ unanswered → Leaves lent a → Settled lent a
settled lent a h l =
    record {
      answered = h;
      coincide = same_answer number_of place_of number_some told_apart a;
      refused = λ r t e. left lent (number_of r) (place_of r) t (number_some r) (subst (Leaves lent) e l);
      any_refused = λ n i t e. subst (Leaves lent) e l;
    }

module _ (lent : List ℤ) where
  refusal_leaves : (n i : ℕ) → Leaves lent (refuses n i lent)
  refusal_leaves zero i = tt
  refusal_leaves (suc n) i = refl

  verdict_leaves : (go : List ℤ → ℕ → ℕ → Answer) → ((t : List ℤ) (k f : ℕ) → Leaves lent (go t k f)) → (a : Verdict) → Leaves lent (on_accepted go lent a)
  verdict_leaves go h (accepted t k f) = h t k f
  verdict_leaves go h (clash_at i) = refl
  verdict_leaves go h (wide_at i) = refl
  verdict_leaves go h spent_all = tt

module _ (s : List ℕ) (lent : List ℤ) where
  pub check_settled : Settled lent (check s lent)
  check_settled =
      settled lent (check s lent) (check_answered s lent)
      (check_ind s lent (Leaves lent) (λ n i _ _. refusal_leaves lent n i) refl (λ _. verdict_leaves lent _ (λ _ _ _. tt) (solved (shape_of s) s)))

  ask_leaves : (n i place : ℕ) (r : List ℤ) → Leaves lent (on_checked (λ n i. refuses n i lent) (ask_by (shape_of s) s n i place r lent) (checked_sheet s))
  ask_leaves n i place r =
      ask_ind s lent (Leaves lent) (λ n i _ _. refusal_leaves lent n i) refl n i place r refl
      (λ _ _. verdict_leaves lent _ (λ t k f. judged_ind (refuses 9 place lent) (λ row. accepts k f row lent) _ (Leaves lent) (λ _. tt) refl) (solved (shape_of s) s))

  pub line_settled : (k : ℕ) → Settled lent (ask_line s k lent)
  unfolding ask_line
  line_settled k = settled lent (ask_line s k lent) (line_answered s lent k) (ask_leaves (shape_of s).lines k k (unit_at (shape_of s) s k))

  pub channel_settled : (c : ℕ) → Settled lent (ask_channel s c lent)
  unfolding ask_channel
  channel_settled c = settled lent (ask_channel s c lent) (channel_answered s lent c) (ask_leaves (shape_of s).channels c (shape_of s).lines (reads (shape_of s) s c))

pub lines_coincide : (s l l' : List ℕ) → l ≡ lines_part s → l' ≡ lines_part s → l ≡ l'
lines_coincide s l l' e e' = e ∙ sym e'
