-- What the contract of `eliminate` says of its results: any two that it permits coincide, and the rows of an accepted table are
-- within the limit.
use Rattle.std.specs.Prelude.{◌≡◌, true, List, [], ℕ, ◌*◌, ◌<◌, ℤ, take, Result, Ok, Err}
use Rattle.std.proofs.Common.{sym, ◌∙◌, ap, ap₂, arith}
use Rattle.row.specs.Row.{all_in_limit}
use Rattle.elimination_rules.specs.Answer.{Answer, heard, unanswered}
use Rattle.elimination_rules.specs.Call.{eliminated}
use Rattle.elimination_rules.proofs.Demand.{accepted_call}
use Rattle.elimination.specs.Heard.{answer_of}
use Rattle.elimination.specs.Refusals.{number_of, place_of, number_some, told_apart}
use Rattle.elimination.specs.declared.progress.Progress.{Progress}
use Rattle.elimination.specs.declared.refusal.Refusal.{Refusal}

-- What the caller hears, read back: a number, a place, rounds, the mask and the table.
abbrev number : Answer → ℕ
number (heard n i k f t) = n
number unanswered = 0

abbrev place : Answer → ℕ
place (heard n i k f t) = i
place unanswered = 0

abbrev rounds : Answer → ℕ
rounds (heard n i k f t) = k
rounds unanswered = 0

abbrev mask : Answer → ℕ
mask (heard n i k f t) = f
mask unanswered = 0

abbrev table : Answer → List ℤ
table (heard n i k f t) = t
table unanswered = []

-- For any call, and refusals that a number above 0 and a place tell apart: two results that say the same are the same.
module _ {E : Type 0} (number_of place_of : E → ℕ) (never_zero : (r : E) → 0 < number_of r) (told_apart : (r s : E) → number_of r ≡ number_of s → place_of r ≡ place_of s → r ≡ s) where
  same_result : (r r' : Result Progress E) (t t' : List ℤ) → answer_of number_of place_of r t ≡ answer_of number_of place_of r' t' → (r ≡ r') × (t ≡ t')
  same_result (Ok p) (Ok p') t t' e = (ap₂ (λ k f. Ok (record { rounds = k; free = f })) (ap rounds e) (ap mask e), ap table e)
  same_result (Ok p) (Err s) t t' e = absurd (omega (arith, ap number e, never_zero s))
  same_result (Err r) (Ok p) t t' e = absurd (omega (arith, ap number e, never_zero r))
  same_result (Err r) (Err s) t t' e = (ap Err (told_apart r s (ap number e) (ap place e)), ap table e)

  pub same_answer : (a : Answer) (r r' : Result Progress E) (t t' : List ℤ) → a ≡ answer_of number_of place_of r t → a ≡ answer_of number_of place_of r' t' → (r ≡ r') × (t ≡ t')
  same_answer a r r' t t' e e' = same_result r r' t t' (sym e ∙ e')

module _ (v : ℕ) (es lent : List ℤ) where
  pub coincide : (r r' : Result Progress Refusal) (t t' : List ℤ) → eliminated v es lent ≡ answer_of number_of place_of r t → eliminated v es lent ≡ answer_of number_of place_of r' t' → (r ≡ r') × (t ≡ t')
  coincide = same_answer number_of place_of number_some told_apart (eliminated v es lent)

  pub accepted_in_limit : (p : Progress) (t : List ℤ) → eliminated v es lent ≡ answer_of number_of place_of (Ok p) t → all_in_limit (take (32 * v) t) ≡ true
  accepted_in_limit p t e = (accepted_call v es lent p.rounds p.free t e).general.kept.limit
