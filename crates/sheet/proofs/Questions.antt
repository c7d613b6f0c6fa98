-- Laws of a question to an accepted sheet: the row that is asked for is within the limit, so that the table can be put in.
use Rattle.std.proofs.Common.{◌≡◌, refl, sym, ap, ◌∙◌, true, List, [], ℕ, ◌<◌, length, ℤ, nat_abs, pos, leb, ltb, Result, Ok, Err, arith}
use Rattle.std.specs.Result.{IsErrAnd}
use Rattle.std.proofs.lemmas.Bool.{leb-true, le-leb, ltb-true}
use Rattle.whole.specs.Cases.{both_left}
use Rattle.whole.specs.Size.{limit, in_limit}
use Rattle.row.specs.Row.{at, all_in_limit}
use Rattle.row.specs.Judged.{Judged, judged, on_judged}
use Rattle.row.specs.Table.{replaced}
use Rattle.row.specs.Tables.{all_at, all_of}
use Rattle.row.specs.Requires.{all_within, Replaceable}
use Rattle.elimination_rules.specs.Equation.{accepted}
use Rattle.elimination_rules.specs.Answer.{refuses, accepts}
use Rattle.elimination.specs.declared.progress.Progress.{Progress}
use Rattle.elimination.specs.Heard.{answer_of}
use Rattle.sheet_rules.specs.Shape.{Shape, channel}
use Rattle.sheet_rules.specs.Lines.{units, unit_at, reads}
use Rattle.sheet_rules.specs.Work.{solved}
use Rattle.sheet_rules.specs.Calls.{put_in}
use Rattle.sheet_rules.specs.Formed.{Formed}
use Rattle.sheet_rules.specs.Prefix.{channel_there}
use Rattle.sheet_rules.proofs.Prefix.{unit_of_lem}
use Rattle.sheet_rules.proofs.WorkKept.{solved_kept}
use Rattle.sheet.specs.Refusals.{number_of, place_of}
use Rattle.sheet.specs.Sources.{source_row}
use Rattle.sheet.specs.Asked.{is_there, answer_on}
use Rattle.sheet.specs.declared.ask.Question as Q
use Rattle.sheet.specs.declared.line.Source as S
use Rattle.sheet.specs.declared.refusal.Refusal.{Refusal}

small_in_limit : (r : List ℤ) → all_within 64 r ≡ true → all_in_limit r ≡ true
small_in_limit r e =
    all_of in_limit (pos 0) r
    (λ i h. le-leb (nat_abs (at r i)) limit (omega (arith, leb-true (nat_abs (at r i)) 64 (all_at (λ z. leb (nat_abs z) 64) (pos 0) r i e h))))

-- The row of a line or a channel that is asked for; a table has none.
abbrev pub asked_row : Shape → List ℕ → Q.Question → List ℤ
asked_row sh s Q.TheVariants.Table = []
asked_row sh s (Q.TheVariants.Line k) = unit_at sh s k
asked_row sh s (Q.TheVariants.Channel c) = reads sh s c

-- There is such a line or channel.
abbrev pub Asked : Shape → Q.Question → Type 0
Asked sh Q.TheVariants.Table = ⊥
Asked sh (Q.TheVariants.Line k) = k < sh.lines
Asked sh (Q.TheVariants.Channel c) = c < sh.channels

module _ {sh : Shape} {s : List ℕ} (F : Formed sh s) {t : List ℤ} {k f : ℕ} (e : solved sh s ≡ accepted t k f) where
  asked_in_limit : (q : Q.Question) → Asked sh q → all_in_limit (asked_row sh s q) ≡ true
  asked_in_limit Q.TheVariants.Table h = absurd h
  asked_in_limit (Q.TheVariants.Line i) h = (solved_kept sh s F e).units i h
  asked_in_limit (Q.TheVariants.Channel c) h = small_in_limit (reads sh s c) (both_left _ _ (F.good_records (channel sh s c) (channel_there F c h)))

  pub asked_replaceable : (q : Q.Question) → Asked sh q → (r sums out : List ℤ) → r ≡ asked_row sh s q
      → length r ≡ sh.columns → length sums ≡ sh.columns → length out ≡ sh.columns → Replaceable sh.unknown_columns sh.unknowns t r sums out
  asked_replaceable q h r sums out is lr ls lo =
      let kept = (solved_kept sh s F e).kept in
      record {
        table = kept.limit;
        equation = ap all_in_limit is ∙ asked_in_limit q h;
        unknowns = omega (arith, F.laid);
        columns = omega (arith, F.laid);
        few = omega (arith, F.laid);
        rows = rw lr kept.long;
        sums_long = omega arith;
        out_long = omega arith;
      }

-- What the answer is, where r is the row that is asked for, by how it is judged with the table put in.
pub asked_put : (sh : Shape) (s : List ℕ) {t : List ℤ} {k f : ℕ} → solved sh s ≡ accepted t k f → (q : Q.Question) (place : ℕ) (r lent : List ℤ) {j : Judged}
    → r ≡ asked_row sh s q → judged (replaced sh.unknown_columns sh.unknowns t r) ≡ j
    → put_in sh place (asked_row sh s q) lent (solved sh s) ≡ on_judged (refuses 9 place lent) (λ row. accepts k f row lent) j
asked_put sh s e q place r lent is by = rw (e, ← is, by)

-- The row that a question asks for is that of source x, and a result past the limit has the place i.
abbrev pub Sought : Shape → Q.Question → S.Source → ℕ → Type 0
Sought sh Q.TheVariants.Table x i = ⊥
Sought sh (Q.TheVariants.Line k) x i = (x ≡ S.TheVariants.Line k) × (i ≡ k)
Sought sh (Q.TheVariants.Channel c) x i = (x ≡ S.TheVariants.Channel c) × (i ≡ sh.lines)

module _ {sh : Shape} {s : List ℕ} (F : Formed sh s) {t : List ℤ} {k f : ℕ} (e : solved sh s ≡ accepted t k f) where
  abbrev row : S.Source → List ℤ
  row x = source_row sh s (units sh s sh.lines) x

  row_there : (j : ℕ) → ltb j sh.lines ≡ true → row (S.TheVariants.Line j) ≡ unit_at sh s j
  row_there j h = unit_of_lem sh s sh.lines j (ltb-true j sh.lines h)

  pub sought_in_limit : (q : Q.Question) (x : S.Source) (i : ℕ) → Sought sh q x i → is_there sh q ≡ true → all_in_limit (row x) ≡ true
  sought_in_limit Q.TheVariants.Table x i o h = absurd o
  sought_in_limit (Q.TheVariants.Line j) x i o h = ap all_in_limit (ap row o.0 ∙ row_there j h) ∙ (solved_kept sh s F e).units j (ltb-true j sh.lines h)
  sought_in_limit (Q.TheVariants.Channel c) x i o h =
      ap all_in_limit (ap row o.0) ∙ small_in_limit (reads sh s c) (both_left _ _ (F.good_records (channel sh s c) (channel_there F c (ltb-true c sh.channels h))))

  -- What the answer is, by how that row is judged with the table put in.
  pub sought_answer : (q : Q.Question) (x : S.Source) (i : ℕ) → Sought sh q x i → is_there sh q ≡ true → (lent : List ℤ) (j : Judged)
      → judged (replaced sh.unknown_columns sh.unknowns t (row x)) ≡ j
      → answer_on sh s q lent (solved sh s) ≡ on_judged (refuses 9 i lent) (λ r. accepts k f r lent) j
  sought_answer Q.TheVariants.Table x i o h lent judge by = absurd o
  sought_answer (Q.TheVariants.Line j) x i o h lent judge by = let is : unit_at sh s j ≡ row x = sym (ap row o.0 ∙ row_there j h) in rw (e, o.1, is, by)
  sought_answer (Q.TheVariants.Channel c) x i o h lent judge by = let is : reads sh s c ≡ row x = sym (ap row o.0) in rw (e, o.1, is, by)

-- What the code says of a refusal d.
pub said_refused : (d : Refusal) (r : Result Progress Refusal) (t : List ℤ) → IsErrAnd r (λ x. x ≡ d) → refuses (number_of d) (place_of d) t ≡ answer_of number_of place_of r t
said_refused d (Err x) t e = rw e refl
said_refused d (Ok p) t e = absurd e
