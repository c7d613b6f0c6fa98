-- Laws of the calls: what each answers, by how the checks went.
use Rattle.std.proofs.Common.{◌≡◌, refl, subst, true, false, List, [], ℕ, zero, suc, ◌*◌, ◌≤◌, ◌<◌, leb, ltb, ℤ, length, take, drop, arith}
use Rattle.std.proofs.lemmas.Bool.{leb-false, le-leb, lt-leb, lt-ltb, le-ltb, ltb-true}
use Rattle.elimination_rules.specs.Answer.{Answer, refuses}
use Rattle.elimination.proofs.Refusals.{refusal_of}
use Rattle.sheet_rules.specs.Shape.{Shape, shape_of, lines_at}
use Rattle.sheet_rules.specs.Lines.{unit_at, reads}
use Rattle.sheet_rules.specs.Checks.{Checked, refused, well_formed, on_checked, checked_sheet}
use Rattle.sheet_rules.specs.Work.{solved}
use Rattle.sheet_rules.specs.Calls.{check_by, check, ask_by, ask_line, ask_channel, lines_part}
use Rattle.sheet_rules.specs.Formed.{Formed}
use Rattle.sheet_rules.specs.FormedLaws.{formed}
use Rattle.sheet_rules.specs.Answers.{Numbered, sheet_numbered}
use Rattle.sheet.specs.Asked.{is_there, room_for, answer_on, asked}
use Rattle.sheet.specs.declared.ask.Question as Q

-- The number of a check's refusal is never 0.
as_refusal : (lent : List ℤ) (a : Answer) (c : Checked) → Numbered c → on_checked (λ n i. refuses n i lent) a c ≡ on_checked (λ n i. refusal_of n i lent) a c
as_refusal lent a (refused zero i) h = absurd (omega arith)
as_refusal lent a (refused (suc n) i) h = refl
as_refusal lent a well_formed h = refl

-- ---- by how the checks went
module _ (s : List ℕ) {c : Checked} (e : checked_sheet s ≡ c) {sh : Shape} (h : sh ≡ shape_of s) where
  numbered : Numbered c
  numbered = subst Numbered e (sheet_numbered s)

  pub check_is : (lent : List ℤ) → check s lent ≡ on_checked (λ n i. refusal_of n i lent) (check_by sh s lent) c
  unfolding check
  check_is lent = rw (h, e) (as_refusal lent _ c numbered)

  pub line_is : (k : ℕ) (lent : List ℤ) → ask_line s k lent ≡ on_checked (λ n i. refusal_of n i lent) (ask_by sh s sh.lines k k (unit_at sh s k) lent) c
  unfolding ask_line
  line_is k lent = rw (h, e) (as_refusal lent _ c numbered)

  pub channel_is : (k : ℕ) (lent : List ℤ)
      → ask_channel s k lent ≡ on_checked (λ n i. refusal_of n i lent) (ask_by sh s sh.channels k sh.lines (reads sh s k) lent) c
  unfolding ask_channel
  channel_is k lent = rw (h, e) (as_refusal lent _ c numbered)

  pub lines_are : lines_part s ≡ on_checked (λ n i. []) (take (4 * sh.lines) (drop (lines_at sh) s)) c
  unfolding lines_part
  lines_are = rw (h, e)

module _ (s : List ℕ) (e : checked_sheet s ≡ well_formed) where
  pub formed_long : 16 ≤ length s
  formed_long = omega (arith, (formed s e).laid)

  pub formed_as : {sh : Shape} → sh ≡ shape_of s → Formed sh s
  formed_as h = rw h (formed s e)

-- ---- a question, by the tests that it meets
past : (k n : ℕ) → ltb k n ≡ false → leb n k ≡ true
past k n e = le-leb n k (omega (arith, leb-false (suc k) n e))

within : (k n : ℕ) → ltb k n ≡ true → leb n k ≡ false
within k n e = lt-leb n k (ltb-true k n e)

module _ (s : List ℕ) where
  pub asked_refused : (q : Q.Question) (lent : List ℤ) {n i : ℕ} → checked_sheet s ≡ refused n i → asked s q lent ≡ refuses n i lent
  unfolding check ask_line ask_channel
  asked_refused Q.TheVariants.Table lent e = rw e
  asked_refused (Q.TheVariants.Line k) lent e = rw e
  asked_refused (Q.TheVariants.Channel c) lent e = rw e

  pub lines_refused : {n i : ℕ} → checked_sheet s ≡ refused n i → lines_part s ≡ []
  unfolding lines_part
  lines_refused e = rw e

  module _ (e : checked_sheet s ≡ well_formed) {sh : Shape} (h : sh ≡ shape_of s) where
    pub lines_there : lines_part s ≡ take (4 * sh.lines) (drop (lines_at sh) s)
    unfolding lines_part
    lines_there = rw (h, e)

    pub asked_absent : (q : Q.Question) (lent : List ℤ) → is_there sh q ≡ false → asked s q lent ≡ refuses 11 0 lent
    unfolding ask_line ask_channel
    asked_absent Q.TheVariants.Table lent t = cc
    asked_absent (Q.TheVariants.Line k) lent t = rw (e, past k (shape_of s).lines (rw h at t))
    asked_absent (Q.TheVariants.Channel c) lent t = rw (e, past c (shape_of s).channels (rw h at t))

    pub asked_short : (q : Q.Question) (lent : List ℤ) → is_there sh q ≡ true → length lent < room_for sh q → asked s q lent ≡ refuses 8 0 lent
    unfolding check check_by ask_line ask_channel
    asked_short Q.TheVariants.Table lent t r = rw (e, lt-ltb _ _ (rw h at r))
    asked_short (Q.TheVariants.Line k) lent t r = rw (e, within k (shape_of s).lines (rw h at t), lt-ltb _ _ (rw h at r))
    asked_short (Q.TheVariants.Channel c) lent t r = rw (e, within c (shape_of s).channels (rw h at t), lt-ltb _ _ (rw h at r))

    pub asked_answered : (q : Q.Question) (lent : List ℤ) → is_there sh q ≡ true → room_for sh q ≤ length lent → asked s q lent ≡ answer_on sh s q lent (solved sh s)
    unfolding check check_by ask_line ask_channel
    asked_answered Q.TheVariants.Table lent t r = rw (h, e, le-ltb _ _ (rw h at r))
    asked_answered (Q.TheVariants.Line k) lent t r = rw (h, e, within k (shape_of s).lines (rw h at t), le-ltb _ _ (rw h at r))
    asked_answered (Q.TheVariants.Channel c) lent t r = rw (h, e, within c (shape_of s).channels (rw h at t), le-ltb _ _ (rw h at r))
