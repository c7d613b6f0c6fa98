-- What an answer to a call on a sheet says of the sheet and of the work on it.
use Rattle.std.specs.Prelude.{◌≡◌, refl, ◌≢◌, true, List, ◌++◌, ℕ, ◌+◌, ◌*◌, ◌≤◌, ◌<◌, leb, ltb, length, take, drop, ℤ}
use Rattle.std.proofs.Common.{sym, ◌∙◌, ap, subst, mul_comm, arith, take_at, drop_at}
use borrow.Author.Tests.{leb-false, le-ltb}
use Rattle.whole.specs.Cases.{if_ind}
use Rattle.row.specs.Row.{all_in_limit, dot}
use Rattle.row.specs.Judged.{judged_ind}
use Rattle.row.specs.Table.{replaced}
use Rattle.elimination_rules.specs.Equation.{Verdict, accepted, clash_at, wide_at, spent_all}
use Rattle.elimination_rules.specs.Answer.{Answer, heard, unanswered, refuses, accepts}
use Rattle.elimination_rules.specs.Call.{on_accepted, on_verdict}
use Rattle.elimination_rules.specs.General.{val}
use Rattle.elimination_rules.specs.Kept.{replaced_long}
use Rattle.elimination_rules.specs.Units.{Units, in_base, yields}
use Rattle.sheet_rules.specs.Shape.{Shape, shape_of}
use Rattle.sheet_rules.specs.Checks.{Checked, refused, well_formed, on_checked, checked_sheet}
use Rattle.sheet_rules.specs.Lines.{unit_at, reads}
use Rattle.sheet_rules.specs.Work.{solved}
use Rattle.sheet_rules.specs.Calls.{check_by, check, put_in, ask_by, ask_line, ask_channel}
use Rattle.sheet_rules.specs.Formed.{Formed}
use Rattle.sheet_rules.specs.FormedLaws.{formed}
use Rattle.sheet_rules.specs.UnitRows.{Fitting}
use Rattle.sheet_rules.proofs.UnitRows.{unit_fits, reads_fits}
use Rattle.sheet_rules.proofs.WorkKept.{solved_kept, solved_ends}
use Rattle.sheet_rules.specs.Bridge.{assigned}
use Rattle.sheet_rules.specs.PutIn.{replaced_unit}
use Rattle.sheet_rules.specs.Answers.{Numbered, sheet_numbered}

-- ---- two answers that cannot be the same
other_number : {n m i j k l f g : ℕ} {t r : List ℤ} {P : Type 0} → n ≢ m → heard n i k f t ≡ heard m j l g r → P
other_number h e = absurd (h (cc))

not_heard : {m j l g : ℕ} {r : List ℤ} {P : Type 0} → unanswered ≡ heard m j l g r → P
not_heard e = let z : ◌≡◌ {A = ℕ} 0 1 = cc in absurd (omega arith)

-- ---- what is written
written : (n : ℕ) (rows lent t : List ℤ) → length rows ≡ n → rows ++ drop (length rows) lent ≡ t → (take n t ≡ rows) × (drop n t ≡ drop n lent)
written n rows lent t l e = (
  ap (take n) (sym e) ∙ take_at rows (drop (length rows) lent) n l,
  ap (drop n) (sym e) ∙ drop_at rows (drop (length rows) lent) n l ∙ ap (λ m. drop m lent) l,
)

-- An accepted check: the sheet is solved, with the first numbers of the table, and the rest stays.
pub record Accepted (s : List ℕ) (lent : List ℤ) (k f : ℕ) (t : List ℤ) : Type 0 where
  pub is_formed : Formed (shape_of s) s
  pub solved_is : solved (shape_of s) s ≡ accepted (take (32 * (shape_of s).unknowns) t) k f
  pub rest : drop (32 * (shape_of s).unknowns) t ≡ drop (32 * (shape_of s).unknowns) lent

-- An accepted question i of n, for the row r: the sheet is solved, and the first numbers are the row with the table put in.
pub record Asked (s : List ℕ) (n i : ℕ) (r lent : List ℤ) (k f : ℕ) (t : List ℤ) : Type 0 where
  pub is_formed : Formed (shape_of s) s
  pub among : i < n
  pub fits : Fitting (shape_of s) r
  pub table : List ℤ
  pub solved_is : solved (shape_of s) s ≡ accepted table k f
  pub row_is : take 32 t ≡ replaced 24 (shape_of s).unknowns table r
  pub limit : all_in_limit (take 32 t) ≡ true
  pub rest : drop 32 t ≡ drop 32 lent

abbrev Answered : Answer → Type 0
Answered (heard n i k f t) = Unit {0}
Answered unanswered = ⊥

module _ (s : List ℕ) (lent : List ℤ) where
  abbrev sh : Shape
  sh = shape_of s

  -- Question i of n, with the place p, for the row r.
  abbrev ask : ℕ → ℕ → ℕ → List ℤ → Answer
  ask n i p r = on_checked (λ n i. refuses n i lent) (ask_by sh s n i p r lent) (checked_sheet s)

  -- ---- what holds of every refusal, and of the answer where the checks pass, holds of the call's answer
  module _ (P : Answer → Type 0) (refusal : (n i : ℕ) → 0 < n → n < 8 → P (refuses n i lent)) (short : P (refuses 8 0 lent)) where
    checked_ind : (a : Answer) → (Formed sh s → P a) → P (on_checked (λ n i. refuses n i lent) a (checked_sheet s))
    checked_ind a h = by (checked_sheet s) refl (sheet_numbered s)
      where
        by : (c : Checked) → checked_sheet s ≡ c → Numbered c → P (on_checked (λ n i. refuses n i lent) a c)
        by (refused n i) e p = refusal n i p.0 p.1
        by well_formed e p = h (formed s e)

    pub check_ind : (Formed sh s → P (on_verdict lent (solved sh s))) → P (check s lent)
    unfolding check check_by
    check_ind h =
        checked_ind (check_by sh s lent)
        (λ F. if_ind (ltb (length lent) (32 * sh.unknowns)) (refuses 8 0 lent) (on_verdict lent (solved sh s)) P (λ _. short) (λ _. h F))

    pub ask_ind : (n i p : ℕ) (r : List ℤ) → P (refuses 11 0 lent) → (Formed sh s → i < n → P (put_in sh p r lent (solved sh s))) → P (ask n i p r)
    ask_ind n i p r missing h =
        checked_ind (ask_by sh s n i p r lent)
        (λ F. if_ind (leb n i) (refuses 11 0 lent) _ P (λ _. missing)
        (λ e. if_ind (ltb (length lent) 32) (refuses 8 0 lent) (put_in sh p r lent (solved sh s)) P (λ _. short) (λ _. h F (leb-false n i e))))

  -- ---- accepted
  module _ (k f : ℕ) (t : List ℤ) where
    pub check_accepted : check s lent ≡ heard 0 0 k f t → Accepted s lent k f t
    check_accepted =
        check_ind (λ a. a ≡ heard 0 0 k f t → Accepted s lent k f t)
        (λ n i l m. other_number (omega arith)) (other_number (omega arith)) (λ F. by F (solved sh s) refl)
      where
        by : Formed sh s → (a : Verdict) → solved sh s ≡ a → on_verdict lent a ≡ heard 0 0 k f t → Accepted s lent k f t
        by F (accepted t₀ k₀ f₀) q = λ e.
            let l : length t₀ ≡ 32 * sh.unknowns = (solved_kept sh s F q).kept.long ∙ mul_comm sh.unknowns 32 in
            let now = written (32 * sh.unknowns) t₀ lent t l (cc) in
            record { is_formed = F; solved_is = let z = now.0 in cc; rest = now.1 }
        by F (clash_at i) q = other_number (omega arith)
        by F (wide_at i) q = other_number (omega arith)
        by F spent_all q = not_heard

    ask_accepted : (n i p : ℕ) (r : List ℤ) → (Formed sh s → i < n → Fitting sh r) → ask n i p r ≡ heard 0 0 k f t → Asked s n i r lent k f t
    ask_accepted n i p r fit =
        ask_ind (λ a. a ≡ heard 0 0 k f t → Asked s n i r lent k f t)
        (λ n i l m. other_number (omega arith)) (other_number (omega arith)) n i p r (other_number (omega arith)) (λ F l. by F l (fit F l) (solved sh s) refl)
      where
        put : List ℤ → List ℤ
        put t₀ = replaced 24 sh.unknowns t₀ r

        by : Formed sh s → i < n → Fitting sh r → (a : Verdict) → solved sh s ≡ a → put_in sh p r lent a ≡ heard 0 0 k f t → Asked s n i r lent k f t
        by F h x (accepted t₀ k₀ f₀) q =
            let l : length (put t₀) ≡ 32 =
            replaced_long 24 sh.unknowns 32 t₀ r x.long (omega (arith, F.laid)) (omega arith) (solved_kept sh s F q).kept.long in
            judged_ind (refuses 9 p lent) (λ row. accepts k₀ f₀ row lent) (put t₀) (λ a. a ≡ heard 0 0 k f t → Asked s n i r lent k f t)
            (λ m e. let now = written 32 (put t₀) lent t l (cc) in
            record { is_formed = F; among = h; fits = x; table = t₀; solved_is = cc; row_is = now.0; limit = ap all_in_limit now.0 ∙ m; rest = now.1 })
            (other_number (omega arith))
        by F h x (clash_at j) q = other_number (omega arith)
        by F h x (wide_at j) q = other_number (omega arith)
        by F h x spent_all q = not_heard

    pub line_asked : (i : ℕ) → ask_line s i lent ≡ heard 0 0 k f t → Asked s sh.lines i (unit_at sh s i) lent k f t
    unfolding ask_line
    line_asked i = ask_accepted sh.lines i i (unit_at sh s i) (λ F l. unit_fits sh s F i l)

    pub channel_asked : (c : ℕ) → ask_channel s c lent ≡ heard 0 0 k f t → Asked s sh.channels c (reads sh s c) lent k f t
    unfolding ask_channel
    channel_asked c = ask_accepted sh.channels c sh.lines (reads sh s c) (λ F l. reads_fits sh s F c l)

  -- ---- a clash
  pub check_clash : (i k f : ℕ) (t : List ℤ) → check s lent ≡ heard 10 i k f t → Formed sh s × (solved sh s ≡ clash_at i)
  check_clash i k f t =
      check_ind (λ a. a ≡ heard 10 i k f t → Formed sh s × (solved sh s ≡ clash_at i))
      (λ n i l m. other_number (omega arith)) (other_number (omega arith)) (λ F. by F (solved sh s) refl)
    where
      by : Formed sh s → (a : Verdict) → solved sh s ≡ a → on_verdict lent a ≡ heard 10 i k f t → Formed sh s × (solved sh s ≡ clash_at i)
      by F (accepted t₀ k₀ f₀) q = other_number (omega arith)
      by F (clash_at j) q = λ e. (F, cc)
      by F (wide_at j) q = other_number (omega arith)
      by F spent_all q = not_heard

  -- Where the checks pass and there is room, what is heard is the verdict.
  pub check_is : checked_sheet s ≡ well_formed → 32 * sh.unknowns ≤ length lent → check s lent ≡ on_verdict lent (solved sh s)
  unfolding check check_by
  check_is h room = rw (h, le-ltb (length lent) (32 * sh.unknowns) room)

  -- ---- every call is answered
  verdict_answered : (go : List ℤ → ℕ → ℕ → Answer) → ((t : List ℤ) (k f : ℕ) → Answered (go t k f)) → Formed sh s → Answered (on_accepted go lent (solved sh s))
  verdict_answered go h F = by (solved sh s) refl
    where
      by : (a : Verdict) → solved sh s ≡ a → Answered (on_accepted go lent a)
      by (accepted t k f) q = h t k f
      by (clash_at i) q = tt
      by (wide_at i) q = tt
      by spent_all q = solved_ends sh s F q

  pub check_answered : check s lent ≢ unanswered
  check_answered e = subst Answered e (check_ind Answered (λ _ _ _ _. tt) tt (verdict_answered (λ t k f. accepts k f t lent) (λ _ _ _. tt)))

  ask_answered : (n i p : ℕ) (r : List ℤ) → ask n i p r ≢ unanswered
  ask_answered n i p r e =
      subst Answered e
      (ask_ind Answered (λ _ _ _ _. tt) tt n i p r tt
      (λ F _. verdict_answered _ (λ t k f. judged_ind (refuses 9 p lent) (λ row. accepts k f row lent) _ Answered (λ _. tt) tt) F))

  pub line_answered : (i : ℕ) → ask_line s i lent ≢ unanswered
  unfolding ask_line
  line_answered i = ask_answered sh.lines i i (unit_at sh s i)

  pub channel_answered : (c : ℕ) → ask_channel s c lent ≢ unanswered
  unfolding ask_channel
  channel_answered c = ask_answered sh.channels c sh.lines (reads sh s c)

-- ---- the row of a question, with a choice put in
pub asked_unit : {s : List ℕ} {lent : List ℤ} {k f : ℕ} {t : List ℤ} {n i : ℕ} {r lent' : List ℤ} {k' f' : ℕ} {row : List ℤ}
    → Accepted s lent k f t → Asked s n i r lent' k' f' row → (x : Units) (base : ℕ) → let v = (shape_of s).unknowns in
    val 24 (24 + base) (take 32 row) (in_base v x base) ≡ dot r (assigned (shape_of s) (yields 24 v 32 (take (32 * v) t) x) base)
asked_unit {s} {t = t} {r = r} c a x base =
    let sh = shape_of s in
    let e : a.table ≡ take (32 * sh.unknowns) t = cc in
    ap (λ l. val 24 (24 + base) l (in_base sh.unknowns x base)) a.row_is
    ∙ replaced_unit sh s a.is_formed a.table _ (solved_kept sh s a.is_formed a.solved_is).kept x base r a.fits
    ∙ ap (λ l. dot r (assigned sh (yields 24 sh.unknowns 32 l x) base)) e
