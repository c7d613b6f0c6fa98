-- The work on a formed sheet: the table stands for the assignments at which every line's equations are zero, and so for the units
-- under which every line agrees.
use Rattle.std.specs.Prelude.{◌≡◌, ◌↔◌, ℕ, ◌+◌, ◌-◌, ◌≤◌, ◌<◌, ℤ}
use Rattle.std.proofs.Math.Path.{refl}
use Rattle.std.proofs.Common.{subst, arith}
use mathlib.Core.List.{List, [], ◌∷◌}
use Rattle.whole.specs.Cases.{by_less}
use Rattle.whole.specs.Division.{quotient}
use Rattle.whole.proofs.Division.{rounded_down}
use Rattle.elimination_rules.specs.Equation.{Outcome, done, clashed, widened, spent, one, Verdict, accepted, clash_at}
use Rattle.elimination_rules.specs.Call.{fuel}
use Rattle.elimination_rules.specs.Moves.{Stands, stands_for}
use Rattle.elimination_rules.specs.Course.{Constant, None}
use Rattle.elimination_rules.proofs.Course.{OutcomeStands}
use Rattle.elimination_rules.specs.Fold.{With, start_stands}
use Rattle.elimination_rules.proofs.Fold.{one_stands, one_clash}
use Rattle.elimination_rules.specs.Columns.{whole, constant_whole, stands_column}
use Rattle.elimination_rules.specs.Units.{Units, in_base, MostGeneral, units_general}
use Rattle.sheet_rules.specs.Shape.{Shape}
use Rattle.sheet_rules.specs.Lines.{equations_at}
use Rattle.sheet_rules.specs.Work.{on_done, equations, line_outcome, solved}
use Rattle.sheet_rules.specs.Agree.{IsBase, Agrees, FirstClash}
use Rattle.sheet_rules.specs.Formed.{Formed}
use Rattle.sheet_rules.specs.UnitRows.{Fitting, Each}
use Rattle.sheet_rules.proofs.UnitRows.{equations_fit}
use Rattle.sheet_rules.proofs.WorkKept.{line_ind, LineKeeps, WorkKeeps, solved_ind}
use Rattle.sheet_rules.specs.Bridge.{assigned, ZeroAt}
use Rattle.sheet_rules.proofs.Bridge.{line_agrees}
use Rattle.sheet_rules.specs.LinesStand.{general_agrees}

-- The equations of the first n lines are zero at y.
abbrev pub LinesZero : Shape → List ℕ → ℕ → List ℤ → Type 0
LinesZero sh s n y = (k : ℕ) → k < n → ZeroAt (equations_at sh s k) y

-- A clash at line i: the lines before it have a table that stands for them, and with it there is a base that has none.
pub record LineClash (sh : Shape) (s : List ℕ) (i : ℕ) : Type 0 where
  pub among : i < sh.lines
  pub table : List ℤ
  pub word : ℕ
  pub before : Stands sh.unknown_columns sh.unknowns sh.columns (LinesZero sh s i) table [] word
  pub none : None sh.unknown_columns sh.columns (LinesZero sh s (i + 1))

-- ---- sets of units
-- The same set, said otherwise.
general_for : {u v w : ℕ} {A : Units → Type 0} {t : List ℤ} {f : ℕ} (A' : Units → Type 0) → ((x : Units) → A x ↔ A' x)
    → MostGeneral u v w A t f → MostGeneral u v w A' t f
general_for A' h g = record {
  solves = λ x. (h _).0 (g.solves x);
  choice = g.choice;
  yielded = λ x a. g.yielded x ((h x).1 a);
  same = g.same;
  only = g.only;
}

module _ (sh : Shape) (s : List ℕ) (F : Formed sh s) where
  abbrev u : ℕ
  u = sh.unknown_columns

  abbrev v : ℕ
  v = sh.unknowns

  abbrev w : ℕ
  w = sh.columns

  vu : v ≤ u
  vu = omega (arith, F.laid)

  abbrev For : (List ℤ → Type 0) → Outcome → Type 0
  For S o = OutcomeStands u v w vu S rounded_down o

  none_of : {S : List ℤ → Type 0} (S' : List ℤ → Type 0) → ((y : List ℤ) → S' y → S y) → None u w S → None u w S'
  none_of S' h p = record { at_column = p.at_column; from = p.from; to = p.to; none = λ y c z. p.none y c (h y z) }

  -- The same set, said otherwise.
  outcome_for : {S : List ℤ → Type 0} (S' : List ℤ → Type 0) → ((y : List ℤ) → S y → S' y) → ((y : List ℤ) → S' y → S y) → (o : Outcome) → For S o → For S' o
  outcome_for S' g h (done t k f) p = stands_for S' g h p
  outcome_for S' g h clashed p = none_of S' h p
  outcome_for S' g h widened p = tt
  outcome_for S' g h spent p = tt

  -- ---- the equations of a line
  module _ (S : List ℤ → Type 0) (e : List ℤ) (es : List (List ℤ)) (fit : Fitting sh e) (t : List ℤ) (k f : ℕ) (p : Stands u v w S t [] f) where
    on_done_lem : (go : List ℤ → ℕ → ℕ → Outcome) → ((t' : List ℤ) (k' f' : ℕ) → Stands u v w (With S e) t' [] f' → For (λ y. With S e y × ZeroAt es y) (go t' k' f'))
        → (o : Outcome) → one quotient fuel u v t e k f ≡ o → For (λ y. S y × ZeroAt (e ∷ es) y) (on_done go o)
    on_done_lem go h (done t' k' f') q =
        outcome_for (λ y. S y × ZeroAt (e ∷ es) y) (λ y z. (z.0.0, (z.0.1, z.1))) (λ y z. ((z.0, z.1.0), z.1.1)) (go t' k' f')
        (h t' k' f' (one_stands rounded_down fuel u v w vu (omega (arith, F.laid)) S t e k f fit.long fit.gap p q))
    on_done_lem go h clashed q =
        none_of (λ y. S y × ZeroAt (e ∷ es) y) (λ y z. (z.0, z.1.0))
        (one_clash rounded_down fuel u v w vu (omega (arith, F.laid)) S t e k f fit.long fit.gap p q)
    on_done_lem go h widened q = tt
    on_done_lem go h spent q = tt

  equations_stand : (S : List ℤ → Type 0) (es : List (List ℤ)) → Each (Fitting sh) es → (t : List ℤ) (k f : ℕ) → Stands u v w S t [] f
      → For (λ y. S y × ZeroAt es y) (equations sh es t k f)
  unfolding equations
  equations_stand S [] fit t k f p = stands_for (λ y. S y × Unit {0}) (λ y z. (z, tt)) (λ y z. z.0) p
  equations_stand S (e ∷ es) fit t k f p =
      on_done_lem S e es fit.0 t k f p (λ t' k' f'. equations sh es t' k' f') (λ t' k' f' q. equations_stand (With S e) es fit.1 t' k' f' q)
      (one quotient fuel u v t e k f) refl

  -- ---- the lines
  abbrev StandsAt : ℕ → List ℤ → ℕ → ℕ → Type 0
  StandsAt n t k f = Stands u v w (LinesZero sh s n) t [] f

  zero_more : (i : ℕ) (y : List ℤ) → LinesZero sh s i y × ZeroAt (equations_at sh s i) y → LinesZero sh s (i + 1) y
  zero_more i y p k h = by_less k i (λ l. p.0 k l) (λ l. let e : k ≡ i = omega arith in rw e p.1)

  line_stands : (i : ℕ) (t : List ℤ) (k f : ℕ) → i < sh.lines → StandsAt i t k f
      → LineKeeps sh s StandsAt (LineClash sh s) (Unit {0}) i (line_outcome sh s i t k f)
  line_stands i t k f h p =
      line_ind sh s i t k f (LineKeeps sh s StandsAt (LineClash sh s) (Unit {0}) i)
      (λ _. by (equations sh (equations_at sh s i) t k f)
      (outcome_for (LinesZero sh s (i + 1)) (zero_more i) (λ y z. (λ j l. z j (omega arith), z i (omega arith)))
      (equations sh (equations_at sh s i) t k f) (equations_stand (LinesZero sh s i) (equations_at sh s i) (equations_fit sh s F i h) t k f p)))
      tt
    where
      by : (o : Outcome) → For (LinesZero sh s (i + 1)) o → LineKeeps sh s StandsAt (LineClash sh s) (Unit {0}) i o
      by (done t' k' f') q = q
      by clashed q = record { among = h; table = t; word = f; before = p; none = q }
      by widened q = tt
      by spent q = tt

  abbrev Promised : Verdict → Type 0
  Promised a = WorkKeeps sh s StandsAt (LineClash sh s) (Unit {0}) a

  all_stand : Promised (solved sh s)
  all_stand =
      solved_ind sh s StandsAt (LineClash sh s) (Unit {0}) line_stands
      (stands_for (LinesZero sh s 0) (λ y _ k h. absurd (omega arith)) (λ y _. tt) (start_stands u v w (omega (arith, F.laid))))

  -- ---- in units
  zero_agrees : (n : ℕ) → n ≤ sh.lines → (x : Units) → ((base : ℕ) → IsBase sh base → LinesZero sh s n (assigned sh x base)) ↔ Agrees sh s n x
  zero_agrees n l x = (
    λ p k h. (line_agrees sh s F x k (omega arith)).0 (λ base i. p base i k h),
    λ p base i k h. (line_agrees sh s F x k (omega arith)).1 (p k h) base i,
  )

  stands_general : (n : ℕ) → n ≤ sh.lines → {t : List ℤ} {f : ℕ} → Stands u v w (LinesZero sh s n) t [] f → MostGeneral u v w (Agrees sh s n) t f
  stands_general n l {t} {f} p =
      general_for (Agrees sh s n) (zero_agrees n l)
      (units_general u v w t f p.kept.free (λ base a. LinesZero sh s n (whole u v (u + base) a))
      (λ base _. stands_column u v w (u + base) vu (omega arith) (LinesZero sh s n) t f p))

  none_agree : (n : ℕ) → n ≤ sh.lines → None u w (LinesZero sh s n) → (x : Units) → Agrees sh s n x → ⊥
  none_agree n l p x h =
      let b : ℕ = p.at_column - u in
      let e : u + b ≡ p.at_column = omega (arith, p.from) in
      p.none (assigned sh x b) (subst (λ c. Constant u c (assigned sh x b)) e (constant_whole u v (u + b) vu (in_base v x b)))
      ((zero_agrees n l x).1 h b (omega (arith, p.to)))

  -- An accepted sheet's table is most general.
  pub solved_general : {t : List ℤ} {k f : ℕ} → solved sh s ≡ accepted t k f → MostGeneral u v w (Agrees sh s sh.lines) t f
  solved_general e = stands_general sh.lines (omega arith) (subst Promised e all_stand)

  pub solved_clash : {n : ℕ} → solved sh s ≡ clash_at n → FirstClash sh s n
  solved_clash {n} e =
      let k : LineClash sh s n = subst Promised e all_stand in
      record {
        among = k.among;
        before = general_agrees sh s n (stands_general n (omega (arith, k.among)) k.before);
        none = λ a. none_agree (n + 1) (omega (arith, k.among)) k.none a.units (λ j h. a.agree j (omega arith));
      }
