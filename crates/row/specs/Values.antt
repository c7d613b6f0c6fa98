-- Laws of rows: a column of a sum, a value at an assignment.
use Rattle.std.specs.Prelude.{◌≡◌, refl, ◌≢◌, List, [], ◌∷◌, ℕ, zero, suc, ◌≤◌, length, ℤ, pos, neg_ℤ, ◌+ℤ◌, ◌-ℤ◌, ◌*ℤ◌}
use Rattle.std.proofs.Common.{sym, ◌∙◌, ap, ap₂, arith}
use Rattle.std.proofs.Math.IntN.{*ℤ-zero, *ℤ_comm, +ℤ_idl}
use Rattle.whole.specs.Identity.{identity, terms}
use Rattle.row.specs.Row.{at, plus, less, dot, single}

-- ---- columns of a sum
none_more : (x f : ℤ) → x ≡ x +ℤ f *ℤ pos 0
none_more x f = identity (x ∷ f ∷ []) (search terms depth 20) (search terms depth 20) tt

pub at_plus : (f : ℤ) (r s : List ℤ) (i : ℕ) → at (plus f r s) i ≡ at r i +ℤ f *ℤ at s i
unfolding plus
at_plus f [] [] i = none_more (pos 0) f
at_plus f [] (y ∷ s) zero = sym (+ℤ_idl (f *ℤ y))
at_plus f [] (y ∷ s) (suc i) = at_plus f [] s i
at_plus f (x ∷ r) [] i = none_more (at (x ∷ r) i) f
at_plus f (x ∷ r) (y ∷ s) zero = refl
at_plus f (x ∷ r) (y ∷ s) (suc i) = at_plus f r s i

pub minus_times : (x f y : ℤ) → x +ℤ neg_ℤ f *ℤ y ≡ x -ℤ f *ℤ y
minus_times x f y = identity (x ∷ f ∷ y ∷ []) (search terms depth 20) (search terms depth 20) tt

pub at_less : (f : ℤ) (r s : List ℤ) (i : ℕ) → at (less f r s) i ≡ at r i -ℤ f *ℤ at s i
at_less f r s i = at_plus (neg_ℤ f) r s i ∙ minus_times (at r i) f (at s i)

pub length_plus : (f : ℤ) (r s : List ℤ) → length s ≤ length r → length (plus f r s) ≡ length r
unfolding plus
length_plus f [] [] h = refl
length_plus f [] (y ∷ s) h = absurd (omega arith)
length_plus f (x ∷ r) [] h = refl
length_plus f (x ∷ r) (y ∷ s) h = ap suc (length_plus f r s (omega arith))

pub plus_none : (f : ℤ) (r : List ℤ) → plus f r [] ≡ r
unfolding plus
plus_none f [] = refl
plus_none f (x ∷ r) = refl

none_of : (x y : ℤ) → x +ℤ pos 0 *ℤ y ≡ x
none_of x y = identity (x ∷ y ∷ []) (search terms depth 20) (search terms depth 20) tt

-- None of s is r as it was.
pub plus_zero : (r s : List ℤ) → length s ≤ length r → plus (pos 0) r s ≡ r
unfolding plus
plus_zero [] [] h = refl
plus_zero [] (y ∷ s) h = absurd (omega arith)
plus_zero (x ∷ r) [] h = refl
plus_zero (x ∷ r) (y ∷ s) h = ap₂ ◌∷◌ (none_of x y) (plus_zero r s (omega arith))

-- ---- values
abbrev rest : List ℤ → List ℤ
rest [] = []
rest (x ∷ r) = r

at_rest : (r : List ℤ) (i : ℕ) → at (rest r) i ≡ at r (suc i)
at_rest [] i = refl
at_rest (x ∷ r) i = refl

pub dot_comm : (r a : List ℤ) → dot r a ≡ dot a r
unfolding dot
dot_comm [] [] = refl
dot_comm [] (y ∷ a) = refl
dot_comm (x ∷ r) [] = refl
dot_comm (x ∷ r) (y ∷ a) = ap₂ ◌+ℤ◌ (*ℤ_comm x y) (dot_comm r a)

pub dot_none : (r : List ℤ) → dot r [] ≡ pos 0
unfolding dot
dot_none [] = refl
dot_none (x ∷ r) = refl

pub none_dot : (a : List ℤ) → dot [] a ≡ pos 0
none_dot a = dot_comm [] a ∙ dot_none a

dot_first : (x : ℤ) (r a : List ℤ) → dot (x ∷ r) a ≡ x *ℤ at a 0 +ℤ dot r (rest a)
unfolding dot
dot_first x r [] = sym (ap₂ ◌+ℤ◌ (*ℤ-zero x) (dot_none r))
dot_first x r (y ∷ a) = refl

-- A value depends on the columns alone, and only where the row has something.
pub dot_agree : (r a b : List ℤ) → ((i : ℕ) → at r i *ℤ at a i ≡ at r i *ℤ at b i) → dot r a ≡ dot r b
unfolding dot
dot_agree [] a b h = refl
dot_agree (x ∷ r) a b h =
    dot_first x r a
    ∙ ap₂ ◌+ℤ◌ (h 0) (dot_agree r (rest a) (rest b) (λ i. rw (at_rest a i, at_rest b i) (h (suc i))))
    ∙ sym (dot_first x r b)

pub dot_same : (r a b : List ℤ) → ((i : ℕ) → at a i ≡ at b i) → dot r a ≡ dot r b
dot_same r a b h = dot_agree r a b (λ i. ap (λ z. at r i *ℤ z) (h i))

pub same_dot : (r s a : List ℤ) → ((i : ℕ) → at r i ≡ at s i) → dot r a ≡ dot s a
same_dot r s a h = dot_comm r a ∙ dot_same a r s h ∙ dot_comm a s

pub dot_zero : (r a : List ℤ) → ((i : ℕ) → at r i *ℤ at a i ≡ pos 0) → dot r a ≡ pos 0
dot_zero r a h = dot_agree r a [] (λ i. h i ∙ sym (*ℤ-zero (at r i))) ∙ dot_none r

none_law : (f : ℤ) → pos 0 ≡ pos 0 +ℤ f *ℤ pos 0
none_law f = none_more (pos 0) f

alone_law : (f y b d : ℤ) → f *ℤ y *ℤ b +ℤ (pos 0 +ℤ f *ℤ d) ≡ pos 0 +ℤ f *ℤ (y *ℤ b +ℤ d)
alone_law f y b d = identity (f ∷ y ∷ b ∷ d ∷ []) (search terms depth 20) (search terms depth 20) tt

pair_law : (x f y b d e : ℤ) → (x +ℤ f *ℤ y) *ℤ b +ℤ (d +ℤ f *ℤ e) ≡ (x *ℤ b +ℤ d) +ℤ f *ℤ (y *ℤ b +ℤ e)
pair_law x f y b d e = identity (x ∷ f ∷ y ∷ b ∷ d ∷ e ∷ []) (search terms depth 20) (search terms depth 20) tt

-- The value of a sum is the sum of the values.
pub plus_dot : (f : ℤ) (r s a : List ℤ) → dot (plus f r s) a ≡ dot r a +ℤ f *ℤ dot s a
unfolding plus dot
plus_dot f [] [] a = none_law f
plus_dot f [] (y ∷ s) [] = none_law f
plus_dot f [] (y ∷ s) (b ∷ a) = ap (λ z. f *ℤ y *ℤ b +ℤ z) (plus_dot f [] s a) ∙ alone_law f y b (dot s a)
plus_dot f (x ∷ r) [] a = none_more (dot (x ∷ r) a) f
plus_dot f (x ∷ r) (y ∷ s) [] = none_law f
plus_dot f (x ∷ r) (y ∷ s) (b ∷ a) = ap (λ z. (x +ℤ f *ℤ y) *ℤ b +ℤ z) (plus_dot f r s a) ∙ pair_law x f y b (dot r a) (dot s a)

pub dot_plus : (f : ℤ) (r a b : List ℤ) → dot r (plus f a b) ≡ dot r a +ℤ f *ℤ dot r b
dot_plus f r a b = dot_comm r (plus f a b) ∙ plus_dot f a b r ∙ ap₂ (λ x y. x +ℤ f *ℤ y) (dot_comm a r) (dot_comm b r)

pub less_dot : (f : ℤ) (r s a : List ℤ) → dot (less f r s) a ≡ dot r a -ℤ f *ℤ dot s a
less_dot f r s a = plus_dot (neg_ℤ f) r s a ∙ minus_times (dot r a) f (dot s a)

-- A row that is p times another has p times its value.
pub dot_times : (p : ℤ) (r s a : List ℤ) → ((i : ℕ) → at r i ≡ p *ℤ at s i) → dot r a ≡ p *ℤ dot s a
dot_times p r s a h =
    same_dot r (plus p [] s) a (λ i. h i ∙ sym (+ℤ_idl (p *ℤ at s i)) ∙ sym (at_plus p [] s i))
    ∙ plus_dot p [] s a
    ∙ ap (λ z. z +ℤ p *ℤ dot s a) (none_dot a)
    ∙ +ℤ_idl (p *ℤ dot s a)

-- ---- a single column
pub single_here : (j : ℕ) → at (single j) j ≡ pos 1
unfolding single
single_here zero = refl
single_here (suc j) = single_here j

pub single_other : (j i : ℕ) → i ≢ j → at (single j) i ≡ pos 0
unfolding single
single_other zero zero h = absurd (h refl)
single_other zero (suc i) h = refl
single_other (suc j) zero h = refl
single_other (suc j) (suc i) h = single_other j i (λ e. h (ap suc e))

last_law : (x z : ℤ) → z ≡ pos 0 → x *ℤ pos 1 +ℤ z ≡ x
last_law x z h = ap (λ d. x *ℤ pos 1 +ℤ d) h ∙ identity (x ∷ []) (search terms depth 20) (search terms depth 20) tt

next_law : (x z : ℤ) → x *ℤ pos 0 +ℤ z ≡ z
next_law x z = identity (x ∷ z ∷ []) (search terms depth 20) (search terms depth 20) tt

pub dot_single : (r : List ℤ) (j : ℕ) → dot r (single j) ≡ at r j
unfolding dot single
dot_single [] j = refl
dot_single (x ∷ r) zero = last_law x (dot r []) (dot_none r)
dot_single (x ∷ r) (suc j) = next_law x (dot r (single j)) ∙ dot_single r j
