-- Laws of tables: lengths, limits, values, and what replacing does.
use Rattle.std.specs.Prelude.{◌≡◌, Bool, true, get_or, take, drop, set, replicate, ℤ, pos, ◌+ℤ◌, ◌*ℤ◌}
use Rattle.std.proofs.Math.Path.{refl, sym, ap, ap₂}
use Rattle.std.proofs.Common.{◌∙◌, length-take, length-drop, length-set, take_at}
use mathlib.Core.List.{List, [], ◌∷◌, ◌++◌}
use Prim.Native.Nat.{ℕ, zero, suc, ◌+◌, ◌*◌, ◌≤◌, ◌<◌}
use native.Mathlib.Omega.{arith}
use Rattle.std.proofs.Math.ListN.{length, length-append, get_or-append}
use Rattle.std.proofs.lemmas.List.{length-replicate, get_or-replicate}
use Rattle.std.proofs.Math.Seq.{drop_at, drop-nil}
use Rattle.std.proofs.Math.IntN.{+ℤ_idr}
use Rattle.whole.specs.Cases.{both, both_left, both_right, both_assoc}
use Rattle.whole.specs.Identity.{identity, terms}
use Rattle.row.specs.Row.{at, all, all_in_limit, plus, dot, single}
use Rattle.row.specs.Table.{each_row, add_rows, constants, itself, start_from, Rows, row_values}
use Rattle.row.specs.Values.{at_plus, length_plus, dot_comm, same_dot, plus_dot, dot_single}

-- ---- all of a list
pub all_append : {A : Type 0} (p : A → Bool) (r s : List A) → all p (r ++ s) ≡ both (all p r) (all p s)
unfolding all
all_append p [] s = refl
all_append p (x ∷ r) s = ap (both (p x)) (all_append p r s) ∙ both_assoc (p x) (all p r) (all p s)

pub all_both : {A : Type 0} (p : A → Bool) (r s : List A) → all p r ≡ true → all p s ≡ true → all p (r ++ s) ≡ true
all_both p r s h k = all_append p r s ∙ ap₂ both h k

pub all_at : {A : Type 0} (p : A → Bool) (d : A) (r : List A) (i : ℕ) → all p r ≡ true → i < length r → p (get_or r i d) ≡ true
unfolding all
all_at p d [] i e h = absurd (omega arith)
all_at p d (x ∷ r) zero e h = both_left (p x) (all p r) e
all_at p d (x ∷ r) (suc i) e h = all_at p d r i (both_right (p x) (all p r) e) (omega arith)

pub all_of : {A : Type 0} (p : A → Bool) (d : A) (r : List A) → ((i : ℕ) → i < length r → p (get_or r i d) ≡ true) → all p r ≡ true
unfolding all
all_of p d [] h = refl
all_of p d (x ∷ r) h = rw (h 0 (omega arith)) (all_of p d r (λ i k. h (suc i) (omega arith)))

pub all_set : {A : Type 0} (p : A → Bool) (r : List A) (i : ℕ) (x : A) → all p r ≡ true → p x ≡ true → all p (set r i x) ≡ true
unfolding all
all_set p [] i x h k = refl
all_set p (y ∷ r) zero x h k = rw k (both_right (p y) (all p r) h)
all_set p (y ∷ r) (suc i) x h k = rw (both_left (p y) (all p r) h) (all_set p r i x (both_right (p y) (all p r) h) k)

pub all_take : {A : Type 0} (p : A → Bool) (n : ℕ) (r : List A) → all p r ≡ true → all p (take n r) ≡ true
unfolding all
all_take p zero r h = refl
all_take p (suc n) [] h = refl
all_take p (suc n) (x ∷ r) h = rw (both_left (p x) (all p r) h) (all_take p n r (both_right (p x) (all p r) h))

pub all_drop : {A : Type 0} (p : A → Bool) (n : ℕ) (r : List A) → all p r ≡ true → all p (drop n r) ≡ true
unfolding all
all_drop p zero r h = h
all_drop p (suc n) [] h = refl
all_drop p (suc n) (x ∷ r) h = all_drop p n r (both_right (p x) (all p r) h)

-- ---- the first row and the rest
module _ (w v : ℕ) (t : List ℤ) (l : length t ≡ suc v * w) where
  pub long_take : length (take w t) ≡ w
  long_take = simp length-take (omega arith)

  pub long_drop : length (drop w t) ≡ v * w
  long_drop = simp length-drop (omega arith)

pub rows_map : (P Q : List ℤ → Type 0) → ((r : List ℤ) → P r → Q r) → (w v : ℕ) (t : List ℤ) → Rows P w v t → Rows Q w v t
rows_map P Q h w zero t p = tt
rows_map P Q h w (suc v) t p = (h (take w t) p.0, rows_map P Q h w v (drop w t) p.1)

pub rows_both : (P Q R : List ℤ → Type 0) → ((r : List ℤ) → P r → Q r → R r) → (w v : ℕ) (t : List ℤ) → Rows P w v t → Rows Q w v t → Rows R w v t
rows_both P Q R h w zero t p q = tt
rows_both P Q R h w (suc v) t p q = (h (take w t) p.0 q.0, rows_both P Q R h w v (drop w t) p.1 q.1)

pub rows_fewer : (P : List ℤ → Type 0) (w m n : ℕ) (t : List ℤ) → n ≤ m → Rows P w m t → Rows P w n t
rows_fewer P w m zero t h p = tt
rows_fewer P w zero (suc n) t h p = absurd (omega arith)
rows_fewer P w (suc m) (suc n) t h p = (p.0, rows_fewer P w m n (drop w t) (omega arith) p.1)

pub length_values : (w v : ℕ) (t a : List ℤ) → length (row_values w v t a) ≡ v
unfolding row_values
length_values w zero t a = refl
length_values w (suc v) t a = ap suc (length_values w v (drop w t) a)

pub values_same : (w v : ℕ) (t a b : List ℤ) → ((r : List ℤ) → dot r a ≡ dot r b) → row_values w v t a ≡ row_values w v t b
unfolding row_values
values_same w zero t a b h = refl
values_same w (suc v) t a b h = ap₂ ◌∷◌ (h (take w t)) (values_same w v (drop w t) a b h)

-- ---- g of each row, where g keeps a row's length
module _ (g : List ℤ → List ℤ) (w : ℕ) (same : (r : List ℤ) → length r ≡ w → length (g r) ≡ w) where
  pub length_each : (v : ℕ) (t : List ℤ) → length t ≡ v * w → length (each_row g w v t) ≡ v * w
  unfolding each_row
  length_each zero t l = l
  length_each (suc v) t l =
      length-append (g (take w t)) (each_row g w v (drop w t))
      ∙ ap₂ ◌+◌ (same (take w t) (long_take w v t l)) (length_each v (drop w t) (long_drop w v t l))
      ∙ omega arith

  pub values_each : (a b : List ℤ) → ((r : List ℤ) → length r ≡ w → dot (g r) b ≡ dot r a) → (v : ℕ) (t : List ℤ) → length t ≡ v * w → row_values w v (each_row g w v t) b ≡ row_values w v t a
  unfolding each_row row_values
  values_each a b h zero t l = refl
  values_each a b h (suc v) t l =
      let k : length (g (take w t)) ≡ w = same (take w t) (long_take w v t l) in
      rw (take_at (g (take w t)) (each_row g w v (drop w t)) w k, drop_at (g (take w t)) (each_row g w v (drop w t)) w k)
      (ap₂ ◌∷◌ (h (take w t) (long_take w v t l)) (values_each a b h v (drop w t) (long_drop w v t l)))

  pub rows_each : (P Q : List ℤ → Type 0) → ((r : List ℤ) → length r ≡ w → P r → Q (g r)) → (v : ℕ) (t : List ℤ) → length t ≡ v * w → Rows P w v t → Rows Q w v (each_row g w v t)
  unfolding each_row
  rows_each P Q h zero t l p = tt
  rows_each P Q h (suc v) t l p =
      let k : length (g (take w t)) ≡ w = same (take w t) (long_take w v t l) in
      rw (take_at (g (take w t)) (each_row g w v (drop w t)) w k, drop_at (g (take w t)) (each_row g w v (drop w t)) w k)
      (h (take w t) (long_take w v t l) p.0, rows_each P Q h v (drop w t) (long_drop w v t l) p.1)

-- ---- rows added up
regroup : (a b c : ℤ) → (a +ℤ b) +ℤ c ≡ a +ℤ (b +ℤ c)
regroup a b c = identity (a ∷ b ∷ c ∷ []) (search terms depth 20) (search terms depth 20) tt

zero_law : (f : ℤ) → pos 0 +ℤ f *ℤ pos 0 ≡ pos 0
zero_law f = identity (f ∷ []) (search terms depth 20) (search terms depth 20) tt

module _ (w : ℕ) where
  pub length_added : (v : ℕ) (fs t r : List ℤ) → length fs ≡ v → length t ≡ v * w → length r ≡ w → length (add_rows w fs t r) ≡ w
  unfolding add_rows
  length_added v [] t r lf lt lr = lr
  length_added zero (f ∷ fs) t r lf lt lr = absurd (omega arith)
  length_added (suc v) (f ∷ fs) t r lf lt lr =
      length_added v fs (drop w t) (plus f r (take w t)) (omega arith) (long_drop w v t lt)
      (length_plus f r (take w t) (omega (arith, long_take w v t lt)) ∙ lr)

  pub dot_added : (v : ℕ) (fs t r a : List ℤ) → length fs ≡ v → length t ≡ v * w → dot (add_rows w fs t r) a ≡ dot r a +ℤ dot fs (row_values w v t a)
  unfolding add_rows row_values dot
  dot_added v [] t r a lf lt = sym (+ℤ_idr (dot r a))
  dot_added zero (f ∷ fs) t r a lf lt = absurd (omega arith)
  dot_added (suc v) (f ∷ fs) t r a lf lt =
      dot_added v fs (drop w t) (plus f r (take w t)) a (omega arith) (long_drop w v t lt)
      ∙ ap (λ x. x +ℤ dot fs (row_values w v (drop w t) a)) (plus_dot f r (take w t) a)
      ∙ regroup (dot r a) (f *ℤ dot (take w t) a) (dot fs (row_values w v (drop w t) a))

  -- A column that is 0 in each stays 0.
  pub zero_added : (v i : ℕ) (fs t r : List ℤ) → length fs ≡ v → at r i ≡ pos 0 → Rows (λ s. at s i ≡ pos 0) w v t → at (add_rows w fs t r) i ≡ pos 0
  unfolding add_rows
  zero_added v i [] t r lf h k = h
  zero_added zero i (f ∷ fs) t r lf h k = absurd (omega arith)
  zero_added (suc v) i (f ∷ fs) t r lf h k =
      zero_added v i fs (drop w t) (plus f r (take w t)) (omega arith)
      (at_plus f r (take w t) i ∙ ap₂ (λ a b. a +ℤ f *ℤ b) h k.0 ∙ zero_law f)
      k.1

-- ---- the constants of a row
pub past : (l r : List ℤ) (v i : ℕ) → length l ≡ v → v ≤ i → at (l ++ drop v r) i ≡ at r i
past [] r zero i e h = refl
past [] r (suc v) i e h = absurd (omega arith)
past (x ∷ l) r zero i e h = absurd (omega arith)
past (x ∷ l) r (suc v) zero e h = absurd (omega arith)
past (x ∷ l) [] (suc v) (suc i) e h = ap (λ d. at (l ++ d) i) (sym (drop-nil v)) ∙ past l [] v i (omega arith) (omega arith)
past (x ∷ l) (y ∷ r) (suc v) (suc i) e h = past l r v i (omega arith) (omega arith)

module _ (u : ℕ) (e : List ℤ) where
  pub length_constants : u ≤ length e → length (constants u e) ≡ length e
  length_constants h = length-append (replicate u (pos 0)) (drop u e) ∙ ap₂ ◌+◌ (length-replicate u (pos 0)) (length-drop u e) ∙ omega arith

  pub constants_low : (i : ℕ) → i < u → at (constants u e) i ≡ pos 0
  constants_low i h = get_or-append (replicate u (pos 0)) (drop u e) (pos 0) i (omega (arith, length-replicate u (pos 0))) ∙ get_or-replicate u i (pos 0) (pos 0) h

  pub constants_high : (i : ℕ) → u ≤ i → at (constants u e) i ≡ at e i
  constants_high i h = past (replicate u (pos 0)) e u i (length-replicate u (pos 0)) h

-- ---- the start
pub at_zeros : (n i : ℕ) → at (replicate n (pos 0)) i ≡ pos 0
at_zeros zero i = refl
at_zeros (suc n) zero = refl
at_zeros (suc n) (suc i) = at_zeros n i

pub at_itself : (w j i : ℕ) → j < w → at (itself w j) i ≡ at (single j) i
unfolding single
at_itself zero j i h = absurd (omega arith)
at_itself (suc w) zero zero h = refl
at_itself (suc w) zero (suc i) h = at_zeros w i
at_itself (suc w) (suc j) zero h = refl
at_itself (suc w) (suc j) (suc i) h = at_itself w j i (omega arith)

pub length_itself : (w j : ℕ) → length (itself w j) ≡ w
length_itself w j = length-set (replicate w (pos 0)) j (pos 1) ∙ length-replicate w (pos 0)

pub length_start : (w j n : ℕ) → length (start_from w j n) ≡ n * w
unfolding start_from
length_start w j zero = omega arith
length_start w j (suc n) = length-append (itself w j) (start_from w (suc j) n) ∙ ap₂ ◌+◌ (length_itself w j) (length_start w (suc j) n) ∙ omega arith

-- Each unknown is what it was chosen to be.
pub values_start : (w j n i : ℕ) (a : List ℤ) → j + n ≤ w → i < n → at (row_values w n (start_from w j n) a) i ≡ at a (j + i)
unfolding start_from row_values
values_start w j zero i a h l = absurd (omega arith)
values_start w j (suc n) zero a h l =
    rw (take_at (itself w j) (start_from w (suc j) n) w (length_itself w j))
    (same_dot (itself w j) (single j) a (λ i. at_itself w j i (omega arith)) ∙ dot_comm (single j) a ∙ dot_single a j ∙ ap (at a) (omega arith))
values_start w j (suc n) (suc i) a h l =
    rw (drop_at (itself w j) (start_from w (suc j) n) w (length_itself w j))
    (values_start w (suc j) n i a (omega arith) (omega arith) ∙ ap (at a) (omega arith))

-- What holds of unknown i equal to itself, for each i from j on, holds of each row.
pub rows_start : (P : List ℤ → Type 0) (w j n : ℕ) → ((i : ℕ) → j ≤ i → i < j + n → P (itself w i)) → Rows P w n (start_from w j n)
unfolding start_from
rows_start P w j zero h = tt
rows_start P w j (suc n) h =
    rw (take_at (itself w j) (start_from w (suc j) n) w (length_itself w j), drop_at (itself w j) (start_from w (suc j) n) w (length_itself w j))
    (h j (omega arith) (omega arith), rows_start P w (suc j) n (λ i a b. h i (omega arith) (omega arith)))

pub zeros_in_limit : (n : ℕ) → all_in_limit (replicate n (pos 0)) ≡ true
unfolding all
zeros_in_limit zero = refl
zeros_in_limit (suc n) = zeros_in_limit n

pub start_in_limit : (w j n : ℕ) → all_in_limit (start_from w j n) ≡ true
unfolding start_from all
start_in_limit w j zero = refl
start_in_limit w j (suc n) = all_both _ (itself w j) (start_from w (suc j) n) (all_set _ (replicate w (pos 0)) j (pos 1) (zeros_in_limit w) refl) (start_in_limit w (suc j) n)
