-- Laws of the units of the first k lines: there are k of them, the unit of line i is the same in all that have it, and on a
-- well-formed sheet each has all columns.
use Rattle.std.specs.Prelude.{◌≡◌, true, ltb, eqb, length, ℤ, pos, negsuc}
use Rattle.std.proofs.Math.Path.{refl}
use Rattle.std.proofs.Common.{◌∙◌, ap}
use mathlib.Core.List.{List, [], ◌∷◌}
use Prim.Native.Nat.{ℕ, zero, suc, ◌≤◌, ◌<◌}
use native.Mathlib.Omega.{arith}
use Rattle.std.proofs.Math.ListN.{length-append, get_or-append}
use Rattle.std.proofs.lemmas.List.{length-replicate, get_or_at}
use Rattle.whole.specs.Cases.{both, by_less}
use Rattle.row.specs.Row.{plus}
use Rattle.row.specs.Values.{length_plus}
use Rattle.row.specs.Tables.{length_itself}
use Rattle.sheet_rules.specs.Shape.{Shape, channel, line}
use Rattle.sheet_rules.specs.Good.{Code, number, reading, add, subtract, multiply, divide, root, less_than, stated, no_code, code_of, good_operands}
use Rattle.sheet_rules.specs.Lines.{unit_of, unit_by, units, unit_at}
use Rattle.sheet_rules.specs.Formed.{Formed}
use Rattle.sheet_rules.specs.Prefix.{first_below, second_below, record_long, channel_there, good_operands_lem}

module _ (sh : Shape) (s : List ℕ) where
  pub length_units : (k : ℕ) → length (units sh s k) ≡ k
  unfolding units
  length_units zero = refl
  length_units (suc k) = omega (arith, length-append (units sh s k) (unit_at sh s k ∷ []), length_units k)

  pub unit_of_lem : (k i : ℕ) → i < k → unit_of (units sh s k) i ≡ unit_at sh s i
  unfolding units
  unit_of_lem zero i h = absurd (omega arith)
  unit_of_lem (suc k) i h =
      by_less i k
      (λ l. get_or-append (units sh s k) (unit_at sh s k ∷ []) [] i (omega (arith, length_units k)) ∙ unit_of_lem k i l)
      (λ g. let e : i ≡ k = omega arith in rw e (get_or_at (units sh s k) (unit_at sh s k) [] [] k (length_units k)))

module _ {sh : Shape} {s : List ℕ} where
  module _ (F : Formed sh s) where
    module _ (us : List (List ℤ)) (k : ℕ) (h : (i : ℕ) → i < k → length (unit_of us i) ≡ sh.columns) (a b : ℕ) where
      both_long : (f : ℤ) → both (ltb a k) (ltb b k) ≡ true → length (plus f (unit_of us a) (unit_of us b)) ≡ sh.columns
      both_long f g =
          let l = h a (first_below a k (ltb b k) g) in
          length_plus f (unit_of us a) (unit_of us b) (omega (arith, h b (second_below b k (ltb a k) g))) ∙ l

      by_long : (c : Code) → good_operands sh k c a b ≡ true → length (unit_by sh s us c a b) ≡ sh.columns
      by_long number g = length-replicate sh.columns (pos 0)
      by_long reading g = record_long F.laid (channel sh s a) (channel_there F a (first_below a sh.channels (eqb b 0) g))
      by_long add g = h a (first_below a k (ltb b k) g)
      by_long subtract g = h a (first_below a k (ltb b k) g)
      by_long multiply g = both_long (pos 1) g
      by_long divide g = both_long (negsuc 0) g
      by_long root g = length_itself sh.columns b
      by_long less_than g = length-replicate sh.columns (pos 0)
      by_long stated g = record_long F.laid b (second_below b sh.records (ltb a k) g)
      by_long no_code g = length-replicate sh.columns (pos 0)

    before_long : (k : ℕ) → k ≤ sh.lines → (i : ℕ) → i < k → length (unit_at sh s i) ≡ sh.columns
    before_long zero n i h = absurd (omega arith)
    before_long (suc k) n i h =
        let l = line sh s k in
        by_less i k
        (before_long k (omega arith) i)
        (λ g.
        let e : i ≡ k = omega arith in
        rw e
        (by_long (units sh s k) k (λ j m. ap length (unit_of_lem sh s k j m) ∙ before_long k (omega arith) j m) l.a l.b (code_of l.code) (good_operands_lem F k n)))

    pub unit_long : (k : ℕ) → k < sh.lines → length (unit_at sh s k) ≡ sh.columns
    unit_long k h = before_long (suc k) h k (omega arith)
