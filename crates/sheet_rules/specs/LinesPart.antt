-- The part that holds the lines stands where `lines_start` says, before the trailer.
use Rattle.std.specs.Prelude.{◌≡◌, List, [], ◌∷◌, ℕ, ◌+◌, ◌-◌, ◌*◌, ◌≤◌, eqb, drop}
use Rattle.std.proofs.Math.Path.{refl}
use Rattle.std.proofs.Common.{arith, ne_eqb, eq-eqb, eqb-true, length-drop, length-take-le}
use Rattle.std.proofs.lemmas.Bool.{eqb-false}
use Rattle.std.proofs.Math.ListN.{length, take}
use Rattle.whole.specs.Cases.{if_ind}
use Rattle.sheet_rules.specs.Shape.{shape_of, lines_at}
use Rattle.sheet_rules.specs.Checks.{Checked, refused, well_formed, on_checked, checked_sheet}
use Rattle.sheet_rules.specs.Calls.{lines_part, lines_start}
use Rattle.sheet_rules.specs.FormedLaws.{formed}

module _ (s : List ℕ) where
  abbrev part : List ℕ
  part = take (4 * (shape_of s).lines) (drop (lines_at (shape_of s)) s)

  -- What a well-formed sheet's lines are, and where.
  record Placed (p : List ℕ) : Type 0 where
    room : 16 + length p ≤ length s
    there : take (length p) (drop (length s - 16 - length p) s) ≡ p

  placed : checked_sheet s ≡ well_formed → Placed part
  placed e =
      let sh = shape_of s in
      let l = (formed s e).laid.long in
      let n : length part ≡ 4 * sh.lines = length-take-le (4 * sh.lines) (drop (lines_at sh) s) (omega (arith, length-drop (lines_at sh) s)) in
      let a : length s - 16 - length part ≡ lines_at sh = omega arith in
      record { room = omega arith; there = rw (a, n) refl }

  by_check : (c : Checked) → checked_sheet s ≡ c → (length (on_checked (λ _ _. []) part c) ≡ 0 → ⊥) → Placed (on_checked (λ _ _. []) part c)
  by_check (refused n i) e h = absurd (h refl)
  by_check well_formed e h = placed e

  placed_lines : (length (lines_part s) ≡ 0 → ⊥) → Placed (lines_part s)
  unfolding lines_part
  placed_lines h = by_check (checked_sheet s) refl h

  -- There is room for the trailer after it.
  pub lines_room : (length (lines_part s) ≡ 0 → ⊥) → 16 + length (lines_part s) ≤ length s
  lines_room h = (placed_lines h).room

  pub no_start : length (lines_part s) ≡ 0 → lines_start s ≡ 0
  unfolding lines_start
  no_start h = rw (eq-eqb (length (lines_part s)) 0 h)

  pub some_start : (length (lines_part s) ≡ 0 → ⊥) → lines_start s ≡ length s - 16 - length (lines_part s)
  unfolding lines_start
  some_start h = rw (ne_eqb (length (lines_part s)) 0 h)

  nothing : (p : List ℕ) → length p ≡ 0 → take (length p) (drop 0 s) ≡ p
  nothing [] h = refl
  nothing (x ∷ p) h = absurd (omega arith)

  pub lines_there : take (length (lines_part s)) (drop (lines_start s) s) ≡ lines_part s
  unfolding lines_start
  lines_there =
      if_ind (eqb (length (lines_part s)) 0) 0 (length s - 16 - length (lines_part s)) (λ a. take (length (lines_part s)) (drop a s) ≡ lines_part s)
      (λ e. nothing (lines_part s) (eqb-true (length (lines_part s)) 0 e))
      (λ e. (placed_lines (eqb-false (length (lines_part s)) 0 e)).there)
