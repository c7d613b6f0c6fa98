-- Document 01's starred systems, as the elimination's call answers them. Columns 0, 1, 2, 3 are a, b, c, d; 24 is s, 25 is m.
use Rattle.std.specs.Prelude.{◌≡◌, refl, List, [], ◌∷◌, ◌++◌, map, ℕ, set, replicate, ℤ, pos, negsuc}
use Rattle.whole.specs.Division.{quotient}
use Rattle.whole.specs.Word.{cleared}
use Rattle.row.specs.Row.{all, plus}
use Rattle.row.specs.Table.{each_row, add_rows, start_from}
use Rattle.row.specs.Smallest.{smallest_from}
use Rattle.elimination_rules.specs.Round.{turn}
use Rattle.elimination_rules.specs.Equation.{solve, one, each}
use Rattle.elimination_rules.specs.Answer.{Answer, heard, refuses}
use Rattle.elimination_rules.specs.Call.{first_used, eliminated}

-- A row of 32 numbers by its columns that are not 0.
abbrev row : List (ℕ × ℤ) → List ℤ
row [] = replicate 32 (pos 0)
row (p ∷ ps) = set (row ps) p.0 p.1

-- V and the equations in, with a lent table of n numbers, each of them 7; the answer out, with what the table then holds.
pub record Example : Type 0 where
  pub unknowns : ℕ
  pub equations : List ℤ
  pub lent : ℕ
  pub answer : Answer

abbrev sevens : ℕ → List ℤ
sevens n = replicate n (pos 7)

abbrev given : Example → Answer
given x = eliminated x.unknowns x.equations (sevens x.lent)

abbrev wanted : Example → Answer
wanted x = x.answer

abbrev table : List Example
table =
    -- No equations: the starting table, 0 rounds.
    record { unknowns = 2; equations = []; lent = 65; answer = heard 0 0 0 3 (row ((0, pos 1) ∷ []) ++ row ((1, pos 1) ∷ []) ++ sevens 1) }
    -- a²m⁵ = b³s²: a = a⁻³ s m⁻⁴, b = a⁻² m⁻¹, 2 rounds, mask 1.
    ∷ record {
      unknowns = 2;
      equations = row ((0, pos 2) ∷ (1, negsuc 2) ∷ (24, negsuc 1) ∷ (25, pos 5) ∷ []);
      lent = 64;
      answer = heard 0 0 2 1 (row ((0, negsuc 2) ∷ (24, pos 1) ∷ (25, negsuc 3) ∷ []) ++ row ((0, negsuc 1) ∷ (25, negsuc 0) ∷ []));
    }
    -- a = c·m, then a·b = d: a = c·m, b = c⁻¹ d m⁻¹, 2 rounds, mask 12.
    ∷ record {
      unknowns = 4;
      equations = row ((0, pos 1) ∷ (2, negsuc 0) ∷ (25, negsuc 0) ∷ []) ++ row ((0, pos 1) ∷ (1, pos 1) ∷ (3, negsuc 0) ∷ []);
      lent = 128;
      answer = heard 0 0 2 12 (row ((2, pos 1) ∷ (25, pos 1) ∷ []) ++ row ((2, negsuc 0) ∷ (3, pos 1) ∷ (25, negsuc 0) ∷ []) ++ row ((2, pos 1) ∷ []) ++ row ((3, pos 1) ∷ []));
    }
    -- a² = m: clash in the first round. a² = m²: a = m. a² = 1: a = 1, mask 0.
    ∷ record { unknowns = 1; equations = row ((0, pos 2) ∷ (25, negsuc 0) ∷ []); lent = 32; answer = refuses 10 0 (sevens 32) }
    ∷ record { unknowns = 1; equations = row ((0, pos 2) ∷ (25, negsuc 1) ∷ []); lent = 32; answer = heard 0 0 1 0 (row ((25, pos 1) ∷ [])) }
    ∷ record { unknowns = 1; equations = row ((0, pos 2) ∷ []); lent = 33; answer = heard 0 0 1 0 (row [] ++ sevens 1) }
    -- a⁴b⁶ = m²: a = a³m², b = a⁻²m⁻¹, 2 rounds. a⁴b⁶ = m: clash.
    ∷ record {
      unknowns = 2;
      equations = row ((0, pos 4) ∷ (1, pos 6) ∷ (25, negsuc 1) ∷ []);
      lent = 64;
      answer = heard 0 0 2 1 (row ((0, pos 3) ∷ (25, pos 2) ∷ []) ++ row ((0, negsuc 1) ∷ (25, negsuc 0) ∷ []));
    }
    ∷ record { unknowns = 2; equations = row ((0, pos 4) ∷ (1, pos 6) ∷ (25, negsuc 0) ∷ []); lent = 64; answer = refuses 10 0 (sevens 64) }
    -- a²b² = m: clash. a⁻¹m = 1: a = m.
    ∷ record { unknowns = 2; equations = row ((0, pos 2) ∷ (1, pos 2) ∷ (25, negsuc 0) ∷ []); lent = 64; answer = refuses 10 0 (sevens 64) }
    ∷ record { unknowns = 1; equations = row ((0, negsuc 0) ∷ (25, pos 1) ∷ []); lent = 32; answer = heard 0 0 1 0 (row ((25, pos 1) ∷ [])) }
    -- m = m: nothing to do. m = s: clash.
    ∷ record { unknowns = 0; equations = row []; lent = 0; answer = heard 0 0 0 0 [] }
    ∷ record { unknowns = 0; equations = row ((24, negsuc 0) ∷ (25, pos 1) ∷ []); lent = 2; answer = refuses 10 0 (sevens 2) }
    ∷ []

pub starred : map given table ≡ map wanted table
unfolding quotient cleared all plus each_row add_rows start_from smallest_from turn solve one each first_used eliminated
starred = refl
