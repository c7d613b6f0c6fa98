-- `bench::bench_lines` meets its contract.
use Rattle.std.proofs.Common.{◌≡◌, ℕ, List, ◌≢◌, length, sym, ap, ◌∙◌, arith}
use Rattle.sheet_rules.specs.Calls.{lines_part}
use Rattle.sheet_rules.specs.LinesPart.{lines_room, no_start, some_start}
use Rattle.bench.proofs.bench_lines.Goals as goal

-- A part of some length is that of the definition.
some : (s l : List ℕ) → l ≡ lines_part s → length l ≢ 0 → length (lines_part s) ≢ 0
some s l e h z = h (ap length e ∙ z)

pub returns-then-n-eq0 : goal.returns-then-n-eq0
returns-then-n-eq0 c =
    let h = sym (ap length c.lines-n.ensures) ∙ c.if-n-eq0.true in
    (sym (no_start c.args.sheet.now h), sym h)

pub overflow_sub-start : goal.overflow_sub-start
overflow_sub-start c =
    let s = c.args.sheet.now in
    omega (arith, lines_room s (some s c.lines-n.result.now c.lines-n.ensures c.if-n-eq0.false))

pub overflow_sub-start-2 : goal.overflow_sub-start-2
overflow_sub-start-2 c =
    let s = c.args.sheet.now in
    omega (arith, lines_room s (some s c.lines-n.result.now c.lines-n.ensures c.if-n-eq0.false), ap length c.lines-n.ensures)

pub returns : goal.returns
returns c =
    let s = c.args.sheet.now in
    let long = ap length c.lines-n.ensures in
    (omega (arith, some_start s (some s c.lines-n.result.now c.lines-n.ensures c.if-n-eq0.false), long), long)
