-- What an exported answer says, with what the lent table then holds.
use Rattle.std.specs.Prelude.{List, ℤ}
use Rattle.elimination_rules.specs.Answer.{Answer, heard}
use Rattle.bench.specs.declared.BenchAnswer as B

abbrev pub spoken_of : B.BenchAnswer → List ℤ → Answer
spoken_of r t = heard r.number r.place r.rounds r.free t
