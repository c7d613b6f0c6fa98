-- What the code has worked out of one line.
use Rattle.std.specs.Prelude.{Bool, true, false, List, [], ◌∷◌, ℤ, Result, Ok, Err}
use Rattle.whole.specs.declared.number.PastLimit.{PastLimit}
use Rattle.row.specs.Judged.{Judged, good, wide}

-- The equations of a line, judged, where e is what is left of the one that it may have.
abbrev pub stated_of : Result Bool PastLimit → List ℤ → List Judged
stated_of (Ok false) e = []
stated_of (Ok true) e = good e ∷ []
stated_of (Err past) e = wide ∷ []
