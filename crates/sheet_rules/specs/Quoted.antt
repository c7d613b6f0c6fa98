-- The bytes of a quoted text.
use Rattle.std.specs.Prelude.{List, [] as none, ◌∷◌ as ◌then◌, ℕ}
use Prim.Native.Char.{code}
use Prim.Native.String.{String, [], ◌∷◌}

abbrev pub text : String → List ℕ
text [] = none
text (c ∷ s) = code c then text s
