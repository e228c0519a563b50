-- Texts as lists of bytes.
--   bytes     of a quoted text, which is ASCII here
--   joined    some texts in a row
use Rattle.std.specs.Prelude.{ℕ, List, [], ◌∷◌, ◌++◌}
use Prim.Native.Char.{code}
use Prim.Native.String.{String, [] as no_text, ◌∷◌ as ◌before◌}

unfoldable pub bytes : String → List ℕ
bytes no_text = []
bytes (c before s) = code c ∷ bytes s

unfoldable pub joined : List (List ℕ) → List ℕ
joined [] = []
joined (w ∷ ws) = w ++ joined ws
