-- A page of the desk.
use Rattle.std.specs.Prelude.{ℕ, List, [], ◌∷◌, ◌++◌, codes}
use Rattle.std.specs.Fmt.{decimal}

-- what stands between a text and a line that is added to it
abbrev pub line_break : List ℕ → List ℕ
line_break [] = []
line_break (c ∷ cs) = codes "\n"

-- a text with one line more, which has a number before it
abbrev pub with_line : ℕ → List ℕ → List ℕ → List ℕ
with_line number words text = text ++ line_break text ++ decimal number ++ codes ": " ++ words
