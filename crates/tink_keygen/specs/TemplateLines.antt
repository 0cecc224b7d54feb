-- The names of the registered templates, one a line.
use Rattle.std.specs.Prelude.{ℕ, List, [], ◌∷◌, ◌++◌}
use Rattle.tink_registry.specs.Listed.{names_of}
use Rattle.tink.specs.Registered.{with_everything}

-- each name, and a newline
abbrev pub lines_of : List (List ℕ) → List ℕ
lines_of [] = []
lines_of (name ∷ names) = (name ++ 10 ∷ []) ++ lines_of names

unfoldable pub template_lines : List ℕ
template_lines = lines_of (names_of with_everything.templates)
