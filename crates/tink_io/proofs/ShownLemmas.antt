-- Texts that are written in two parts.
use Rattle.std.proofs.Common.{◌≡◌, List, ℕ, ◌++◌, ap, ◌∙◌}
use Rattle.std.proofs.Output.{has_written_append, has_written_of_eq}
use Rattle.std.specs.Fmt.{HasWritten}
use Rattle.std.specs.declared.fmt.Formatter.{Formatter}

-- words and then the rest, each in the form in which a text has it
pub written_then : {W : Type 0} (took : W → List ℕ → W → Type 0) (f g h : Formatter W) (words first rest last : List ℕ) → words ≡ first → rest ≡ last
    → HasWritten took f words g → HasWritten took g rest h → HasWritten took f (first ++ last) h
written_then took f g h words first rest last is follows begun ended =
    has_written_of_eq took f (words ++ rest) (first ++ last) h (ap (λ xs. xs ++ rest) is ∙ ap (λ ys. first ++ ys) follows)
    (has_written_append took f words g rest h begun ended)
