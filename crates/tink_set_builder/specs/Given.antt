-- What is given of each of a list, one by one.
use Rattle.std.specs.Prelude.{List, [], ◌∷◌, Result, Ok, Err}
use Rattle.tink_io.specs.declared.error.Kind.{Kind}

-- a value before those that follow, or the first refusal
abbrev pub before : {T : Type 0} → Result T Kind → Result (List T) Kind → Result (List T) Kind
before (Ok v) (Ok vs) = Ok (v ∷ vs)
before (Ok v) (Err kind) = Err kind
before (Err kind) rest = Err kind

-- what is given of each, or the first refusal
abbrev pub given_each : {S T : Type 0} → (S → Result T Kind) → List S → Result (List T) Kind
given_each give [] = Ok []
given_each give (x ∷ xs) = before (give x) (given_each give xs)
