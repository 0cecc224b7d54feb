-- What an edit answers.
use Rattle.std.specs.Prelude.{◌≡◌, Result, Ok, Err}
use Rattle.tink_io.specs.declared.error.Kind.{Kind}
use Rattle.tink_io.specs.declared.error.TinkError.{TinkError}

-- an edit was made, or was refused by the given kind and left what there was
abbrev pub Edits : {T : Type 0} → Result (Unit {0}) TinkError → T → T → Result T Kind → Type 0
Edits (Ok _) old new told = told ≡ Ok new
Edits (Err e) old new told = (told ≡ Err e.kind) × (new ≡ old)
