-- What the deterministic AEADs of a keyset tell.
use Rattle.std.specs.Prelude.{ℕ, List, Option, Some, None, Result}
use Rattle.tink_io.specs.declared.error.Kind.{Kind}
use Rattle.tink_primitives.specs.Meaning.{IsTold}
use Rattle.tink_primitives.specs.MeaningLaws.{made_told}
use Rattle.tink_sets.specs.declared.entry.TypedEntry.{TypedEntry}
use Rattle.tink_daead.specs.Wrapped.{primary_encrypts}

module _ {P : Type 0} (encrypts : P → List ℕ → List ℕ → Result (List ℕ) Kind) (told : (p : P) (text aad : List ℕ) → IsTold (encrypts p text aad)) where
  pub primary_encrypts_told : (primary : Option (TypedEntry P)) (text aad : List ℕ) → IsTold (primary_encrypts encrypts primary text aad)
  primary_encrypts_told None text aad = tt
  primary_encrypts_told (Some e) text aad = made_told _ (encrypts e.primitive text aad) (told e.primitive text aad)
