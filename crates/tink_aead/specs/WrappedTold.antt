-- What the AEADs of a keyset tell.
use Rattle.std.specs.Prelude.{ℕ, List, [], Option, Some, None, Result, refl}
use Rattle.tink_io.specs.declared.error.Kind.{Kind}
use Rattle.tink_primitives.specs.Meaning.{IsDrawn}
use Rattle.tink_primitives.specs.MeaningLaws.{made_told}
use Rattle.tink_sets.specs.declared.entry.TypedEntry.{TypedEntry}
use Rattle.tink_aead.specs.Wrapped.{entry_encrypts, primary_encrypts}

module _ {P : Type 0} (encrypts : P → List ℕ → List ℕ → List ℕ → Result (List ℕ) Kind × List ℕ) (told : (p : P) (text aad draws : List ℕ) → IsDrawn draws (encrypts p text aad draws)) where
  pub entry_encrypts_told : (e : TypedEntry P) (text aad draws : List ℕ) → IsDrawn draws (entry_encrypts encrypts e text aad draws)
  entry_encrypts_told e text aad draws =
      let drawn = told e.primitive text aad draws in
      record { answer = made_told _ (encrypts e.primitive text aad draws).0 drawn.answer; ends = drawn.ends }

  pub primary_encrypts_told : (primary : Option (TypedEntry P)) (text aad draws : List ℕ) → IsDrawn draws (primary_encrypts encrypts primary text aad draws)
  primary_encrypts_told None text aad draws = record { answer = tt; ends = ([], refl) }
  primary_encrypts_told (Some e) text aad draws = entry_encrypts_told e text aad draws
