-- What the AEADs of a keyset decrypt, also those that encrypt without draws.
use Rattle.std.specs.Prelude.{ℕ, List, Option, Some, None, Result}
use Rattle.tink_io.specs.declared.error.Kind.{Kind}
use Rattle.tink_io.specs.declared.error.Kind.TheVariants.{DecryptFailed}
use Rattle.tink_primitives.specs.Meaning.{IsTold}
use Rattle.tink_sets.specs.declared.entry.TypedEntry.{TypedEntry}
use Rattle.tink_sets.specs.Accepting.{AcceptsNoOther, accepted, or_else, prefixed_value, raw_value, value_or}

-- a value, or `DecryptFailed`
value_told : (o : Option (List ℕ)) → IsTold (value_or DecryptFailed o)
value_told None = tt
value_told (Some v) = tt

module _ {P : Type 0} (decrypts : P → List ℕ → List ℕ → Result (List ℕ) Kind) where
  -- what an entry answers on a ciphertext without its prefix
  abbrev pub entry_decrypts : List ℕ → TypedEntry P → List ℕ → Result (List ℕ) Kind
  entry_decrypts aad e input = decrypts e.primitive input aad

  -- the text by the first entry that accepts
  abbrev pub any_decrypts : (List ℕ → List (TypedEntry P)) → List ℕ → List ℕ → Result (List ℕ) Kind
  any_decrypts group input aad = accepted (entry_decrypts aad) group DecryptFailed input

  pub any_decrypts_told : (group : List ℕ → List (TypedEntry P)) (input aad : List ℕ) → IsTold (any_decrypts group input aad)
  any_decrypts_told group input aad = value_told (or_else (prefixed_value (entry_decrypts aad) group input) (raw_value (entry_decrypts aad) group input))

  -- an entry opens a ciphertext to this text, where it opens it at all
  abbrev pub OpensToNoOther : List ℕ → List ℕ → List ℕ → TypedEntry P → Type 0
  OpensToNoOther text aad input = AcceptsNoOther (entry_decrypts aad) text input
