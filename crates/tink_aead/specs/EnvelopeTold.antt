-- What an envelope shows of its meaning: each answer is known, and what is taken is a prefix of the draws.
use Rattle.std.specs.Prelude.{ℕ, List, [], ◌||◌, ◌^◌, length, take, drop, nat_eq, nat_lt, nat_le, Result, Ok, Err}
use Rattle.std.specs.Int.{w32, from_be_bytes}
use Rattle.std.proofs.Common.{refl}
use Rattle.tink_io.specs.declared.error.Kind.{Kind}
use Rattle.tink_primitives.specs.Meaning.{IsDrawn, IsEndOf, IsTold}
use Rattle.tink_primitives.specs.MeaningLaws.{drawn_none, end_trans, told_if}
use Rattle.tink_primitives.specs.Sorts.{as_aead}
use Rattle.tink_primitives.specs.declared.primitive.Primitive.{Primitive}
use Rattle.tink_primitives.specs.declared.primitive.Primitive.TheVariants.{Aead}
use Rattle.tink_io.specs.Answering.{and_then}
use Rattle.tink_registry.specs.Listed.{registry_builds}
use Rattle.tink_registry.specs.ListedLaws.{registry_builds_told}
use Rattle.tink_aead.specs.Envelope.{after, after_answer, cut_decrypts, data_key_aead, enveloped, envelope_decrypts, envelope_encrypts, parts_decrypt}

-- ---- steps

and_then_told : {A B : Type 0} (r : Result A Kind) (next : A → Result B Kind) → IsTold r → ((v : A) → IsTold (next v)) → IsTold (and_then r next)
and_then_told (Ok v) next told follows = follows v
and_then_told (Err k) next told follows = told

as_aead_told : {K A D HD HE M P S St V : Type 0} (p : Primitive K A D HD HE M P S St V) → IsTold (as_aead p)
as_aead_told (Aead p) = tt
as_aead_told _ = tt

pub data_key_aead_told : {R K A D HD HE M P S St V : Type 0} (url : R → List ℕ) (builds : R → List ℕ → Result (Primitive K A D HD HE M P S St V) Kind) → ((m : R) (key : List ℕ) → IsTold (builds m key))
    → (managers : List R) (wanted key : List ℕ) → IsTold (data_key_aead url builds managers wanted key)
data_key_aead_told url builds told managers wanted key = and_then_told (registry_builds url builds managers wanted key) as_aead (registry_builds_told url builds told managers wanted key) as_aead_told

after_answer_told : {A B : Type 0} (draws left : List ℕ) (r : Result A Kind) (next : A → List ℕ → Result B Kind × List ℕ) → IsTold r → IsEndOf left draws
    → ((v : A) (now : List ℕ) → IsDrawn now (next v now)) → IsDrawn draws (after_answer r left next)
after_answer_told draws left (Ok v) next told ends follows =
    let last = follows v left in record { answer = last.answer; ends = end_trans draws left (next v left).1 ends last.ends }
after_answer_told draws left (Err k) next told ends follows = record { answer = told; ends = ends }

after_told : {A B : Type 0} (draws : List ℕ) (first : Result A Kind × List ℕ) (next : A → List ℕ → Result B Kind × List ℕ) → IsDrawn draws first
    → ((v : A) (now : List ℕ) → IsDrawn now (next v now)) → IsDrawn draws (after first next)
after_told draws first next drawn follows = after_answer_told draws first.1 first.0 next drawn.answer drawn.ends follows

-- ---- the envelope

enveloped_told : (sealed_key payload : List ℕ) → IsTold (enveloped sealed_key payload)
enveloped_told sealed_key payload = told_if (nat_lt (length sealed_key) (2 ^ 32)) _ _ tt tt

module _ {P : Type 0} (aead_of : List ℕ → Result P Kind) (aead_told : (key : List ℕ) → IsTold (aead_of key)) where
  pub envelope_encrypts_told : (makes : List ℕ → Result (List ℕ) Kind × List ℕ) (remote : List ℕ → List ℕ → List ℕ → Result (List ℕ) Kind × List ℕ)
      (encrypts : P → List ℕ → List ℕ → List ℕ → Result (List ℕ) Kind × List ℕ)
      → ((draws : List ℕ) → IsDrawn draws (makes draws))
      → ((text aad draws : List ℕ) → IsDrawn draws (remote text aad draws))
      → ((p : P) (text aad draws : List ℕ) → IsDrawn draws (encrypts p text aad draws))
      → (text aad draws : List ℕ) → IsDrawn draws (envelope_encrypts makes remote aead_of encrypts text aad draws)
  envelope_encrypts_told makes remote encrypts makes_told remote_told encrypts_told text aad draws =
      after_told draws (makes draws) _ (makes_told draws) (λ key now.
      after_told now (remote key [] now) _ (remote_told key [] now) (λ sealed_key now.
      after_answer_told now now (aead_of key) _ (aead_told key) ([], refl) (λ p now.
      after_told now (encrypts p text aad now) _ (encrypts_told p text aad now) (λ payload now. drawn_none now (enveloped sealed_key payload) (enveloped_told sealed_key payload)))))

  module _ (remote : List ℕ → List ℕ → Result (List ℕ) Kind) (decrypts : P → List ℕ → List ℕ → Result (List ℕ) Kind)
      (remote_told : (input aad : List ℕ) → IsTold (remote input aad)) (decrypts_told : (p : P) (input aad : List ℕ) → IsTold (decrypts p input aad)) where
    parts_decrypt_told : (sealed_key payload aad : List ℕ) → IsTold (parts_decrypt remote aead_of decrypts sealed_key payload aad)
    parts_decrypt_told sealed_key payload aad =
        and_then_told (remote sealed_key []) _ (remote_told sealed_key []) (λ key. and_then_told (aead_of key) _ (aead_told key) (λ p. decrypts_told p payload aad))

    cut_decrypts_told : (n : ℕ) (rest aad : List ℕ) → IsTold (cut_decrypts remote aead_of decrypts n rest aad)
    cut_decrypts_told n rest aad = told_if (nat_eq n 0 || nat_lt (length rest) n) _ _ tt (parts_decrypt_told (take n rest) (drop n rest) aad)

    pub envelope_decrypts_told : (input aad : List ℕ) → IsTold (envelope_decrypts remote aead_of decrypts input aad)
    envelope_decrypts_told input aad = told_if (nat_le (length input) 4) _ _ tt (cut_decrypts_told (from_be_bytes w32 (take 4 input)) (drop 4 input) aad)
