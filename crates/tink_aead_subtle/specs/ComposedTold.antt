-- What an encryption and then a MAC show of their meaning: each answer is known, and what is taken is a prefix of the draws.
use Rattle.std.specs.Prelude.{ℕ, List, ◌-◌, ◌^◌, length, take, drop, nat_eq, nat_lt, Result, Ok, Err}
use Rattle.tink_io.specs.declared.error.Kind.{Kind}
use Rattle.tink_io.specs.declared.error.Kind.TheVariants.{MacMismatch}
use Rattle.tink_primitives.specs.Meaning.{IsTold, IsDrawn, IsMatch}
use Rattle.tink_primitives.specs.MeaningLaws.{told_if}
use Rattle.tink_aead_subtle.specs.NonceAeads.{then_answer}
use Rattle.tink_aead_subtle.specs.Composed.{authenticated, composed_decrypts, composed_encrypts, tagged, tagged_answer, with_tag}

with_tag_told : (t : ℕ) (sealed : List ℕ) (r : Result (List ℕ) Kind) → IsTold r → IsTold (with_tag t sealed r)
with_tag_told t sealed (Ok tag) told = told_if (nat_eq (length tag) t) _ _ tt tt
with_tag_told t sealed (Err k) told = told

tagged_told : (computes : List ℕ → Result (List ℕ) Kind) (t : ℕ) (aad sealed : List ℕ) → ((message : List ℕ) → IsTold (computes message)) → IsTold (tagged computes t aad sealed)
tagged_told computes t aad sealed told = told_if (nat_lt (length aad) (2 ^ 61)) _ _ (with_tag_told t sealed (computes (authenticated aad sealed)) (told (authenticated aad sealed))) tt

tagged_answer_told : (computes : List ℕ → Result (List ℕ) Kind) (t : ℕ) (aad : List ℕ) (r : Result (List ℕ) Kind) → ((message : List ℕ) → IsTold (computes message)) → IsTold r → IsTold (tagged_answer computes t aad r)
tagged_answer_told computes t aad (Ok sealed) told of_cipher = tagged_told computes t aad sealed told
tagged_answer_told computes t aad (Err k) told of_cipher = of_cipher

pub composed_encrypts_told : (encrypts : List ℕ → List ℕ → Result (List ℕ) Kind × List ℕ) (computes : List ℕ → Result (List ℕ) Kind) (t : ℕ) (text aad draws : List ℕ)
    → IsDrawn draws (encrypts text draws) → ((message : List ℕ) → IsTold (computes message)) → IsDrawn draws (composed_encrypts encrypts computes t text aad draws)
composed_encrypts_told encrypts computes t text aad draws drawn told = record {
  answer = tagged_answer_told computes t aad (encrypts text draws).0 told drawn.answer;
  ends = drawn.ends;
}

verified_told : (r : Result (Unit {0}) Kind) (s : Result (List ℕ) Kind) → IsMatch r → IsTold s → IsTold (then_answer r s)
verified_told (Ok _) s match told = told
verified_told (Err MacMismatch) s match told = tt
verified_told (Err _) s match told = absurd match

pub composed_decrypts_told : (decrypts : List ℕ → Result (List ℕ) Kind) (verifies : List ℕ → List ℕ → Result (Unit {0}) Kind) (t : ℕ) (input aad : List ℕ)
    → ((sealed : List ℕ) → IsTold (decrypts sealed)) → ((tag message : List ℕ) → IsMatch (verifies tag message)) → IsTold (composed_decrypts decrypts verifies t input aad)
composed_decrypts_told decrypts verifies t input aad told matches =
    let n = length input - t in
    told_if (nat_lt (length input) t) _ _ tt
    (told_if (nat_lt (length aad) (2 ^ 61)) _ _
    (verified_told (verifies (drop n input) (authenticated aad (take n input))) (decrypts (take n input)) (matches (drop n input) (authenticated aad (take n input))) (told (take n input))) tt)
