-- What AEADs with a nonce show of their meanings: each answer is known, and what is taken is a prefix of the draws.
use Rattle.std.specs.Prelude.{ℕ, List, ◌++◌, ◌-◌, length, take, drop, nat_lt, nat_le, Result, Ok, Err}
use Rattle.std.specs.Str.{bytes_eq}
use Rattle.gcm.specs.Answers.{MOST_DATA}
use Rattle.tink_io.specs.declared.error.Kind.{Kind}
use Rattle.tink_io.specs.declared.error.Kind.TheVariants.{RandomFault}
use Rattle.tink_primitives.specs.Meaning.{IsTold, IsDrawn}
use Rattle.tink_primitives.specs.MeaningLaws.{told_if, drawn_if, drawn_none, drawn_take}
use Rattle.tink_aead_subtle.specs.NonceAeads.{decryption, drawn_seal, encryption, limited, then_answer, then_drawn, tried}

limited_told : (most aad text : ℕ) → IsTold (limited most aad text)
limited_told most aad text = told_if (nat_lt MOST_DATA aad) _ _ tt (told_if (nat_lt most text) _ _ tt tt)

then_drawn_told : (r : Result (Unit {0}) Kind) (draws : List ℕ) (s : Result (List ℕ) Kind × List ℕ) → IsTold r → IsDrawn draws s → IsDrawn draws (then_drawn r draws s)
then_drawn_told (Ok _) draws s told drawn = drawn
then_drawn_told (Err k) draws s told drawn = drawn_none draws (Err k) told

then_answer_told : (r : Result (Unit {0}) Kind) (s : Result (List ℕ) Kind) → IsTold r → IsTold s → IsTold (then_answer r s)
then_answer_told (Ok _) s told next = next
then_answer_told (Err k) s told next = told

module _ (seals : List ℕ → List ℕ → List ℕ → List ℕ) where
  drawn_seal_told : (text aad draws : List ℕ) → IsDrawn draws (drawn_seal seals text aad draws)
  drawn_seal_told text aad draws =
      drawn_if draws (nat_le 12 (length draws)) _ _ (drawn_take draws 12 (Ok (take 12 draws ++ seals (take 12 draws) aad text)) tt) (drawn_none draws (Err RandomFault) tt)

  pub encryption_told : (most : ℕ) (text aad draws : List ℕ) → IsDrawn draws (encryption seals most text aad draws)
  encryption_told most text aad draws =
      then_drawn_told (limited most (length aad) (length text)) draws (drawn_seal seals text aad draws) (limited_told most (length aad) (length text)) (drawn_seal_told text aad draws)

  pub decryption_told : (opens : List ℕ → List ℕ → List ℕ) (most : ℕ) (input aad : List ℕ) → IsTold (decryption seals opens most input aad)
  decryption_told opens most input aad =
      let nonce = take 12 input in
      let sealed = drop 12 input in
      told_if (nat_lt (length input) 28) _ _ tt
      (then_answer_told (limited most (length aad) (length input - 28)) (tried (seals nonce aad) (opens nonce sealed) sealed) (limited_told most (length aad) (length input - 28))
      (told_if (bytes_eq (seals nonce aad (opens nonce sealed)) sealed) _ _ tt tt))
