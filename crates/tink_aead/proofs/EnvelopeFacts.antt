-- Envelopes undo their own encryption.
use Rattle.std.proofs.Common.{◌≡◌, ◌≤◌, ◌<◌, ◌^◌, ℕ, Bool, false, List, [], ◌++◌, length, take, drop, ap, ap₂, refl, subst, ◌∙◌, arith, length-append}
use Rattle.std.specs.Prelude.{Result, Ok, Err, if◌then◌else◌, nat_eq, nat_lt, ◌||◌}
use Rattle.std.specs.Int.{w32, from_be_bytes, to_be_bytes}
use Rattle.std.proofs.lemmas.Bool.{le-ltb, lt-leb, ltb-true, ne_eqb}
use Rattle.std.proofs.lemmas.List.{drop_at, take_at}
use Rattle.standards.proofs.ByteOrder.{from_be_bytes-to_be_bytes, length-to_be_bytes}
use Rattle.tink_io.specs.declared.error.Kind.{Kind}
use Rattle.tink_io.specs.declared.error.Kind.TheVariants.{DecryptFailed, LengthOverU32, TooShort}
use Rattle.tink_io.specs.Answering.{and_then}
use Rattle.tink_aead.specs.Envelope.{after_answer, cut_decrypts, envelope_decrypts, parts_decrypt}
use Rattle.tink_aead.specs.EnvelopeLaws.{EnvelopeUndoes}
use Rattle.tink_aead_subtle.proofs.Exact.{passed}

-- where a step gives a value, the one before it did
given : {A B : Type 0} (r : Result A Kind) (left : List ℕ) (next : A → List ℕ → Result B Kind × List ℕ) (v : B) → (after_answer r left next).0 ≡ Ok v
    → (x : A) × ((r ≡ Ok x) × ((next x left).0 ≡ Ok v))
given (Ok x) left next v e = (x, (refl, e))
given (Err k) left next v e = absurd (cc)

either : (a b : Bool) → a ≡ false → b ≡ false → (a || b) ≡ false
either a b first second = ap₂ (λ x y. x || y) first second

module _ {P : Type 0} (decrypts : P → List ℕ → List ℕ → Result (List ℕ) Kind)
    (opens : List ℕ → List ℕ → Result (List ℕ) Kind) (aead_of : List ℕ → Result P Kind) where
  -- an encrypted key and what follows it are cut where its length says
  cut_at : (sealed_key payload aad : List ℕ) (n : ℕ) → 1 ≤ length sealed_key → length sealed_key ≡ n
      → cut_decrypts opens aead_of decrypts n (sealed_key ++ payload) aad ≡ parts_decrypt opens aead_of decrypts sealed_key payload aad
  cut_at sealed_key payload aad n some size =
      let rest = sealed_key ++ payload in
      let long : n ≤ length rest = omega (arith, size, length-append sealed_key payload) in
      let there : nat_eq n 0 ≡ false = ne_eqb n 0 (λ e. omega (arith, size, some, e)) in
      ap (λ (b : Bool). if b then Err DecryptFailed else parts_decrypt opens aead_of decrypts (take n rest) (drop n rest) aad) (either (nat_eq n 0) (nat_lt (length rest) n) there (le-ltb (length rest) n long))
      ∙ ap₂ (λ (s p : List ℕ). parts_decrypt opens aead_of decrypts s p aad) (take_at sealed_key payload n size) (drop_at sealed_key payload n size)

  -- an envelope is taken apart
  taken_apart : (sealed_key payload aad : List ℕ) → 1 ≤ length sealed_key → length sealed_key < 2 ^ 32
      → envelope_decrypts opens aead_of decrypts (to_be_bytes w32 (length sealed_key) ++ sealed_key ++ payload) aad ≡ parts_decrypt opens aead_of decrypts sealed_key payload aad
  taken_apart sealed_key payload aad some fits =
      let size = to_be_bytes w32 (length sealed_key) in
      let rest = sealed_key ++ payload in
      let input = size ++ rest in
      let four = length-to_be_bytes w32 (length sealed_key) in
      let long : 4 < length input = omega (arith, some, four, length-append size rest, length-append sealed_key payload) in
      ap (λ (b : Bool). if b then Err TooShort else cut_decrypts opens aead_of decrypts (from_be_bytes w32 (take 4 input)) (drop 4 input) aad) (lt-leb (length input) 4 long)
      ∙ ap₂ (λ (s r : List ℕ). cut_decrypts opens aead_of decrypts (from_be_bytes w32 s) r aad) (take_at size rest 4 four) (drop_at size rest 4 four)
      ∙ ap (λ (n : ℕ). cut_decrypts opens aead_of decrypts n rest aad) (from_be_bytes-to_be_bytes w32 (length sealed_key) fits)
      ∙ cut_at sealed_key payload aad (length sealed_key) some refl

  -- what each part opens is opened by the whole
  parts_open : (sealed_key payload aad key text : List ℕ) (p : P) → opens sealed_key [] ≡ Ok key → aead_of key ≡ Ok p → decrypts p payload aad ≡ Ok text
      → parts_decrypt opens aead_of decrypts sealed_key payload aad ≡ Ok text
  parts_open sealed_key payload aad key text p first second third =
      ap (λ (r : Result (List ℕ) Kind). and_then r (λ k. and_then (aead_of k) (λ q. decrypts q payload aad))) first
      ∙ ap (λ (r : Result P Kind). and_then r (λ q. decrypts q payload aad)) second
      ∙ third

  -- so an envelope is opened
  opened : (sealed_key payload aad key text : List ℕ) (p : P) → 1 ≤ length sealed_key → length sealed_key < 2 ^ 32 → opens sealed_key [] ≡ Ok key → aead_of key ≡ Ok p → decrypts p payload aad ≡ Ok text
      → envelope_decrypts opens aead_of decrypts (to_be_bytes w32 (length sealed_key) ++ sealed_key ++ payload) aad ≡ Ok text
  opened sealed_key payload aad key text p some fits first second third = taken_apart sealed_key payload aad some fits ∙ parts_open sealed_key payload aad key text p first second third

pub envelope_undoes : {P : Type 0} (encrypts : P → List ℕ → List ℕ → List ℕ → Result (List ℕ) Kind × List ℕ) (decrypts : P → List ℕ → List ℕ → Result (List ℕ) Kind) → EnvelopeUndoes encrypts decrypts
envelope_undoes encrypts decrypts makes seals opens aead_of undoes some data_keys text aad draws sealed e =
    let of_key = given (makes draws).0 (makes draws).1 _ sealed e in
    let key = of_key.0 in
    let left = (makes draws).1 in
    let of_remote = given (seals key [] left).0 (seals key [] left).1 _ sealed of_key.1.1 in
    let sealed_key = of_remote.0 in
    let later = (seals key [] left).1 in
    let of_aead = given (aead_of key) later _ sealed of_remote.1.1 in
    let p = of_aead.0 in
    let of_text = given (encrypts p text aad later).0 (encrypts p text aad later).1 _ sealed of_aead.1.1 in
    let payload = of_text.0 in
    let whole = to_be_bytes w32 (length sealed_key) ++ sealed_key ++ payload in
    let last = passed (nat_lt (length sealed_key) (2 ^ 32)) LengthOverU32 (Ok whole) sealed of_text.1.1 in
    let same : whole ≡ sealed = cc last.1 in
    subst (λ (s : List ℕ). envelope_decrypts opens aead_of decrypts s aad ≡ Ok text) same
    (opened decrypts opens aead_of sealed_key payload aad key text p (some key [] left sealed_key of_remote.1.0) (ltb-true (length sealed_key) (2 ^ 32) last.0)
    (undoes key [] left sealed_key of_remote.1.0) of_aead.1.0 (data_keys key p of_aead.1.0 text aad later payload of_text.1.0))
