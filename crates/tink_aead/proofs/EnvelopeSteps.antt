-- How an encryption in an envelope ends, and a decryption.
use Rattle.std.proofs.Common.{◌≡◌, inl, inr, ◌≤◌, ◌<◌, ℕ, Bool, true, false, List, [], length, take, drop, ap, ap₂, refl, sym, subst, ◌∙◌, arith}
use Rattle.std.specs.Prelude.{Result, Ok, Err, ◌||◌, if◌then◌else◌, nat_eq, nat_le, nat_lt}
use Rattle.std.specs.Int.{w32, from_be_bytes}
use Rattle.std.proofs.lemmas.Bool.{le-leb, le-ltb, lt-leb, ne_eqb}
use Rattle.tink_io.specs.declared.error.Kind.{Kind}
use Rattle.tink_io.specs.declared.error.Kind.TheVariants.{DecryptFailed, TooShort}
use Rattle.tink_io.specs.declared.error.TinkError.{TinkError}
use Rattle.tink_io.specs.Answering.{Answers, Replies, and_then}
use Rattle.tink_primitives.specs.Meaning.{IsDrawn}
use Rattle.tink_primitives.specs.MeaningLaws.{replies_end}
use Rattle.tink_aead.specs.Envelope.{by_data_key, by_key_bytes, by_remote_key, enveloped, envelope_decrypts, envelope_encrypts, envelope_parts, parts_at, parts_decrypt}
use Rattle.tink_aead.proofs.Chained.{followed, refused, undrawn}

module _ {P : Type 0} (encrypts : P → List ℕ → List ℕ → List ℕ → Result (List ℕ) Kind × List ℕ) (text aad : List ℕ) (aead_of : List ℕ → Result P Kind) (key sealed_key draws : List ℕ) where
  -- no AEAD is built of the data key
  pub build_refuses : (e : TinkError) → Answers {T = P} (Err e) (aead_of key) → Replies {T = List ℕ} (Err e) (by_key_bytes encrypts text aad aead_of key sealed_key draws) draws draws
  build_refuses e answers = refused (by_data_key encrypts text aad sealed_key) (aead_of key, draws) draws e draws (undrawn (Err e) (aead_of key) draws answers)

  module _ (p : P) (built : aead_of key ≡ Ok p) where
    -- behind the AEAD
    behind_aead : (new : List ℕ) (r : Result (List ℕ) TinkError) → Replies r (by_data_key encrypts text aad sealed_key p draws) draws new
        → Replies r (by_key_bytes encrypts text aad aead_of key sealed_key draws) draws new
    behind_aead new r replies = followed (by_data_key encrypts text aad sealed_key) (aead_of key, draws) draws p draws new r ([], refl) (built, refl) replies

    pub text_refused : (e : TinkError) (new : List ℕ) → Replies {T = List ℕ} (Err e) (encrypts p text aad draws) draws new
        → Replies {T = List ℕ} (Err e) (by_key_bytes encrypts text aad aead_of key sealed_key draws) draws new
    text_refused e new replies = behind_aead new (Err e) (refused (λ payload now. (enveloped sealed_key payload, now)) (encrypts p text aad draws) draws e new replies)

    pub envelope_last : (payload new : List ℕ) (r : Result (List ℕ) TinkError) → IsDrawn draws (encrypts p text aad draws) → Replies {T = List ℕ} (Ok payload) (encrypts p text aad draws) draws new
        → Answers r (enveloped sealed_key payload) → Replies r (by_key_bytes encrypts text aad aead_of key sealed_key draws) draws new
    envelope_last payload new r payload_told told answers =
        behind_aead new r (followed (λ body now. (enveloped sealed_key body, now)) (encrypts p text aad draws) draws payload new new r (replies_end (Ok payload) (encrypts p text aad draws) draws new payload_told told) told (undrawn r (enveloped sealed_key payload) new answers))

module _ {P : Type 0} (makes : List ℕ → Result (List ℕ) Kind × List ℕ) (remote : List ℕ → List ℕ → List ℕ → Result (List ℕ) Kind × List ℕ) (aead_of : List ℕ → Result P Kind)
    (encrypts : P → List ℕ → List ℕ → List ℕ → Result (List ℕ) Kind × List ℕ) (text aad draws : List ℕ) where
  -- no data key is made
  pub make_refused : (e : TinkError) (new : List ℕ) → Replies {T = List ℕ} (Err e) (makes draws) draws new → Replies {T = List ℕ} (Err e) (envelope_encrypts makes remote aead_of encrypts text aad draws) draws new
  make_refused e new replies = refused (by_remote_key encrypts text aad aead_of remote) (makes draws) draws e new replies

  module _ (key left : List ℕ) (makes_told : IsDrawn draws (makes draws)) (made : Replies {T = List ℕ} (Ok key) (makes draws) draws left) where
    -- behind the data key
    behind_key : (new : List ℕ) (r : Result (List ℕ) TinkError) → Replies r (by_remote_key encrypts text aad aead_of remote key left) left new
        → Replies r (envelope_encrypts makes remote aead_of encrypts text aad draws) draws new
    behind_key new r replies = followed (by_remote_key encrypts text aad aead_of remote) (makes draws) draws key left new r (replies_end (Ok key) (makes draws) draws left makes_told made) made replies

    pub remote_refused : (e : TinkError) (new : List ℕ) → Replies {T = List ℕ} (Err e) (remote key [] left) left new
        → Replies {T = List ℕ} (Err e) (envelope_encrypts makes remote aead_of encrypts text aad draws) draws new
    remote_refused e new replies = behind_key new (Err e) (refused (by_key_bytes encrypts text aad aead_of key) (remote key [] left) left e new replies)

    -- behind the remote key
    pub behind_remote : (sealed_key later new : List ℕ) (r : Result (List ℕ) TinkError) → IsDrawn left (remote key [] left) → Replies {T = List ℕ} (Ok sealed_key) (remote key [] left) left later
        → Replies r (by_key_bytes encrypts text aad aead_of key sealed_key later) later new → Replies r (envelope_encrypts makes remote aead_of encrypts text aad draws) draws new
    behind_remote sealed_key later new r remote_told sealed replies =
        behind_key new r (followed (by_key_bytes encrypts text aad aead_of key) (remote key [] left) left sealed_key later new r (replies_end (Ok sealed_key) (remote key [] left) left later remote_told sealed) sealed replies)

-- the refusal of a first step is that of both
pub and_refused : {S T : Type 0} (told : Result S Kind) (next : S → Result T Kind) (e : TinkError) → Answers {T = S} (Err e) told → Answers {T = T} (Err e) (and_then told next)
and_refused told next e (inl none) = inl none
and_refused told next e (inr is) = inr (ap (λ r. and_then r next) is)

-- too few bytes are no envelope
pub too_short : (input : List ℕ) (e : TinkError) → length input ≤ 4 → e ≡ record { kind = TooShort } → envelope_parts input ≡ Err e.kind
too_short input e short is =
    let rest = parts_at (from_be_bytes w32 (take 4 input)) (drop 4 input) in
    ap (λ (b : Bool). if b then Err TooShort else rest) (le-leb (length input) 4 short) ∙ ap (λ (x : TinkError). Err x.kind) (sym is)

-- an envelope that is long enough is cut where its length says
pub cut_there : (input : List ℕ) (n : ℕ) (rest : List ℕ) → 4 < length input → n ≡ from_be_bytes w32 (take 4 input) → 0 < n → rest ≡ drop 4 input → n ≤ length rest → envelope_parts input ≡ Ok (take n rest, drop n rest)
cut_there input n rest long n_is some rest_is fits =
    ap (λ (b : Bool). if b then Err TooShort else parts_at (from_be_bytes w32 (take 4 input)) (drop 4 input)) (lt-leb (length input) 4 long)
    ∙ ap₂ parts_at (sym n_is) (sym rest_is)
    ∙ ap (λ (b : Bool). if b || nat_lt (length rest) n then Err DecryptFailed else Ok (take n rest, drop n rest)) (ne_eqb n 0 (λ e. absurd (omega (arith, e, some))))
    ∙ ap (λ (b : Bool). if b then Err DecryptFailed else Ok (take n rest, drop n rest)) (le-ltb (length rest) n fits)

module _ {P : Type 0} (remote : List ℕ → List ℕ → Result (List ℕ) Kind) (aead_of : List ℕ → Result P Kind) (decrypts : P → List ℕ → List ℕ → Result (List ℕ) Kind) (input aad : List ℕ) where
  abbrev of_parts : List ℕ × List ℕ → Result (List ℕ) Kind
  of_parts p = parts_decrypt remote aead_of decrypts p.0 p.1 aad

  tested : (b : Bool) (k : Kind) (r : Result (List ℕ × List ℕ) Kind) → (if b then Err k else and_then r of_parts) ≡ and_then (if b then Err k else r) of_parts
  tested true k r = refl
  tested false k r = refl

  -- a decryption of an envelope is one of its parts
  by_parts : envelope_decrypts remote aead_of decrypts input aad ≡ and_then (envelope_parts input) of_parts
  by_parts =
      let n = from_be_bytes w32 (take 4 input) in
      let rest = drop 4 input in
      ap (λ (r : Result (List ℕ) Kind). if nat_le (length input) 4 then Err TooShort else r) (tested (nat_eq n 0 || nat_lt (length rest) n) DecryptFailed (Ok (take n rest, drop n rest)))
      ∙ tested (nat_le (length input) 4) TooShort (parts_at n rest)

  pub no_parts : (e : TinkError) → envelope_parts input ≡ Err e.kind → Answers {T = List ℕ} (Err e) (envelope_decrypts remote aead_of decrypts input aad)
  no_parts e is = inr (by_parts ∙ ap (λ (r : Result (List ℕ × List ℕ) Kind). and_then r of_parts) is)

  module _ (sealed_key payload : List ℕ) (are : envelope_parts input ≡ Ok (sealed_key, payload)) where
    opened : envelope_decrypts remote aead_of decrypts input aad ≡ parts_decrypt remote aead_of decrypts sealed_key payload aad
    opened = by_parts ∙ ap (λ (r : Result (List ℕ × List ℕ) Kind). and_then r of_parts) are

    -- the remote key refuses the encrypted data key
    pub key_refused : (e : TinkError) → Answers {T = List ℕ} (Err e) (remote sealed_key []) → Answers {T = List ℕ} (Err e) (envelope_decrypts remote aead_of decrypts input aad)
    key_refused e told =
        subst (λ (r : Result (List ℕ) Kind). Answers {T = List ℕ} (Err e) r) (sym opened)
        (and_refused (remote sealed_key []) (λ k. and_then (aead_of k) (λ p. decrypts p payload aad)) e told)

    -- the remote key opens it
    pub key_opened : (key : List ℕ) (r : Result (List ℕ) TinkError) → remote sealed_key [] ≡ Ok key → Answers r (and_then (aead_of key) (λ p. decrypts p payload aad))
        → Answers r (envelope_decrypts remote aead_of decrypts input aad)
    key_opened key r told answers =
        let is = opened ∙ ap (λ (t : Result (List ℕ) Kind). and_then t (λ k. and_then (aead_of k) (λ p. decrypts p payload aad))) told in
        subst (λ (t : Result (List ℕ) Kind). Answers r t) (sym is) answers

-- what an AEAD answers that is built
pub built_answers : {P : Type 0} (told : Result P Kind) (next : P → Result (List ℕ) Kind) (p : P) (r : Result (List ℕ) TinkError) → told ≡ Ok p → Answers r (next p) → Answers r (and_then told next)
built_answers told next p r built answers = subst (λ t. Answers r (and_then t next)) (sym built) answers
