-- Which inputs AES in counter mode decrypts.
use Rattle.std.proofs.Common.{◌≡◌, ◌≤◌, ℕ, Bool, List, ◌++◌, length, take, drop, nat_le, ap, ap₂, sym, ◌∙◌, arith, length-append}
use Rattle.std.specs.Prelude.{Result, Ok, Err, if◌then◌else◌, ◌↔◌}
use Rattle.std.specs.Int.{w64}
use Rattle.std.proofs.lemmas.Bool.{leb-true, le-leb}
use Rattle.std.proofs.lemmas.List.{drop_at, length-take-le, take-append-drop, take_at}
use Rattle.standards.specs.AesKeys.{aes}
use Rattle.standards.specs.Counter.{plus_be}
use Rattle.standards.proofs.Keystream.{ctr_twice}
use Rattle.tink_io.specs.declared.error.Kind.{Kind}
use Rattle.tink_io.specs.declared.error.Kind.TheVariants.{BadIvSize, RandomFault, TooShort}
use Rattle.tink_aead_subtle.specs.CounterMode.{counter_block, ctr_decrypts, ctr_encrypts, in_counter_mode}
use Rattle.tink_aead_subtle.specs.Laws.{CounterUndoes, IsCounterEncryption}
use Rattle.tink_aead_subtle.proofs.Exact.{first_if, passed}

-- a text in counter mode twice is the text
twice : (key iv text : List ℕ) → in_counter_mode key iv (in_counter_mode key iv text) ≡ text
twice key iv text = ctr_twice (aes key) (plus_be w64) (counter_block iv) text

module _ (key : List ℕ) (iv_size : ℕ) where
  -- the cipher's answer alone
  pub answer_is : (text draws : List ℕ) → let made = take iv_size draws ++ in_counter_mode key (take iv_size draws) text in
      (ctr_encrypts key iv_size text draws).0 ≡ (if nat_le iv_size 16 then (if nat_le iv_size (length draws) then Ok made else Err RandomFault) else Err BadIvSize)
  answer_is text draws =
      let made = take iv_size draws ++ in_counter_mode key (take iv_size draws) text in
      let drawn : Result (List ℕ) Kind × List ℕ = if nat_le iv_size (length draws) then (Ok made, drop iv_size draws) else (Err RandomFault, draws) in
      first_if (nat_le iv_size 16) drawn (Err BadIvSize, draws)
      ∙ ap (λ (r : Result (List ℕ) Kind). if nat_le iv_size 16 then r else Err BadIvSize) (first_if (nat_le iv_size (length draws)) (Ok made, drop iv_size draws) (Err RandomFault, draws))

  module _ (fits : iv_size ≤ 16) where
    -- what is decrypted begins with a vector, and the text in counter mode follows
    pub decrypted : (sealed text : List ℕ) → ctr_decrypts key iv_size sealed ≡ Ok text
        → (iv_size ≤ length sealed) × (sealed ≡ take iv_size sealed ++ in_counter_mode key (take iv_size sealed) text)
    decrypted sealed text e =
        let iv = take iv_size sealed in
        let rest = drop iv_size sealed in
        let found = in_counter_mode key iv rest in
        let first = passed (nat_le iv_size 16) BadIvSize (if nat_le iv_size (length sealed) then Ok found else Err TooShort) text e in
        let second = passed (nat_le iv_size (length sealed)) TooShort (Ok found) text first.1 in
        let same : found ≡ text = cc second.1 in
        let back : rest ≡ in_counter_mode key iv text = sym (twice key iv rest) ∙ ap (in_counter_mode key iv) same in
        (leb-true iv_size (length sealed) second.0, sym (take-append-drop iv_size sealed) ∙ ap (λ s. iv ++ s) back)

    -- and each such list is decrypted
    pub decrypts : (iv text : List ℕ) → length iv ≡ iv_size → ctr_decrypts key iv_size (iv ++ in_counter_mode key iv text) ≡ Ok text
    decrypts iv text size =
        let cipher = in_counter_mode key iv text in
        let sealed = iv ++ cipher in
        ap (λ (b : Bool). if b then (if nat_le iv_size (length sealed) then Ok (in_counter_mode key (take iv_size sealed) (drop iv_size sealed)) else Err TooShort) else Err BadIvSize) (le-leb iv_size 16 fits)
        ∙ ap (λ (b : Bool). if b then Ok (in_counter_mode key (take iv_size sealed) (drop iv_size sealed)) else Err TooShort) (le-leb iv_size (length sealed) (omega (arith, size, length-append iv cipher)))
        ∙ ap₂ (λ (v c : List ℕ). Ok (in_counter_mode key v c)) (take_at iv cipher iv_size size) (drop_at iv cipher iv_size size)
        ∙ ap Ok (twice key iv text)

    -- so exactly these are decrypted
    pub counted : (input text : List ℕ) → (ctr_decrypts key iv_size input ≡ Ok text) ↔ IsCounterEncryption key iv_size text input
    counted input text = (
      λ e. let parts = decrypted input text e in record { iv = take iv_size input; size = length-take-le iv_size input parts.0; is = parts.1 },
      λ h. ap (ctr_decrypts key iv_size) h.is ∙ decrypts h.iv text h.size,
    )

    -- with enough draws the cipher encrypts
    pub sealed_is : (text draws : List ℕ) → iv_size ≤ length draws → (ctr_encrypts key iv_size text draws).0 ≡ Ok (take iv_size draws ++ in_counter_mode key (take iv_size draws) text)
    sealed_is text draws enough =
        let made = take iv_size draws ++ in_counter_mode key (take iv_size draws) text in
        answer_is text draws
        ∙ ap (λ (b : Bool). if b then (if nat_le iv_size (length draws) then Ok made else Err RandomFault) else Err BadIvSize) (le-leb iv_size 16 fits)
        ∙ ap (λ (b : Bool). if b then Ok made else Err RandomFault) (le-leb iv_size (length draws) enough)

-- what is encrypted is decrypted again
pub counter_undoes : CounterUndoes
counter_undoes = λ key iv_size text draws sealed e.
    let iv = take iv_size draws in
    let made = iv ++ in_counter_mode key iv text in
    let drawn : Result (List ℕ) Kind = if nat_le iv_size (length draws) then Ok made else Err RandomFault in
    let first = passed (nat_le iv_size 16) BadIvSize drawn sealed (sym (answer_is key iv_size text draws) ∙ e) in
    let second = passed (nat_le iv_size (length draws)) RandomFault (Ok made) sealed first.1 in
    let made_is : made ≡ sealed = cc second.1 in
    ap (ctr_decrypts key iv_size) (sym made_is)
    ∙ decrypts key iv_size (leb-true iv_size 16 first.0) iv text (length-take-le iv_size draws (leb-true iv_size (length draws) second.0))
