-- Which inputs AES in counter mode with a MAC accepts.
use Rattle.std.proofs.Common.{◌≡◌, ◌≤◌, ◌<◌, ◌+◌, ◌-◌, ◌^◌, ℕ, Bool, List, ◌++◌, length, take, drop, nat_le, ap, ap₂, refl, sym, ◌∙◌, arith, length-append}
use Rattle.std.specs.Prelude.{Result, Ok, Err, if◌then◌else◌, nat_eq, nat_lt, ◌↔◌}
use Rattle.std.proofs.lemmas.Bool.{eq-eqb, leb-true, le-ltb, lt-ltb, ltb-true}
use Rattle.std.proofs.lemmas.List.{drop_at, length-take-le, take-append-drop, take_at}
use Rattle.tink_io.specs.declared.error.Kind.{Kind}
use Rattle.tink_io.specs.declared.error.Kind.TheVariants.{BadIvSize, BadTagSize, DataTooLong, RandomFault, TooShort}
use Rattle.tink_aead_subtle.specs.Composed.{authenticated, composed_decrypts, composed_encrypts, tagged, tagged_answer, with_tag}
use Rattle.tink_aead_subtle.specs.CounterMode.{ctr_decrypts, ctr_encrypts, in_counter_mode}
use Rattle.tink_aead_subtle.specs.Laws.{IsComposed, IsMac}
use Rattle.tink_aead_subtle.specs.NonceAeads.{then_answer}
use Rattle.tink_aead_subtle.proofs.CounterModeExact.{answer_is, decrypted, decrypts, sealed_is}
use Rattle.tink_aead_subtle.proofs.Exact.{answered, passed, passes}

-- where neither length is refused and the tag is verified, the cipher answers
pub composed_is : (decrypts : List ℕ → Result (List ℕ) Kind) (verifies : List ℕ → List ℕ → Result (Unit {0}) Kind) (t : ℕ) (input aad tag message : List ℕ) → t ≤ length input → length aad < 2 ^ 61
    → tag ≡ drop (length input - t) input → message ≡ authenticated aad (take (length input - t) input) → verifies tag message ≡ Ok tt → composed_decrypts decrypts verifies t input aad ≡ decrypts (take (length input - t) input)
composed_is decrypts verifies t input aad tag message enough short tag_is message_is verified =
    let n = length input - t in
    let opened = decrypts (take n input) in
    let rest = λ (g m : List ℕ). then_answer (verifies g m) opened in
    let trial = rest (drop n input) (authenticated aad (take n input)) in
    ap (λ (b : Bool). if b then Err TooShort else (if nat_lt (length aad) (2 ^ 61) then trial else Err DataTooLong)) (le-ltb (length input) t enough)
    ∙ ap (λ (b : Bool). if b then trial else Err DataTooLong) (lt-ltb (length aad) (2 ^ 61) short)
    ∙ ap₂ rest (sym tag_is) (sym message_is)
    ∙ ap (λ (r : Result (Unit {0}) Kind). then_answer r opened) verified

module _ (key : List ℕ) (iv_size : ℕ) (fits : iv_size ≤ 16) (t : ℕ) (computes : List ℕ → Result (List ℕ) Kind) (verifies : List ℕ → List ℕ → Result (Unit {0}) Kind) (mac : List ℕ → List ℕ) (own : IsMac computes verifies t mac) where
  is_composed : (input aad text : List ℕ) → composed_decrypts (ctr_decrypts key iv_size) verifies t input aad ≡ Ok text → IsComposed key iv_size mac aad text input
  is_composed input aad text e =
      let n = length input - t in
      let sealed = take n input in
      let tag = drop n input in
      let verdict = verifies tag (authenticated aad sealed) in
      let opened = ctr_decrypts key iv_size sealed in
      let first = passes (nat_lt (length input) t) TooShort (if nat_lt (length aad) (2 ^ 61) then then_answer verdict opened else Err DataTooLong) text e in
      let second = passed (nat_lt (length aad) (2 ^ 61)) DataTooLong (then_answer verdict opened) text first.1 in
      let third = answered verdict opened text second.1 in
      let tag_is : tag ≡ mac (authenticated aad sealed) = (own.verified tag (authenticated aad sealed)).0 third.0 in
      let parts = decrypted key iv_size fits sealed text third.1 in
      let iv = take iv_size sealed in
      record {
        iv = iv;
        size = length-take-le iv_size sealed parts.0;
        is = sym (take-append-drop n input) ∙ ap₂ (λ (s g : List ℕ). s ++ g) parts.1 (tag_is ∙ ap (λ (s : List ℕ). mac (authenticated aad s)) parts.1);
        fits = ltb-true (length aad) (2 ^ 61) second.0;
      }

  is_accepted : (input aad text : List ℕ) → IsComposed key iv_size mac aad text input → composed_decrypts (ctr_decrypts key iv_size) verifies t input aad ≡ Ok text
  is_accepted input aad text h =
      let sealed = h.iv ++ in_counter_mode key h.iv text in
      let message = authenticated aad sealed in
      let n = length input - t in
      let size : length input ≡ length sealed + t = ap length h.is ∙ length-append sealed (mac message) ∙ ap (λ m. length sealed + m) (own.size message) in
      let at : length sealed ≡ n = omega (arith, size) in
      let front : take n input ≡ sealed = ap (take n) h.is ∙ take_at sealed (mac message) n at in
      let back : drop n input ≡ mac message = ap (drop n) h.is ∙ drop_at sealed (mac message) n at in
      let rest = λ (g s : List ℕ). then_answer (verifies g (authenticated aad s)) (ctr_decrypts key iv_size s) in
      ap (λ (b : Bool). if b then Err TooShort else (if nat_lt (length aad) (2 ^ 61) then rest (drop n input) (take n input) else Err DataTooLong)) (le-ltb (length input) t (omega (arith, size)))
      ∙ ap (λ (b : Bool). if b then rest (drop n input) (take n input) else Err DataTooLong) (lt-ltb (length aad) (2 ^ 61) h.fits)
      ∙ ap₂ rest back front
      ∙ ap (λ (r : Result (Unit {0}) Kind). then_answer r (ctr_decrypts key iv_size sealed)) ((own.verified (mac message) message).1 refl)
      ∙ decrypts key iv_size fits h.iv text h.size

  pub accepts_exactly : (input aad text : List ℕ) → (composed_decrypts (ctr_decrypts key iv_size) verifies t input aad ≡ Ok text) ↔ IsComposed key iv_size mac aad text input
  accepts_exactly input aad text = (is_composed input aad text, is_accepted input aad text)

  -- what the cipher made has its tag behind it
  tagged_is : (aad sealed : List ℕ) → length aad < 2 ^ 61 → tagged computes t aad sealed ≡ Ok (sealed ++ mac (authenticated aad sealed))
  tagged_is aad sealed short =
      let message = authenticated aad sealed in
      ap (λ (b : Bool). if b then with_tag t sealed (computes message) else Err DataTooLong) (lt-ltb (length aad) (2 ^ 61) short)
      ∙ ap (with_tag t sealed) (own.computed message)
      ∙ ap (λ (b : Bool). if b then Ok (sealed ++ mac message) else Err BadTagSize) (eq-eqb (length (mac message)) t (own.size message))

  pub encrypts : (text aad draws : List ℕ) → length aad < 2 ^ 61 → iv_size ≤ length draws
      → (sealed : List ℕ) × ((composed_encrypts (ctr_encrypts key iv_size) computes t text aad draws).0 ≡ Ok sealed)
  encrypts text aad draws short enough =
      let made = take iv_size draws ++ in_counter_mode key (take iv_size draws) text in
      (made ++ mac (authenticated aad made), ap (tagged_answer computes t aad) (sealed_is key iv_size fits text draws enough) ∙ tagged_is aad made short)

  -- where a tag was put behind it, the cipher made something
  made_of_cipher : (aad out : List ℕ) (r : Result (List ℕ) Kind) → tagged_answer computes t aad r ≡ Ok out → (sealed : List ℕ) × ((r ≡ Ok sealed) × (tagged computes t aad sealed ≡ Ok out))
  made_of_cipher aad out (Ok sealed) e = (sealed, (refl, e))
  made_of_cipher aad out (Err k) e = absurd (cc)

  -- what is encrypted is such an input
  pub encrypted_is : (text aad draws out : List ℕ) → (composed_encrypts (ctr_encrypts key iv_size) computes t text aad draws).0 ≡ Ok out → IsComposed key iv_size mac aad text out
  encrypted_is text aad draws out e =
      let iv = take iv_size draws in
      let made = iv ++ in_counter_mode key iv text in
      let parts = made_of_cipher aad out (ctr_encrypts key iv_size text draws).0 e in
      let sealed = parts.0 in
      let drawn : Result (List ℕ) Kind = if nat_le iv_size (length draws) then Ok made else Err RandomFault in
      let first = passed (nat_le iv_size 16) BadIvSize drawn sealed (sym (answer_is key iv_size text draws) ∙ parts.1.0) in
      let second = passed (nat_le iv_size (length draws)) RandomFault (Ok made) sealed first.1 in
      let message = authenticated aad sealed in
      let third = passed (nat_lt (length aad) (2 ^ 61)) DataTooLong (with_tag t sealed (computes message)) out parts.1.1 in
      let fourth = passed (nat_eq (length (mac message)) t) BadTagSize (Ok (sealed ++ mac message)) out (ap (with_tag t sealed) (sym (own.computed message)) ∙ third.1) in
      let made_is : made ≡ sealed = cc second.1 in
      let out_is : sealed ++ mac message ≡ out = cc fourth.1 in
      record {
        iv = iv;
        size = length-take-le iv_size draws (leb-true iv_size (length draws) second.0);
        is = sym out_is ∙ ap (λ (s : List ℕ). s ++ mac (authenticated aad s)) (sym made_is);
        fits = ltb-true (length aad) (2 ^ 61) third.0;
      }
