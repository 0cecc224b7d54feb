-- Which inputs AES-SIV decrypts.
use Rattle.std.proofs.Common.{◌≡◌, ◌≤◌, ◌/◌, inl, inr, ℕ, Bool, true, false, List, ◌++◌, length, take, drop, ap, refl, sym, ◌∙◌, arith, length-append}
use Rattle.std.specs.Prelude.{Result, Ok, Err, if◌then◌else◌, nat_lt}
use Rattle.std.specs.Int.{w128}
use Rattle.std.specs.Str.{bytes_eq}
use Rattle.std.proofs.lemmas.Bool.{eqb-true, false_from_ne_true, le-ltb, lt-ltb, ltb-false, ltb-true, or_cases}
use Rattle.std.proofs.lemmas.List.{drop_at, length-take-le, take-append-drop, take_at}
use Rattle.std.proofs.lemmas.Slice.Eq.{bytes_eq-Decides}
use Rattle.standards.specs.AesKeys.{aes}
use Rattle.standards.specs.Counter.{ctr, plus_be}
use Rattle.standards.specs.Siv.{s2v, siv, siv_counter}
use Rattle.standards.proofs.AesLengths.{length-aes}
use Rattle.standards.proofs.Keystream.{ctr_twice}
use Rattle.standards.proofs.Lengths.{length-siv}
use Rattle.standards.proofs.ModesUndo.{siv_same, siv_text_twice, take-siv}
use Rattle.aes_block.specs.Ciphers.{encrypted}
use Rattle.aes_block.proofs.KeyedBlocks.{encrypted-aes}
use Rattle.tink_io.specs.declared.error.Kind.{Kind}
use Rattle.tink_io.specs.declared.error.Kind.TheVariants.{DecryptFailed, TooShort}
use Rattle.tink_daead.specs.declared.subtle.aes_siv.SivCiphers.{SivCiphers}
use Rattle.tink_daead.specs.declared.subtle.aes_siv.SivCiphers.TheVariants.{Aes128, Aes256}
use Rattle.tink_daead.specs.AesSiv.{aes_siv, aes_siv_decrypts, counter_half, mac_half, text_behind, tried}
use Rattle.tink_daead.specs.AesSivLaws.{DecryptsExactly, HasOneText, IsSivKey, RefusesOthers, RefusesShort}
use Rattle.tink_daead.specs.SivCiphers.{whole_key, FitsCiphers}

-- ---- SIV over any map

module _ (Emac Ectr : List ℕ → List ℕ) where
  abbrev behind : List ℕ → List ℕ → List ℕ
  behind v = ctr Ectr (plus_be w128) (siv_counter v)

  -- where V is that of the text behind it, the input is the text's encryption
  sealed_again : (aad input : List ℕ) → s2v Emac aad (behind (take 16 input) (drop 16 input)) ≡ take 16 input → siv Emac Ectr aad (behind (take 16 input) (drop 16 input)) ≡ input
  unfolding siv
  sealed_again aad input same =
      let text = behind (take 16 input) (drop 16 input) in
      ap (λ v. v ++ behind v text) same
      ∙ ap (λ c. take 16 input ++ c) (ctr_twice Ectr (plus_be w128) (siv_counter (take 16 input)) (drop 16 input))
      ∙ take-append-drop 16 input

  module _ (blocks : (b : List ℕ) → length (Emac b) ≡ 16) where
    -- of an encryption it is the text that is behind V
    found : (aad input text : List ℕ) → siv Emac Ectr aad text ≡ input → behind (take 16 input) (drop 16 input) ≡ text
    found aad input text e =
        ap (λ i. behind (take 16 i) (drop 16 i)) (sym e)
        ∙ ap (λ v. behind v (drop 16 (siv Emac Ectr aad text))) (take-siv Emac Ectr aad text blocks)
        ∙ siv_text_twice Emac Ectr aad text blocks

    -- and V is that of the text
    own : (aad input text : List ℕ) → siv Emac Ectr aad text ≡ input → s2v Emac aad text ≡ take 16 input
    own aad input text e = sym (take-siv Emac Ectr aad text blocks) ∙ ap (take 16) e

-- ---- under AES keys

half_size : (n : ℕ) (key : List ℕ) → length key ≡ n → 32 ≤ n → 16 ≤ length (mac_half key)
half_size n key size long = omega (arith, size, long, length-take-le (length key / 2) key (omega arith))

pub long_half : (key : List ℕ) → IsSivKey key → 16 ≤ length (mac_half key)
long_half key is =
    elim (or_cases _ _ is) [
      | inl e ↦ half_size 32 key (eqb-true (length key) 32 e) (omega arith)
      | inr e ↦ half_size 64 key (eqb-true (length key) 64 e) (omega arith)
    ]

-- a test that refuses did not hold
passes : {T : Type 0} (b : Bool) (k : Kind) (r : Result T Kind) (v : T) → (if b then Err k else r) ≡ Ok v → (b ≡ false) × (r ≡ Ok v)
passes true k r v e = absurd (cc)
passes false k r v e = (refl, e)

-- a test that has to hold did
passed : {T : Type 0} (b : Bool) (k : Kind) (u v : T) → (if b then Ok u else Err k) ≡ Ok v → (b ≡ true) × (u ≡ v)
passed true k u v e = (refl, cc)
passed false k u v e = absurd (cc)

-- of two refusals the one or the other
too_short : {T : Type 0} (b c : Bool) (v : T) → (if b then Err TooShort else (if c then Ok v else Err DecryptFailed)) ≡ Err TooShort → b ≡ true
too_short true c v e = refl
too_short false true v e = absurd (cc)
too_short false false v e = absurd (cc)

failed : {T : Type 0} (b c : Bool) (v : T) → (if b then Err TooShort else (if c then Ok v else Err DecryptFailed)) ≡ Err DecryptFailed → (b ≡ false) × (c ≡ false)
failed true c v e = absurd (cc)
failed false true v e = absurd (cc)
failed false false v e = (refl, refl)

-- what an input that is long enough is decrypted to
long_enough : (key input aad : List ℕ) → 16 ≤ length input → aes_siv_decrypts key input aad ≡ tried key aad input (text_behind key (take 16 input) (drop 16 input))
long_enough key input aad long = ap (λ b. if b then Err TooShort else tried key aad input (text_behind key (take 16 input) (drop 16 input))) (le-ltb (length input) 16 long)

-- a text that gives V again
pub decrypted : (key input aad v rest text : List ℕ) → 16 ≤ length input → v ≡ take 16 input → rest ≡ drop 16 input → text ≡ text_behind key v rest → s2v (aes (mac_half key)) aad text ≡ v
    → aes_siv_decrypts key input aad ≡ Ok text
decrypted key input aad v rest text long v_is rest_is text_is same =
    let E = aes (mac_half key) in
    let at = text_behind key (take 16 input) (drop 16 input) in
    let is : text ≡ at = text_is ∙ ap (λ x. text_behind key x rest) v_is ∙ ap (text_behind key (take 16 input)) rest_is in
    let again : aes_siv key aad at ≡ input = sealed_again E (aes (counter_half key)) aad input (ap (s2v E aad) (sym is) ∙ same ∙ v_is) in
    long_enough key input aad long
    ∙ ap (λ b. if b then Ok at else Err DecryptFailed) ((bytes_eq-Decides (aes_siv key aad at) input).1 again)
    ∙ ap Ok (sym is)

module _ (key : List ℕ) (half : 16 ≤ length (mac_half key)) where
  blocks : (b : List ℕ) → length (aes (mac_half key) b) ≡ 16
  blocks b = length-aes (mac_half key) b (omega (arith, half))

  -- an input whose V is not that of the text behind it
  pub refused : (input aad v rest text : List ℕ) → 16 ≤ length input → v ≡ take 16 input → rest ≡ drop 16 input → text ≡ text_behind key v rest → (s2v (aes (mac_half key)) aad text ≡ v → ⊥)
      → aes_siv_decrypts key input aad ≡ Err DecryptFailed
  refused input aad v rest text long v_is rest_is text_is other =
      let E = aes (mac_half key) in
      let at = text_behind key (take 16 input) (drop 16 input) in
      let is : text ≡ at = text_is ∙ ap (λ x. text_behind key x rest) v_is ∙ ap (text_behind key (take 16 input)) rest_is in
      let differs : bytes_eq (aes_siv key aad at) input ≡ false =
      false_from_ne_true (bytes_eq (aes_siv key aad at) input) (λ e. other (ap (s2v E aad) is ∙ own E (aes (counter_half key)) blocks aad input at ((bytes_eq-Decides (aes_siv key aad at) input).0 e) ∙ sym v_is)) in
      long_enough key input aad long ∙ ap (λ b. if b then Ok at else Err DecryptFailed) differs

  is_sealed : (input aad text : List ℕ) → aes_siv_decrypts key input aad ≡ Ok text → input ≡ aes_siv key aad text
  is_sealed input aad text e =
      let at = text_behind key (take 16 input) (drop 16 input) in
      let first = passes (nat_lt (length input) 16) TooShort (tried key aad input at) text e in
      let second = passed (bytes_eq (aes_siv key aad at) input) DecryptFailed at text first.1 in
      sym (ap (aes_siv key aad) (sym second.1) ∙ (bytes_eq-Decides (aes_siv key aad at) input).0 second.0)

  opens : (input aad text : List ℕ) → input ≡ aes_siv key aad text → aes_siv_decrypts key input aad ≡ Ok text
  opens input aad text e =
      let E = aes (mac_half key) in
      let F = aes (counter_half key) in
      let long : 16 ≤ length input = omega (arith, ap length e, length-siv E F aad text blocks) in
      let at = text_behind key (take 16 input) (drop 16 input) in
      let is : at ≡ text = found E F blocks aad input text (sym e) in
      long_enough key input aad long
      ∙ ap (tried key aad input) is
      ∙ ap (λ b. if b then Ok text else Err DecryptFailed) ((bytes_eq-Decides (aes_siv key aad text) input).1 (sym e))

  fails : (input aad : List ℕ) → aes_siv_decrypts key input aad ≡ Err DecryptFailed → (16 ≤ length input) × ((text : List ℕ) → input ≡ aes_siv key aad text → ⊥)
  fails input aad e =
      let at = text_behind key (take 16 input) (drop 16 input) in
      let both = failed (nat_lt (length input) 16) (bytes_eq (aes_siv key aad at) input) at e in
      (ltb-false (length input) 16 both.0, λ text is. let clash = sym (opens input aad text is) ∙ e in absurd (cc))

  none_fails : (input aad : List ℕ) → 16 ≤ length input → ((text : List ℕ) → input ≡ aes_siv key aad text → ⊥) → aes_siv_decrypts key input aad ≡ Err DecryptFailed
  none_fails input aad long none =
      let at = text_behind key (take 16 input) (drop 16 input) in
      let differs : bytes_eq (aes_siv key aad at) input ≡ false =
      false_from_ne_true (bytes_eq (aes_siv key aad at) input) (λ e. none at (sym ((bytes_eq-Decides (aes_siv key aad at) input).0 e))) in
      long_enough key input aad long ∙ ap (λ b. if b then Ok at else Err DecryptFailed) differs

-- ---- the laws

pub accepts_exactly : DecryptsExactly
accepts_exactly = λ key input aad text is. (is_sealed key (long_half key is) input aad text, opens key (long_half key is) input aad text)

pub refuses_short : RefusesShort
refuses_short = λ key input aad.
    let at = text_behind key (take 16 input) (drop 16 input) in (
      λ e. ltb-true (length input) 16 (too_short (nat_lt (length input) 16) (bytes_eq (aes_siv key aad at) input) at e),
      λ short. ap (λ b. if b then Err TooShort else tried key aad input at) (lt-ltb (length input) 16 short),
    )

pub refuses_others : RefusesOthers
refuses_others = λ key input aad is. (fails key (long_half key is) input aad, λ both. none_fails key (long_half key is) input aad both.0 both.1)

pub has_one_text : HasOneText
has_one_text = λ key aad text other is same. siv_same (aes (mac_half key)) (aes (counter_half key)) aad text other (blocks key (long_half key is)) same

-- ---- the ciphers of the halves

module _ (n : ℕ) (mac counter : List ℕ) (mac_size : length mac ≡ n) (counter_size : length counter ≡ n) where
  at_half : length (mac ++ counter) / 2 ≡ n
  at_half = omega (arith, length-append mac counter, mac_size, counter_size)

  first_half : mac_half (mac ++ counter) ≡ mac
  first_half = ap (λ k. take k (mac ++ counter)) at_half ∙ take_at mac counter n mac_size

  second_half : counter_half (mac ++ counter) ≡ counter
  second_half = ap (λ k. drop k (mac ++ counter)) at_half ∙ drop_at mac counter n mac_size

  pub mac_cipher : encrypted n mac ≡ aes (mac_half (mac ++ counter))
  mac_cipher = encrypted-aes n mac mac_size ∙ ap aes (sym first_half)

  pub counter_cipher : encrypted n counter ≡ aes (counter_half (mac ++ counter))
  counter_cipher = encrypted-aes n counter counter_size ∙ ap aes (sym second_half)

  pub sealed_by_halves : (aad text : List ℕ) → siv (encrypted n mac) (encrypted n counter) aad text ≡ aes_siv (mac ++ counter) aad text
  sealed_by_halves aad text = ap (λ E. siv E (encrypted n counter) aad text) mac_cipher ∙ ap (λ E. siv (aes (mac_half (mac ++ counter))) E aad text) counter_cipher

  pub behind_by_halves : (v rest : List ℕ) → ctr (encrypted n counter) (plus_be w128) (siv_counter v) rest ≡ text_behind (mac ++ counter) v rest
  behind_by_halves v rest = ap (λ E. ctr E (plus_be w128) (siv_counter v) rest) counter_cipher

  pub v_by_halves : (aad text : List ℕ) → s2v (encrypted n mac) aad text ≡ s2v (aes (mac_half (mac ++ counter))) aad text
  v_by_halves aad text = ap (λ E. s2v E aad text) mac_cipher

  long_first : 16 ≤ n → 16 ≤ length (mac_half (mac ++ counter))
  long_first long = omega (arith, ap length first_half, mac_size, long)

pub fits_half : (ciphers : SivCiphers) → FitsCiphers ciphers → 16 ≤ length (mac_half (whole_key ciphers))
fits_half (Aes128 pair) fits = long_first 16 pair.mac pair.counter fits.0 fits.1 (omega arith)
fits_half (Aes256 pair) fits = long_first 32 pair.mac pair.counter fits.0 fits.1 (omega arith)
