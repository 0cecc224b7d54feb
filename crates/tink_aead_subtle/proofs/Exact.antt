-- Which inputs an AEAD with a nonce accepts, from how it seals.
use Rattle.std.proofs.Common.{◌≡◌, ◌≤◌, ◌+◌, ◌-◌, ℕ, Bool, true, false, List, ◌++◌, length, take, drop, nat_le, ap, refl, sym, subst, ◌∙◌, arith, length-append, length-drop}
use Rattle.std.specs.Prelude.{Result, Ok, Err, if◌then◌else◌, nat_lt}
use Rattle.std.specs.Str.{bytes_eq}
use Rattle.std.proofs.lemmas.Bool.{false_from_ne_true, leb-true, ltb-false, le-ltb, le-leb}
use Rattle.std.proofs.lemmas.List.{drop_at, length-take-le, take-append-drop, take_at}
use Rattle.std.proofs.lemmas.Slice.Eq.{bytes_eq-Decides}
use Rattle.gcm.specs.Answers.{Fit, IsOpened, MOST_DATA}
use Rattle.gcm.specs.declared.errors.GcmError.{GcmError}
use Rattle.gcm.specs.declared.errors.GcmError.TheVariants as gcm
use Rattle.tink_io.specs.declared.error.Kind.{Kind}
use Rattle.tink_io.specs.declared.error.Kind.TheVariants.{TextTooLong, DataTooLong, RandomFault, TooShort, DecryptFailed}
use Rattle.tink_aead_subtle.specs.Laws.{AcceptsExactly, Encrypts, IsEncryption, Undoes}
use Rattle.tink_aead_subtle.specs.NonceAeads.{decryption, drawn_seal, encryption, kind_of, limited, then_answer, then_drawn, tried}

-- the first half of a choice
pub first_if : {A B : Type 0} (b : Bool) (x y : A × B) → (if b then x else y).0 ≡ (if b then x.0 else y.0)
first_if true x y = refl
first_if false x y = refl

-- a test that refuses did not hold
pub passes : {T : Type 0} (b : Bool) (k : Kind) (r : Result T Kind) (v : T) → (if b then Err k else r) ≡ Ok v → (b ≡ false) × (r ≡ Ok v)
passes true k r v e = absurd (cc)
passes false k r v e = (refl, e)

-- a test that has to hold did
pub passed : {T : Type 0} (b : Bool) (k : Kind) (r : Result T Kind) (v : T) → (if b then r else Err k) ≡ Ok v → (b ≡ true) × (r ≡ Ok v)
passed true k r v e = (refl, e)
passed false k r v e = absurd (cc)

-- what comes first refused nothing
pub answered : {T : Type 0} (r : Result (Unit {0}) Kind) (s : Result T Kind) (v : T) → then_answer r s ≡ Ok v → (r ≡ Ok tt) × (s ≡ Ok v)
answered (Ok _) s v e = (refl, e)
answered (Err k) s v e = absurd (cc)

-- lengths that are not refused are within the limits
limited_fit : (most aad text : ℕ) → limited most aad text ≡ Ok tt → Fit most aad text
limited_fit most aad text e =
    let first = passes (nat_lt MOST_DATA aad) DataTooLong (if nat_lt most text then Err TextTooLong else Ok tt) tt e in
    let second = passes (nat_lt most text) TextTooLong (Ok tt) tt first.1 in
    record { aad_fits = ltb-false MOST_DATA aad first.0; text_fits = ltb-false most text second.0 }

fit_limited : (most aad text : ℕ) → Fit most aad text → limited most aad text ≡ Ok tt
fit_limited most aad text fit =
    ap (λ (b : Bool). if b then Err DataTooLong else (if nat_lt most text then Err TextTooLong else Ok tt)) (le-ltb MOST_DATA aad fit.aad_fits)
    ∙ ap (λ (b : Bool). if b then Err TextTooLong else Ok tt) (le-ltb most text fit.text_fits)

-- a nonce that was drawn and what was sealed under it are the encryption
pub encryption_ok : (seals : List ℕ → List ℕ → List ℕ → List ℕ) (most : ℕ) (text aad draws nonce left out : List ℕ) → limited most (length aad) (length text) ≡ Ok tt → 12 ≤ length draws → nonce ≡ take 12 draws → left ≡ drop 12 draws
    → out ≡ nonce ++ seals nonce aad text → ((encryption seals most text aad draws).0 ≡ Ok out) × (left ≡ (encryption seals most text aad draws).1)
encryption_ok seals most text aad draws nonce left out fits enough nonce_is left_is out_is =
    let made : Result (List ℕ) Kind × List ℕ = (Ok (take 12 draws ++ seals (take 12 draws) aad text), drop 12 draws) in
    let e : encryption seals most text aad draws ≡ made =
    ap (λ (r : Result (Unit {0}) Kind). then_drawn r draws (drawn_seal seals text aad draws)) fits ∙ ap (λ (b : Bool). if b then made else (Err RandomFault, draws)) (le-leb 12 (length draws) enough) in
    (ap (λ p. p.0) e ∙ ap (λ (k : List ℕ). Ok (k ++ seals k aad text)) (sym nonce_is) ∙ ap Ok (sym out_is), left_is ∙ sym (ap (λ p. p.1) e))

-- what a nonce and what is sealed under it open to, where their lengths are within the limits
module _ (seals : List ℕ → List ℕ → List ℕ → List ℕ) (opens : List ℕ → List ℕ → List ℕ) (most : ℕ) (back : (nonce aad text : List ℕ) → opens nonce (seals nonce aad text) ≡ text)
    (input aad sealed : List ℕ) (enough : 28 ≤ length input) (fits : limited most (length aad) (length input - 28) ≡ Ok tt) (rest : sealed ≡ drop 12 input) where
  decryption_is : decryption seals opens most input aad ≡ tried (seals (take 12 input) aad) (opens (take 12 input) sealed) sealed
  decryption_is =
      let trial = λ (s : List ℕ). tried (seals (take 12 input) aad) (opens (take 12 input) s) s in
      ap (λ (b : Bool). if b then Err TooShort else then_answer (limited most (length aad) (length input - 28)) (trial (drop 12 input))) (le-ltb (length input) 28 enough)
      ∙ ap (λ (r : Result (Unit {0}) Kind). then_answer r (trial (drop 12 input))) fits
      ∙ ap trial (sym rest)

  -- the text of which it is the encryption
  pub decryption_ok : (text : List ℕ) → seals (take 12 input) aad text ≡ sealed → decryption seals opens most input aad ≡ Ok text
  decryption_ok text is =
      let nonce = take 12 input in
      let found : opens nonce sealed ≡ text = ap (opens nonce) (sym is) ∙ back nonce aad text in
      let same : bytes_eq (seals nonce aad text) sealed ≡ true = (bytes_eq-Decides (seals nonce aad text) sealed).1 is in
      decryption_is
      ∙ ap (λ (t : List ℕ). tried (seals nonce aad) t sealed) found
      ∙ ap (λ (b : Bool). if b then Ok text else Err DecryptFailed) same

  -- or a refusal, where it is that of no text
  pub decryption_err : (e : GcmError) (old new : List ℕ) → IsOpened (seals (take 12 input) aad) most aad sealed old new (Err e) → decryption seals opens most input aad ≡ Err (kind_of e)
  decryption_err gcm.DataTooLong old new h = let fit = limited_fit most (length aad) (length input - 28) fits in absurd (omega (arith, h.0, fit.aad_fits))
  decryption_err gcm.TextTooLong old new h =
      let fit = limited_fit most (length aad) (length input - 28) fits in
      absurd (omega (arith, h.1, fit.text_fits, ap length rest, length-drop 12 input, enough))
  decryption_err gcm.DecryptFailed old new h =
      let found = opens (take 12 input) sealed in
      let other : bytes_eq (seals (take 12 input) aad found) sealed ≡ false =
      false_from_ne_true (bytes_eq (seals (take 12 input) aad found) sealed) (λ e. h.1 found ((bytes_eq-Decides (seals (take 12 input) aad found) sealed).0 e)) in
      decryption_is ∙ ap (λ (b : Bool). if b then Ok found else Err DecryptFailed) other

module _ (seals : List ℕ → List ℕ → List ℕ → List ℕ) (opens : List ℕ → List ℕ → List ℕ) (most : ℕ)
    (long : (nonce aad text : List ℕ) → length (seals nonce aad text) ≡ length text + 16)
    (back : (nonce aad text : List ℕ) → opens nonce (seals nonce aad text) ≡ text) where
  -- what is accepted is an encryption of the text
  is_encryption : (input aad text : List ℕ) → decryption seals opens most input aad ≡ Ok text → IsEncryption seals most aad text input
  is_encryption input aad text e =
      let nonce = take 12 input in
      let sealed = drop 12 input in
      let found = opens nonce sealed in
      let lengths = limited most (length aad) (length input - 28) in
      let trial = tried (seals nonce aad) found sealed in
      let first = passes (nat_lt (length input) 28) TooShort (then_answer lengths trial) text e in
      let second = answered lengths trial text first.1 in
      let third = passed (bytes_eq (seals nonce aad found) sealed) DecryptFailed (Ok found) text second.1 in
      let enough : 28 ≤ length input = ltb-false (length input) 28 first.0 in
      let same : found ≡ text = cc third.1 in
      let is : seals nonce aad text ≡ sealed = ap (seals nonce aad) (sym same) ∙ (bytes_eq-Decides (seals nonce aad found) sealed).0 third.0 in
      let fit = limited_fit most (length aad) (length input - 28) second.0 in
      let size : length text ≡ length input - 28 = omega (arith, ap length is, long nonce aad text, length-drop 12 input) in
      record {
        nonce = nonce;
        size = length-take-le 12 input (omega (arith, enough));
        is = sym (take-append-drop 12 input) ∙ ap (λ s. nonce ++ s) (sym is);
        fits = record { aad_fits = fit.aad_fits; text_fits = subst (λ n. n ≤ most) (sym size) fit.text_fits };
      }

  -- an encryption of the text is accepted
  is_accepted : (input aad text : List ℕ) → IsEncryption seals most aad text input → decryption seals opens most input aad ≡ Ok text
  is_accepted input aad text h =
      let sealed = seals h.nonce aad text in
      let size : length input ≡ 28 + length text = ap length h.is ∙ length-append h.nonce sealed ∙ omega (arith, h.size, long h.nonce aad text) in
      let front : take 12 input ≡ h.nonce = ap (take 12) h.is ∙ take_at h.nonce sealed 12 h.size in
      let rest : drop 12 input ≡ sealed = ap (drop 12) h.is ∙ drop_at h.nonce sealed 12 h.size in
      let text_size : length input - 28 ≡ length text = omega (arith, size) in
      let fits : limited most (length aad) (length input - 28) ≡ Ok tt = ap (limited most (length aad)) text_size ∙ fit_limited most (length aad) (length text) h.fits in
      decryption_ok seals opens most back input aad sealed (omega (arith, size)) fits (sym rest) text (ap (λ (n : List ℕ). seals n aad text) front)

  pub accepts_exactly : AcceptsExactly seals most (decryption seals opens most)
  accepts_exactly = λ input aad text. (is_encryption input aad text, is_accepted input aad text)

-- what comes first refused nothing
then_drawn_is : {T : Type 0} (r : Result (Unit {0}) Kind) (draws : List ℕ) (s : Result T Kind × List ℕ) → (then_drawn r draws s).0 ≡ then_answer r s.0
then_drawn_is (Ok _) draws s = refl
then_drawn_is (Err k) draws s = refl

module _ (seals : List ℕ → List ℕ → List ℕ → List ℕ) (most : ℕ) where
  -- the answer alone
  answer_is : (text aad draws : List ℕ) → let made = take 12 draws ++ seals (take 12 draws) aad text in
      (encryption seals most text aad draws).0 ≡ then_answer (limited most (length aad) (length text)) (if nat_le 12 (length draws) then Ok made else Err RandomFault)
  answer_is text aad draws =
      let made = take 12 draws ++ seals (take 12 draws) aad text in
      then_drawn_is (limited most (length aad) (length text)) draws (drawn_seal seals text aad draws)
      ∙ ap (then_answer (limited most (length aad) (length text))) (first_if (nat_le 12 (length draws)) (Ok made, drop 12 draws) (Err RandomFault, draws))

  -- what is encrypted is an encryption
  encrypted_is : (text aad draws sealed : List ℕ) → (encryption seals most text aad draws).0 ≡ Ok sealed → IsEncryption seals most aad text sealed
  encrypted_is text aad draws sealed e =
      let made = take 12 draws ++ seals (take 12 draws) aad text in
      let first = answered (limited most (length aad) (length text)) (if nat_le 12 (length draws) then Ok made else Err RandomFault) sealed (sym (answer_is text aad draws) ∙ e) in
      let second = passed (nat_le 12 (length draws)) RandomFault (Ok made) sealed first.1 in
      let made_is : sealed ≡ made = cc second.1 in
      record {
        nonce = take 12 draws;
        size = length-take-le 12 draws (leb-true 12 (length draws) second.0);
        is = made_is;
        fits = limited_fit most (length aad) (length text) first.0;
      }

  -- and so is decrypted again, where exactly the encryptions are accepted
  pub undoes : (decrypts : List ℕ → List ℕ → Result (List ℕ) Kind) → AcceptsExactly seals most decrypts → Undoes (encryption seals most) decrypts
  undoes decrypts accepts = λ text aad draws sealed e. (accepts sealed aad text).1 (encrypted_is text aad draws sealed e)

  -- with twelve draws all that is within the limits is encrypted
  pub encrypts : Encrypts most (encryption seals most)
  encrypts = λ text aad draws fit enough.
      let made = take 12 draws ++ seals (take 12 draws) aad text in (
        made,
        answer_is text aad draws
            ∙ ap (λ (r : Result (Unit {0}) Kind). then_answer r (if nat_le 12 (length draws) then Ok made else Err RandomFault)) (fit_limited most (length aad) (length text) fit)
            ∙ ap (λ (b : Bool). if b then Ok made else Err RandomFault) (le-leb 12 (length draws) enough),
      )
