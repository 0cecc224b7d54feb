-- AEADs whose output is a nonce, which is drawn, and what is sealed under it: the ciphertext and a tag of 16 bytes.
use Rattle.std.specs.Prelude.{ℕ, List, ◌++◌, ◌-◌, length, take, drop, nat_lt, nat_le, if◌then◌else◌, Result, Ok, Err}
use Rattle.std.specs.Str.{bytes_eq}
use Rattle.standards.specs.Gcm.{gcm_text}
use Rattle.standards.specs.GcmSiv.{gcm_siv_text}
use Rattle.gcm.specs.Answers.{MOST_DATA}
use Rattle.gcm.specs.declared.errors.GcmError.{GcmError}
use Rattle.gcm.specs.declared.errors.GcmError.TheVariants as gcm
use Rattle.tink_io.specs.declared.error.Kind.{Kind}
use Rattle.tink_io.specs.declared.error.Kind.TheVariants.{TextTooLong, DataTooLong, RandomFault, TooShort, DecryptFailed}

-- the text of what GCM sealed under a nonce: the ciphertext in counter mode again (SP 800-38D, 7.2)
abbrev pub gcm_text_of : (List ℕ → List ℕ) → List ℕ → List ℕ → List ℕ
gcm_text_of E nonce sealed = gcm_text E nonce (take (length sealed - 16) sealed)

-- and of what GCM-SIV sealed, under its tag (RFC 8452, 5)
abbrev pub gcm_siv_text_of : (List ℕ → List ℕ → List ℕ) → List ℕ → List ℕ → List ℕ → List ℕ
gcm_siv_text_of cipher key nonce sealed =
    let n = length sealed - 16 in
    gcm_siv_text cipher key nonce (drop n sealed) (take n sealed)

abbrev pub kind_of : GcmError → Kind
kind_of gcm.DataTooLong = DataTooLong
kind_of gcm.TextTooLong = TextTooLong
kind_of gcm.DecryptFailed = DecryptFailed

-- the limits of associated data and a text, by their lengths
abbrev pub limited : ℕ → ℕ → ℕ → Result (Unit {0}) Kind
limited most aad text = if nat_lt MOST_DATA aad then Err DataTooLong else (if nat_lt most text then Err TextTooLong else Ok tt)

-- what follows where nothing is refused
abbrev pub then_answer : {T : Type 0} → Result (Unit {0}) Kind → Result T Kind → Result T Kind
then_answer (Ok _) r = r
then_answer (Err k) r = Err k

-- and with draws, of which a refusal takes none
abbrev pub then_drawn : {T : Type 0} → Result (Unit {0}) Kind → List ℕ → Result T Kind × List ℕ → Result T Kind × List ℕ
then_drawn (Ok _) draws r = r
then_drawn (Err k) draws r = (Err k, draws)

-- a nonce of 12 draws and what is sealed under it
abbrev pub drawn_seal : (List ℕ → List ℕ → List ℕ → List ℕ) → List ℕ → List ℕ → List ℕ → Result (List ℕ) Kind × List ℕ
drawn_seal seals text aad draws =
    if nat_le 12 (length draws) then (Ok (take 12 draws ++ seals (take 12 draws) aad text), drop 12 draws) else (Err RandomFault, draws)

-- the encryption of a text: the limits come first
abbrev pub encryption : (List ℕ → List ℕ → List ℕ → List ℕ) → ℕ → List ℕ → List ℕ → List ℕ → Result (List ℕ) Kind × List ℕ
encryption seals most text aad draws = then_drawn (limited most (length aad) (length text)) draws (drawn_seal seals text aad draws)

-- the text, where sealing it gives what is opened
abbrev pub tried : (List ℕ → List ℕ) → List ℕ → List ℕ → Result (List ℕ) Kind
tried seals text sealed = if bytes_eq (seals text) sealed then Ok text else Err DecryptFailed

-- the decryption of a nonce and what is sealed under it
abbrev pub decryption : (List ℕ → List ℕ → List ℕ → List ℕ) → (List ℕ → List ℕ → List ℕ) → ℕ → List ℕ → List ℕ → Result (List ℕ) Kind
decryption seals opens most input aad =
    let nonce = take 12 input in let sealed = drop 12 input in
    if nat_lt (length input) 28 then Err TooShort
    else then_answer (limited most (length aad) (length input - 28)) (tried (seals nonce aad) (opens nonce sealed) sealed)
