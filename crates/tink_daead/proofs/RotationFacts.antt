-- What an entry encrypted is decrypted under each keyset that has its key enabled, and after commands that spare it.
use Rattle.std.proofs.Common.{◌≡◌, ◌∙◌, ◌<◌, ◌++◌, ℕ, List, Bool, true, false, Option, Some, None, Result, Ok, length, refl, ap, subst, arith}
use Rattle.std.specs.Prelude.{nat_eq}
use Rattle.std.proofs.lemmas.Bool.{and_parts, eqb-true}
use Rattle.std.proofs.lemmas.List.{length-append}
use Rattle.standards.specs.AesKeys.{aes}
use Rattle.standards.proofs.AesLengths.{length-aes}
use Rattle.standards.proofs.Lengths.{length-siv}
use Rattle.tink_io.specs.declared.error.Kind.{Kind}
use Rattle.tink_io.specs.declared.error.Kind.TheVariants.{DecryptFailed}
use Rattle.tink_proto_keys.specs.declared.daead.AesSivKey.{AesSivKey}
use Rattle.tink_proto.specs.declared.messages.keys.Key.{Key}
use Rattle.tink_primitives.specs.Sorts.{as_deterministic_aead}
use Rattle.tink_primitives.specs.declared.primitive.Primitive.{Primitive}
use Rattle.tink_primitives.specs.declared.primitive.Primitive.TheVariants.{DeterministicAead}
use Rattle.tink_key_manager.specs.Manager.{built_by, built_if}
use Rattle.tink_sets.specs.Entries.{entry_of_id}
use Rattle.tink_sets.specs.declared.entry.TypedEntry.{TypedEntry}
use Rattle.tink_keysets.specs.Decrypting.{entry_decrypts}
use Rattle.tink_keysets.specs.Typing.{key_entry}
use Rattle.tink_keysets.proofs.KeyEntries.{key_holds, made_ok, primary_key}
use Rattle.tink_keysets.proofs.LastingFacts.{IsAcceptedBy, accepted_after, accepted_by_key}
use Rattle.tink_daead.specs.AesSiv.{aes_siv, aes_siv_decrypts, aes_siv_encrypts, counter_half, is_siv_key_size, mac_half}
use Rattle.tink_daead.specs.AesSivLaws.{IsSivKey}
use Rattle.tink_daead.specs.KeyTypes.{is_accepted}
use Rattle.tink_daead.specs.Rotation.{BuildsSoundDaeads, IsSoundDaead, OldTextsOpen, TextsOutlive}
use Rattle.tink_daead.specs.Wrapped.{entry_encrypts, primary_encrypts}
use Rattle.tink_daead.proofs.SivFacts.{accepts_exactly, long_half}

-- ---- what an entry encrypted

longer : (front back whole : List ℕ) → front ++ back ≡ whole → 5 < length back → 5 < length whole
longer front back whole is long = subst (λ l. 5 < length l) is (rw (length-append front back) (omega (arith, long)))

module _ {P : Type 0} (encrypts : P → List ℕ → List ℕ → Result (List ℕ) Kind) (decrypts : P → List ℕ → List ℕ → Result (List ℕ) Kind) where
  accepted_text : (e : TypedEntry P) (text aad input : List ℕ) → IsSoundDaead encrypts decrypts e.primitive → entry_encrypts encrypts e text aad ≡ Ok input → IsAcceptedBy (entry_decrypts decrypts aad) e text input
  accepted_text e text aad input sound made =
      let sealed = made_ok (λ s. e.prefix ++ s) (encrypts e.primitive text aad) input made in
      record {
        rest = sealed.0;
        is = sealed.2;
        accepted = sound.undoes text aad sealed.0 sealed.1;
        long = longer e.prefix sealed.0 input sealed.2 (sound.long text aad sealed.0 sealed.1);
      }

  by_primary : (o : Option (TypedEntry P)) (text aad input : List ℕ) → primary_encrypts encrypts o text aad ≡ Ok input → (e : TypedEntry P) × (o ≡ Some e) × (entry_encrypts encrypts e text aad ≡ Ok input)
  by_primary (Some e) text aad input made = (e, refl, made)
  by_primary None text aad input made = absurd (cc)

  module _ {R K A HD HE M F S St V : Type 0} (url : R → List ℕ) (supports : R → List ℕ → Bool) (builds : R → List ℕ → Result (Primitive K A P HD HE M F S St V) Kind) where
    is_daead : (q : Primitive K A P HD HE M F S St V) (p : P) → as_deterministic_aead q ≡ Ok p → q ≡ DeterministicAead p
    is_daead (DeterministicAead x) p e = let same : x ≡ p = cc in ap DeterministicAead same
    is_daead _ p e = absurd (cc)

    sound_entry : BuildsSoundDaeads encrypts decrypts builds → (managers : List R) (k : Key) (e : TypedEntry P) → key_entry as_deterministic_aead url supports builds managers k ≡ Ok e → IsSoundDaead encrypts decrypts e.primitive
    sound_entry sound managers k e is = key_holds as_deterministic_aead url supports builds managers (IsSoundDaead encrypts decrypts) (λ r value q p built picked. sound r value p (built ∙ ap Ok (is_daead q p picked))) k e is

    pub old_texts_open : OldTextsOpen encrypts decrypts url supports builds
    old_texts_open = λ sound managers ks k e es text aad input is there all made alone.
        accepted_by_key as_deterministic_aead url supports builds managers (entry_decrypts decrypts aad) DecryptFailed ks k e es text input is there all
        (accepted_text e text aad input (sound_entry sound managers k e is) made) alone

    pub texts_outlive : TextsOutlive encrypts decrypts url supports builds
    texts_outlive = λ sound makes managers m commands es later text aad input spared all after made alone.
        let by = by_primary (entry_of_id m.keyset.primary_key_id es) text aad input made in
        let e = by.0 in
        let k = primary_key as_deterministic_aead url supports builds managers m.keyset es e all by.1 in
        accepted_after as_deterministic_aead url supports builds managers (entry_decrypts decrypts aad) DecryptFailed makes m commands es later e text input spared all by.1 after
        (accepted_text e text aad input (sound_entry sound managers k.0 e k.2) by.2) alone

-- ---- AES-SIV

long_enough : (key aad text : List ℕ) → IsSivKey key → 5 < length (aes_siv key aad text)
long_enough key aad text is =
    let half = long_half key is in
    let size = length-siv (aes (mac_half key)) (aes (counter_half key)) aad text (λ b. length-aes (mac_half key) b (omega (arith, half))) in
    omega (arith, size)

siv_sound : (key : List ℕ) → IsSivKey key → IsSoundDaead aes_siv_encrypts aes_siv_decrypts key
siv_sound key is = record {
  undoes = λ text aad sealed made. let same : sealed ≡ aes_siv key aad text = cc in (accepts_exactly key sealed aad text is).1 same;
  long = λ text aad sealed made. let same : aes_siv key aad text ≡ sealed = cc in subst (λ l. 5 < length l) same (long_enough key aad text is);
}

-- a key that builds has 64 bytes
whole_key : (n : ℕ) → nat_eq n 64 ≡ true → is_siv_key_size n ≡ true
whole_key n is = rw (eqb-true n 64 is) refl

passed : {T : Type 0} (b : Bool) (v w : T) → built_if b v ≡ Ok w → (b ≡ true) × (v ≡ w)
passed true v w e = (refl, cc)
passed false v w e = absurd (cc)

module _ {K A HD HE M F S St V : Type 0} where
  abbrev own : List ℕ → Primitive K A (List ℕ) HD HE M F S St V
  own p = DeterministicAead p

  pub siv_key_sound : (o : Option AesSivKey) (p : List ℕ) → built_by (λ k. built_if (is_accepted k.version k.key_value) (own k.key_value)) o ≡ Ok (own p) → IsSoundDaead aes_siv_encrypts aes_siv_decrypts p
  siv_key_sound None p e = absurd (cc)
  siv_key_sound (Some k) p e =
      let is = passed (is_accepted k.version k.key_value) (own k.key_value) (own p) e in
      let same : k.key_value ≡ p = cc is.1 in
      subst (IsSoundDaead aes_siv_encrypts aes_siv_decrypts) same
      (siv_sound k.key_value (whole_key (length k.key_value) (and_parts (nat_eq k.version 0) (nat_eq (length k.key_value) 64) is.0).1))
