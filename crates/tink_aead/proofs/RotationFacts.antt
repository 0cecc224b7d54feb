-- What an entry made is decrypted by each list that has the entry, and under its keyset after commands that spare its key.
use Rattle.std.proofs.Common.{◌≡◌, ◌∙◌, ◌<◌, ◌++◌, ℕ, List, Bool, Option, Some, None, Result, Ok, length, refl, ap, subst, arith}
use Rattle.std.proofs.lemmas.List.{length-append}
use Rattle.std.proofs.lemmas.List.Elements.{All-contains}
use Rattle.tink_io.specs.declared.error.Kind.{Kind}
use Rattle.tink_io.specs.declared.error.Kind.TheVariants.{DecryptFailed}
use Rattle.tink_primitives.specs.Sorts.{as_aead}
use Rattle.tink_primitives.specs.declared.primitive.Primitive.{Primitive}
use Rattle.tink_primitives.specs.declared.primitive.Primitive.TheVariants.{Aead}
use Rattle.tink_sets.specs.Entries.{entry_of_id}
use Rattle.tink_sets.specs.declared.entry.TypedEntry.{TypedEntry}
use Rattle.keyset_model.specs.Operations.{after_all}
use Rattle.keyset_model.proofs.EnabledLaw.{keeps_enabled}
use Rattle.tink_keysets.specs.Decrypting.{entry_decrypts}
use Rattle.tink_keysets.proofs.KeyEntries.{key_holds, made_ok, primary_key, primary_there}
use Rattle.tink_keysets.proofs.LastingFacts.{IsAcceptedBy, accepted_after, accepted_by_key, accepted_by_list}
use Rattle.tink_aead_subtle.specs.Laws.{Undoes}
use Rattle.tink_aead.specs.Rotation.{CiphertextsOutlive, EnabledKeysOpen, EncryptedOpens, IsSealedBy, IsSoundAead, OldCiphertextsOpen}
use Rattle.tink_aead.specs.Wrapped.{entry_encrypts, primary_encrypts}

longer : (front back whole : List ℕ) → front ++ back ≡ whole → 5 < length back → 5 < length whole
longer front back whole is long = subst (λ l. 5 < length l) is (rw (length-append front back) (omega (arith, long)))

module _ {P : Type 0} (encrypts : P → List ℕ → List ℕ → List ℕ → Result (List ℕ) Kind × List ℕ) (decrypts : P → List ℕ → List ℕ → Result (List ℕ) Kind) where
  accepted_sealed : (e : TypedEntry P) (text aad input : List ℕ) → IsSealedBy encrypts decrypts e text aad input → IsAcceptedBy (entry_decrypts decrypts aad) e text input
  accepted_sealed e text aad input by =
      let sealed = made_ok (λ s. e.prefix ++ s) (encrypts e.primitive text aad by.draws).0 input by.made in
      record { rest = sealed.0; is = sealed.2; accepted = by.undoes text aad by.draws sealed.0 sealed.1; long = by.long }

  pub old_ciphertexts_open : OldCiphertextsOpen encrypts decrypts
  old_ciphertexts_open = λ es e text aad input known there by alone.
      accepted_by_list (entry_decrypts decrypts aad) DecryptFailed es e text input known there (accepted_sealed e text aad input by) alone

  -- the primary entry is there where it encrypted
  by_primary : (o : Option (TypedEntry P)) (text aad draws input : List ℕ) → (primary_encrypts encrypts o text aad draws).0 ≡ Ok input → (e : TypedEntry P) × (o ≡ Some e) × ((entry_encrypts encrypts e text aad draws).0 ≡ Ok input)
  by_primary (Some e) text aad draws input made = (e, refl, made)
  by_primary None text aad draws input made = absurd (cc)

  module _ {R K D HD HE M F S St V : Type 0} (url : R → List ℕ) (supports : R → List ℕ → Bool) (builds : R → List ℕ → Result (Primitive K P D HD HE M F S St V) Kind) where
    pub enabled_keys_open : EnabledKeysOpen encrypts decrypts url supports builds
    enabled_keys_open = λ makes managers m commands k e es text aad input there spared is all by alone.
        accepted_by_key as_aead url supports builds managers (entry_decrypts decrypts aad) DecryptFailed (after_all makes m commands).keyset k e es text input is
        (keeps_enabled makes m commands k there spared) all (accepted_sealed e text aad input by) alone

    pub encrypted_opens : EncryptedOpens encrypts decrypts url supports builds
    encrypted_opens = λ makes managers m commands es later text aad draws input spared all undo made long after alone.
        let by = by_primary (entry_of_id m.keyset.primary_key_id es) text aad draws input made in
        let e = by.0 in
        let undoes = All-contains (λ x. Undoes (encrypts x.primitive) (decrypts x.primitive)) es e undo (primary_there as_aead url supports builds managers m.keyset es e by.1) in
        accepted_after as_aead url supports builds managers (entry_decrypts decrypts aad) DecryptFailed makes m commands es later e text input spared all by.1 after
        (accepted_sealed e text aad input (record { draws = draws; made = by.2; undoes = undoes; long = long })) alone

    is_aead : (q : Primitive K P D HD HE M F S St V) (p : P) → as_aead q ≡ Ok p → q ≡ Aead p
    is_aead (Aead x) p e = let same : x ≡ p = cc in ap Aead same
    is_aead _ p e = absurd (cc)

    pub ciphertexts_outlive : CiphertextsOutlive encrypts decrypts url supports builds
    ciphertexts_outlive = λ sound makes managers m commands es later text aad draws input spared all after made alone.
        let by = by_primary (entry_of_id m.keyset.primary_key_id es) text aad draws input made in
        let e = by.0 in
        let k = primary_key as_aead url supports builds managers m.keyset es e all by.1 in
        let is : IsSoundAead encrypts decrypts e.primitive = key_holds as_aead url supports builds managers (IsSoundAead encrypts decrypts) (λ r value q p built picked. sound r value p (built ∙ ap Ok (is_aead q p picked))) k.0 e k.2 in
        let sealed = made_ok (λ s. e.prefix ++ s) (encrypts e.primitive text aad draws).0 input by.2 in
        let long = longer e.prefix sealed.0 input sealed.2 (is.long text aad draws sealed.0 sealed.1) in
        accepted_after as_aead url supports builds managers (entry_decrypts decrypts aad) DecryptFailed makes m commands es later e text input spared all by.1 after
        (accepted_sealed e text aad input (record { draws = draws; made = by.2; undoes = is.undoes; long = long })) alone
