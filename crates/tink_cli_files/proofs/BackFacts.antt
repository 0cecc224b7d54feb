-- What a master wrapped is unwrapped again.
use Rattle.std.proofs.Common.{◌≡◌, ◌∙◌, inl, inr, ℕ, List, [], ◌∷◌, Result, Ok, Err, Some, refl, sym, ap, subst}
use Rattle.std.specs.Prelude.{IfOk}
use Rattle.std.specs.List.{All}
use Rattle.std.proofs.lemmas.List.Elements.{All-nil}
use Rattle.wire_format.specs.Message.{decoded, encoded}
use Rattle.wire_format.specs.Writing.{spelling, field, varint, varint_within}
use Rattle.tink_io.specs.declared.error.Kind.{Kind}
use Rattle.tink_io.specs.declared.error.Kind.TheVariants.{BadKeyset}
use Rattle.tink_io.specs.declared.error.TinkError.{TinkError}
use Rattle.tink_io.specs.Answering.{made_of, or_refused, Answers}
use Rattle.tink_proto.specs.Messages.{encrypted_keyset, keyset}
use Rattle.tink_proto.specs.declared.messages.infos.EncryptedKeyset.{EncryptedKeyset}
use Rattle.tink_proto.specs.declared.messages.infos.KeysetInfo.{KeysetInfo}
use Rattle.tink_proto.specs.declared.messages.keys.Keyset.{Keyset}
use Rattle.keyset_model.specs.Operations.{Operation, Maker, Managed, after_all}
use Rattle.keyset_model.specs.Secrets.{keyset_info}
use Rattle.keyset_model.specs.Spared.{Spares}
use Rattle.tink_keysets.specs.Encrypted.{by_master, chained, decrypted, handle_of_bytes, with_info}
use Rattle.tink_primitives.specs.declared.primitive.Primitive.TheVariants.{Aead}
use Rattle.tink_sets.specs.Entries.{entry_of_id}
use Rattle.tink_sets.specs.declared.entry.TypedEntry.{TypedEntry}
use Rattle.tink_keysets.specs.Accepting.{entries_of}
use Rattle.tink_aead.specs.AeadKinds.{kind_decrypts, kind_encrypts}
use Rattle.tink_keysets.specs.Decrypting.{any_decrypts, OpensToNoOther}
use Rattle.tink_aead.specs.Rotation.{aead_entries}
use Rattle.tink_aead.specs.Wrapped.{primary_encrypts}
use Rattle.tink_aead.specs.declared.aead_kind.AeadKind.{AeadKind}
use Rattle.tink_aead.specs.declared.factory.WrappedAead.{WrappedAead}
use Rattle.tink_aead.proofs.RotationFacts.{ciphertexts_outlive}
use Rattle.tink.specs.Registered.{with_everything}
use Rattle.tink.proofs.SoundFacts.{managers_sound}
use Rattle.tink_keyset_io.specs.Files.{filed, format_of}
use Rattle.tink_keyset_io.specs.declared.key_files.formats.Format.{Format}
use Rattle.tink_keyset_io.specs.declared.key_files.formats.Format.TheVariants.{Binary}
use Rattle.tink_cli_files.specs.Masters.{IsMaster, MasterKeys, master_decrypts, master_encrypts, master_in, master_keys, master_of, valid_in_file}
use Rattle.tink_cli_files.specs.ThereAndBack.{OpensWhatItWraps, WrappedOutlives, returned_file, returned_keys}
use Rattle.tink_cli_files.specs.Wrapping.{unwrapped_file, unwrapped_keys, wrapped_by, wrapped_file, wrapped_in, wrapped_keys, wrapped_text, wraps}
use Rattle.tink_cli_files.proofs.WrapLemmas.{builds, supports, url}

-- ---- of which value an answer is made

made_value : {A B : Type 0} (f : A → B) (r : Result A Kind) (b : B) → made_of f r ≡ Ok b → (a : A) × (r ≡ Ok a) × (f a ≡ b)
made_value f (Ok a) b is = (a, refl, cc)
made_value f (Err kind) b is = absurd (cc)

chained_value : {A B : Type 0} (f : A → Result B Kind) (r : Result A Kind) (b : B) → chained f r ≡ Ok b → (a : A) × (r ≡ Ok a) × (f a ≡ Ok b)
chained_value f (Ok a) b is = (a, refl, is)
chained_value f (Err kind) b is = absurd (cc)

by_master_value : {T : Type 0} (r : Result T Kind) (v : T) → by_master r ≡ Ok v → r ≡ Ok v
by_master_value (Ok w) v is = is
by_master_value (Err kind) v is = absurd (cc)

-- the ciphertext that a master made
made_ciphertext : (m : MasterKeys) (aad draws : List ℕ) (ks : Keyset) (e : EncryptedKeyset) → wraps m aad draws ks ≡ Ok e
    → (master_encrypts m (encoded keyset.write ks) aad draws).0 ≡ Ok e.encrypted_keyset
made_ciphertext m aad draws ks e is =
    let r : Result (List ℕ) Kind = (master_encrypts m (encoded keyset.write ks) aad draws).0 in
    let v = made_value (with_info ks) (by_master r) e is in
    by_master_value r v.0 v.1 ∙ ap (λ x. Ok x.encrypted_keyset) v.2

-- ---- under the master, or a later one

abbrev loaded_entries : Keyset → Result (List (TypedEntry AeadKind)) Kind
loaded_entries ks = aead_entries url supports builds with_everything.managers ks

opens_later : (makes : Maker) (managed : Managed) (commands : List Operation) (es later : List (TypedEntry AeadKind)) (text aad draws ciphertext : List ℕ)
    → All (Spares managed.keyset.primary_key_id) commands → loaded_entries managed.keyset ≡ Ok es → loaded_entries (after_all makes managed commands).keyset ≡ Ok later
    → All (OpensToNoOther kind_decrypts text aad ciphertext) later
    → (primary_encrypts kind_encrypts (entry_of_id managed.keyset.primary_key_id es) text aad draws).0 ≡ Ok ciphertext
    → any_decrypts kind_decrypts (entries_of later) ciphertext aad ≡ Ok text
opens_later makes managed commands es later text aad draws ciphertext spared loads after alone made =
    ciphertexts_outlive kind_encrypts kind_decrypts url supports builds (λ m value p is. managers_sound m value (Aead p) is) makes with_everything.managers managed commands es later text aad draws ciphertext spared loads after made alone

-- what is decrypted is the keyset
pub wrapped_outlives : WrappedOutlives
wrapped_outlives = λ makes managed commands m later aad draws ks e spared loads after again wrapped opens.
    let text : List ℕ = encoded keyset.write ks in
    let id : ℕ = managed.keyset.primary_key_id in
    let next : ℕ = (after_all makes managed commands).keyset.primary_key_id in
    let own = made_value (master_keys id) (loaded_entries managed.keyset) m loads in
    let new = made_value (master_keys next) (loaded_entries (after_all makes managed commands).keyset) later after in
    let made = subst (λ x. (master_encrypts x text aad draws).0 ≡ Ok e.encrypted_keyset) (sym own.2) (made_ciphertext m aad draws ks e wrapped) in
    let alone = subst (λ (x : MasterKeys). All (OpensToNoOther kind_decrypts text aad e.encrypted_keyset) x.entries) (sym new.2) opens in
    let opened = opens_later makes managed commands own.0 new.0 text aad draws e.encrypted_keyset spared own.1 new.1 alone made in
    let there = subst (λ x. master_decrypts x e.encrypted_keyset aad ≡ Ok text) new.2 opened in
    ap (λ r. chained handle_of_bytes (by_master r)) there ∙ again

-- ---- as files

-- the format of a keyset that was encrypted is seen
pub seen_as_binary : (ciphertext : List ℕ) (info : KeysetInfo) → format_of (encoded encrypted_keyset.write (record { encrypted_keyset = ciphertext; keyset_info = Some info })) ≡ Binary
unfolding spelling field varint varint_within
seen_as_binary [] info = refl
seen_as_binary (b ∷ bs) info = refl

-- a file in the wire format is read as what was encrypted
pub read_again : (m : MasterKeys) (keys aad draws file : List ℕ) (format : Format) (e : EncryptedKeyset) → wrapped_keys m keys aad draws ≡ Ok e → file ≡ wrapped_text format e
    → (format ≡ Binary → or_refused BadKeyset (decoded encrypted_keyset.read file) ≡ Ok e) → format ≡ Binary → wrapped_in file ≡ wrapped_keys m keys aad draws
read_again m keys aad draws file format e made is again binary =
    let ks = chained_value (wraps m aad draws) (valid_in_file keys) e made in
    let r : Result (List ℕ) Kind = (master_encrypts m (encoded keyset.write ks.0) aad draws).0 in
    let ciphertext = made_value (with_info ks.0) (by_master r) e ks.2 in
    let text : file ≡ encoded encrypted_keyset.write e = is ∙ ap (λ f. wrapped_text f e) binary in
    let seen : format_of file ≡ Binary =
    ap format_of text ∙ subst (λ x. format_of (encoded encrypted_keyset.write x) ≡ Binary) ciphertext.2 (seen_as_binary ciphertext.0 (keyset_info ks.0)) in
    ap (λ f. wrapped_by f file) seen ∙ again binary ∙ sym made

-- so is what a call answers
pub answered_again : (w : WrappedAead AeadKind) (keys aad draws : List ℕ) (format : Format) (e : EncryptedKeyset) (result : Result (List ℕ) TinkError)
    → ((m : MasterKeys) → IsMaster m w → wrapped_keys m keys aad draws ≡ Ok e) → IfOk result (λ b. b ≡ wrapped_text format e)
    → IfOk result (λ b. format ≡ Binary → or_refused BadKeyset (decoded encrypted_keyset.read b) ≡ Ok e)
    → IfOk result (λ file. (m : MasterKeys) → IsMaster m w → format ≡ Binary → wrapped_in file ≡ wrapped_keys m keys aad draws)
answered_again w keys aad draws format e (Ok file) made text again = λ m is binary. read_again m keys aad draws file format e (made m is) text again binary
answered_again w keys aad draws format e (Err refused) made text again = tt

-- what is wrapped is the bytes of a handle
pub held_bytes : (keys : List ℕ) (ks other : Keyset) → valid_in_file keys ≡ Ok ks → handle_of_bytes (encoded keyset.write ks) ≡ Ok ks → valid_in_file keys ≡ Ok other
    → handle_of_bytes (encoded keyset.write other) ≡ Ok other
held_bytes keys ks other there again also =
    let same : ks ≡ other = let both = sym there ∙ also in cc in
    subst (λ k. handle_of_bytes (encoded keyset.write k) ≡ Ok k) same again

-- ---- there and back

no_maker : Maker
no_maker = λ _ draws. (Err BadKeyset, draws)

-- the same keyset comes back
pub returned : (file : List ℕ) (m : MasterKeys) (keys aad draws text : List ℕ) (format : Format) (result : Result (List ℕ) TinkError)
    → master_of file ≡ Ok m → OpensWhatItWraps m keys aad draws → wrapped_file m keys aad Binary draws ≡ Ok text → wrapped_in text ≡ wrapped_keys m keys aad draws
    → ((ks : Keyset) → valid_in_file keys ≡ Ok ks → handle_of_bytes (encoded keyset.write ks) ≡ Ok ks)
    → Answers result (unwrapped_file m text aad format) → Answers result (returned_file m keys aad draws format)
unfolding master_of
returned file m keys aad draws text format result loads opens made read again answers =
    let e = made_value (wrapped_text Binary) (wrapped_keys m keys aad draws) text made in
    let ks = chained_value (wraps m aad draws) (valid_in_file keys) e.0 e.1 in
    let own = chained_value master_in (valid_in_file file) m loads in
    let managed : Managed = record { keyset = own.0; draws = draws } in
    let back : decrypted (master_decrypts m) aad e.0 ≡ Ok ks.0 =
    wrapped_outlives no_maker managed [] m m aad draws ks.0 e.0 (All-nil (Spares managed.keyset.primary_key_id)) own.2 own.2 (again ks.0 ks.1) ks.2 (opens ks.0 e.0 ks.1 ks.2) in
    let unwrapped : unwrapped_keys m text aad ≡ Ok ks.0 = ap (chained (decrypted (master_decrypts m) aad)) (read ∙ e.1) ∙ back in
    let want : returned_keys m keys aad draws ≡ Ok ks.0 = ap (chained (λ k. made_of (λ _. k) (wraps m aad draws k))) ks.1 ∙ ap (made_of (λ _. ks.0)) ks.2 in
    subst (Answers result) (ap (chained (filed format)) (unwrapped ∙ sym want)) answers

same_refusal : {A B C : Type 0} (f : A → B) (g : A → C) (r : Result A Kind) (kind : Kind) → made_of f r ≡ Err kind → made_of g r ≡ Err kind
same_refusal f g (Ok v) kind is = absurd (cc)
same_refusal f g (Err k) kind is = let same : k ≡ kind = cc in ap Err same

-- where a keyset is not wrapped, none comes back
pub not_returned : (m : MasterKeys) (keys aad draws : List ℕ) (format : Format) (e : TinkError) → Answers {T = List ℕ} (Err e) (wrapped_file m keys aad Binary draws)
    → Answers {T = List ℕ} (Err e) (returned_file m keys aad draws format)
not_returned m keys aad draws format e answers = elim answers [
  | inl want ↦ inl want
  | inr is ↦ inr (by_keyset (valid_in_file keys) (same_refusal (wrapped_text Binary) (λ x. x) (wrapped_keys m keys aad draws) e.kind is))
]
  where
    by_keyset : (r : Result Keyset Kind) → made_of (λ x. x) (chained (wraps m aad draws) r) ≡ Err e.kind
        → chained (filed format) (chained (λ ks. made_of (λ _. ks) (wraps m aad draws ks)) r) ≡ Err e.kind
    by_keyset (Ok ks) is = ap (chained (filed format)) (same_refusal (λ x. x) (λ _. ks) (wraps m aad draws ks) e.kind is)
    by_keyset (Err k) is = let same : k ≡ e.kind = cc in ap Err same
