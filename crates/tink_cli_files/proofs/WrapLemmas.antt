-- From the calls of a master to what is told.
use Rattle.std.proofs.Common.{◌≡◌, ◌⊎◌, inl, inr, ℕ, List, [], Bool, Result, Ok, Err, refl, sym, ap, subst}
use Rattle.std.specs.Str.{bytes_eq}
use Rattle.wire_format.specs.Message.{encoded}
use Rattle.tink_io.specs.declared.error.Kind.{Kind}
use Rattle.tink_io.specs.declared.error.TinkError.{TinkError}
use Rattle.tink_io.specs.Answering.{made_of, Answers, IsShort}
use Rattle.tink_proto.specs.Messages.{keyset}
use Rattle.tink_proto.specs.declared.messages.infos.EncryptedKeyset.{EncryptedKeyset}
use Rattle.tink_proto.specs.declared.messages.keys.Keyset.{Keyset}
use Rattle.tink_registry.specs.Listed.{Registered}
use Rattle.tink_set_builder.specs.Built.{GivesSet}
use Rattle.tink_keysets.specs.Encrypted.{by_master, chained, decrypted, encrypted, handle_of_bytes, with_info}
use Rattle.tink_keysets.specs.Through.{LeavesDraws}
use Rattle.tink_aead.specs.AeadKinds.{kind_decrypts, kind_encrypts}
use Rattle.tink_aead.specs.Rotation.{aead_entries}
use Rattle.tink_keysets.specs.Decrypting.{any_decrypts}
use Rattle.tink_aead.specs.Wrapped.{IsAeadOf, primary_encrypts}
use Rattle.tink_aead.specs.declared.aead_kind.AeadKind.{AeadKind}
use Rattle.tink_aead.specs.declared.factory.WrappedAead.{WrappedAead}
use Rattle.tink_sets.specs.Groups.{group_of}
use Rattle.tink.specs.Managers.{row_of, Built}
use Rattle.tink.specs.Registered.{managers_alone, with_everything}
use Rattle.tink.specs.declared.managers.Managers.{Managers}
use Rattle.tink_cli_files.specs.Masters.{GivesMaster, IsMaster, MasterKeys, master_decrypts, master_in, master_keys, master_of, valid_in_file}
use Rattle.tink_cli_files.specs.Wrapping.{unspent, unspent_by, unspent_file, unwrapped_keys, wrapped_in, wrapped_keys, wraps}

-- ---- what loads

-- a refused file has no AEADs
pub file_refused : (file : List ℕ) (e : TinkError) → Answers {T = Keyset} (Err e) (valid_in_file file) → GivesMaster (Err e) (master_of file)
unfolding master_of
file_refused file e (inl want) = inl want
file_refused file e (inr is) = inr (ap (chained master_in) is)

-- a valid keyset has its own
pub file_master : (file : List ℕ) (ks : Keyset) (result : Result (WrappedAead AeadKind) TinkError) → valid_in_file file ≡ Ok ks → GivesMaster result (master_in ks) → GivesMaster result (master_of file)
unfolding master_of
file_master file ks result is gives = rw is gives

abbrev pub url : Managers → List ℕ
url m = (row_of m).url

abbrev pub supports : Managers → List ℕ → Bool
supports m wanted = bytes_eq (row_of m).url wanted

abbrev pub builds : Managers → List ℕ → Result Built Kind
builds m value = (row_of m).built value

-- what the managers of the registry give
pub built_master : (ks : Keyset) (r : Registered Managers) (result : Result (WrappedAead AeadKind) TinkError) → r ≡ managers_alone
    → GivesSet (λ es w. IsAeadOf kind_encrypts kind_decrypts ks.primary_key_id es w.ps.primary w.ps.entries) result (aead_entries url supports builds r.managers ks)
    → GivesMaster result (master_in ks)
built_master ks r result same gives =
    by_result result (subst (λ (x : Registered Managers). GivesSet (λ es w. IsAeadOf kind_encrypts kind_decrypts ks.primary_key_id es w.ps.primary w.ps.entries) result (aead_entries url supports builds x.managers ks)) same gives)
  where
    by_result : (result : Result (WrappedAead AeadKind) TinkError)
        → GivesSet (λ es w. IsAeadOf kind_encrypts kind_decrypts ks.primary_key_id es w.ps.primary w.ps.entries) result (aead_entries url supports builds with_everything.managers ks)
        → GivesMaster result (master_in ks)
    by_result (Ok w) g = (master_keys ks.primary_key_id g.0, ap (made_of (master_keys ks.primary_key_id)) g.1, g.2)
    by_result (Err e) (inl want) = inl want
    by_result (Err e) (inr is) = inr (ap (made_of (master_keys ks.primary_key_id)) is)

-- ---- what a set encrypts and decrypts

abbrev set_encrypts : WrappedAead AeadKind → List ℕ → List ℕ → List ℕ → Result (List ℕ) Kind × List ℕ
set_encrypts w text aad draws = primary_encrypts kind_encrypts w.ps.primary text aad draws

abbrev set_decrypts : WrappedAead AeadKind → List ℕ → List ℕ → Result (List ℕ) Kind
set_decrypts w input aad = any_decrypts kind_decrypts (group_of w.ps.entries) input aad

same_wrap : (m : MasterKeys) (w : WrappedAead AeadKind) (aad draws : List ℕ) (ks : Keyset) → IsMaster m w → (encrypted (set_encrypts w) aad draws ks).0 ≡ wraps m aad draws ks
same_wrap m w aad draws ks is = ap (λ r. made_of (with_info ks) (by_master r.0)) (is.encrypted (encoded keyset.write ks) aad draws)

same_unwrap : (m : MasterKeys) (w : WrappedAead AeadKind) (aad : List ℕ) (e : EncryptedKeyset) → IsMaster m w → decrypted (set_decrypts w) aad e ≡ decrypted (master_decrypts m) aad e
same_unwrap m w aad e is = ap (λ r. chained handle_of_bytes (by_master r)) (is.decrypted e.encrypted_keyset aad)

-- the draws that are left are the same
same_draws : (m : MasterKeys) (w : WrappedAead AeadKind) (aad draws : List ℕ) (ks : Keyset) → IsMaster m w → (encrypted (set_encrypts w) aad draws ks).1 ≡ unspent m aad draws ks
same_draws m w aad draws ks is = ap (λ (r : Result (List ℕ) Kind × List ℕ). r.1) (is.encrypted (encoded keyset.write ks) aad draws)

-- a refusal of the first step is one of both
pub first_refused : {A B : Type 0} (f : A → Result B Kind) (told : Result A Kind) (e : TinkError) → Answers {T = A} (Err e) told → Answers {T = B} (Err e) (chained f told)
first_refused f told e (inl want) = inl want
first_refused f told e (inr is) = inr (ap (chained f) is)

-- the keyset of a file, encrypted
pub file_wrapped : (m : MasterKeys) (w : WrappedAead AeadKind) (keys aad draws : List ℕ) (ks : Keyset) (result : Result EncryptedKeyset TinkError) → IsMaster m w
    → valid_in_file keys ≡ Ok ks → Answers result (encrypted (set_encrypts w) aad draws ks).0 → Answers result (wrapped_keys m keys aad draws)
file_wrapped m w keys aad draws ks result is there answers =
    subst (Answers result) (sym (ap (chained (wraps m aad draws)) there)) (subst (Answers result) (same_wrap m w aad draws ks is) answers)

-- whatever is answered, where the given draws are left
pub rest_told : {T : Type 0} (result : Result T TinkError) (left before now : List ℕ) → now ≡ left → LeavesDraws result left before now
rest_told (Ok v) left before now same = same
rest_told (Err e) left before now same = inr same

-- the draws that are left of a file whose keyset was encrypted
pub file_draws : (m : MasterKeys) (w : WrappedAead AeadKind) (keys aad draws now : List ℕ) (ks : Keyset) (result : Result EncryptedKeyset TinkError) → IsMaster m w
    → valid_in_file keys ≡ Ok ks → LeavesDraws result (encrypted (set_encrypts w) aad draws ks).1 draws now → LeavesDraws result (unspent_file m keys aad draws) draws now
file_draws m w keys aad draws now ks result is there leaves =
    subst (λ left. LeavesDraws result left draws now) (sym (ap (unspent_by m aad draws) there)) (subst (λ left. LeavesDraws result left draws now) (same_draws m w aad draws ks is) leaves)

-- none are drawn where it has none
pub undrawn : (m : MasterKeys) (keys aad draws : List ℕ) (e : TinkError) → Answers {T = Keyset} (Err e) (valid_in_file keys)
    → IsShort e.kind draws draws ⊎ (draws ≡ unspent_file m keys aad draws)
undrawn m keys aad draws e (inl want) = inl (record { kind = want; ends = ([], refl) })
undrawn m keys aad draws e (inr is) = inr (rw is refl)

-- the encrypted keyset of a file, decrypted
pub file_unwrapped : (m : MasterKeys) (w : WrappedAead AeadKind) (file aad : List ℕ) (e : EncryptedKeyset) (result : Result Keyset TinkError) → IsMaster m w
    → wrapped_in file ≡ Ok e → Answers result (decrypted (set_decrypts w) aad e) → Answers result (unwrapped_keys m file aad)
file_unwrapped m w file aad e result is there answers =
    subst (Answers result) (sym (ap (chained (decrypted (master_decrypts m) aad)) there)) (subst (Answers result) (same_unwrap m w aad e is) answers)
