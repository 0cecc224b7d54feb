-- What is written into memory under a master key and read again.
use Rattle.std.proofs.Common.{◌≡◌, ◌⊎◌, inl, inr, ◌∙◌, ℕ, List, Some, Result, Ok, Err, refl, sym, ap, subst, arith, cond}
use Rattle.wire_format.specs.Message.{decoded}
use Rattle.tink_io.specs.Answering.{Answers, made_of, or_refused}
use Rattle.tink_io.specs.declared.error.Kind.{Kind}
use Rattle.tink_io.specs.declared.error.Kind.TheVariants.{BadKeyset, InvalidKeyset, MasterFailed, OutOfMemory, ReadFault, WriteFault}
use Rattle.tink_io.specs.declared.error.TinkError.{TinkError}
use Rattle.tink_proto.specs.Messages.{keyset}
use Rattle.tink_proto.specs.declared.messages.infos.EncryptedKeyset.{EncryptedKeyset}
use Rattle.tink_proto.specs.declared.messages.keys.Keyset.{Keyset}
use Rattle.keyset_model.specs.Validity.{FitsHandle}
use Rattle.tink_keyset_rules.specs.declared.memory.MemReaderWriter.{MemReaderWriter}
use Rattle.tink_keysets.specs.Encrypted.{by_master, chained, decrypted, handle_of_bytes, with_info, MasterUndoes}
use Rattle.tink_keyset_rules.specs.Ends.{held_or, IsReadRefusal, IsWriteRefusal}
use Rattle.tink_keysets.specs.Handles.{handle_of}
use Rattle.tink_keysets.specs.Through.{GivesBy, IsRefusedByWriter, IsTaken, IsUnmade, LeavesDraws}

-- where a value is given and no fault can be, there is no refusal but `OutOfMemory`
only_memory : {T : Type 0} (v : T) (kind : Kind) → IsReadRefusal (Some (Ok v)) kind 0 0 → kind ≡ OutOfMemory
only_memory v OutOfMemory h = refl
only_memory v ReadFault h = absurd (omega (arith, h))
only_memory v WriteFault h = absurd h
only_memory v kind h = absurd (cc)

-- what memory gives is answered by
reads_held : {S T : Type 0} (makes : S → Result T Kind) (result : Result T TinkError) (v : S) → GivesBy makes result (Some (Ok v)) 0 0 → Answers result (makes v)
reads_held makes (Ok made) v from = ap (chained makes) from.is_read ∙ from.made
reads_held makes (Err e) v (inl refused) = inl (only_memory v e.kind refused)
reads_held makes (Err e) v (inr from) = inr (ap (chained makes) from.is_read ∙ from.made)

abbrev Written : Result EncryptedKeyset Kind → MemReaderWriter → MemReaderWriter → Type 0
Written made old new = IsTaken (λ _ _. Some (Ok tt)) (λ before ks after. after ≡ record before { encrypted_keyset = Some ks }) made old new

-- what is read is what the master's encryption gives
pub read_written : (decrypts : List ℕ → List ℕ → Result (List ℕ) Kind) (associated_data : List ℕ) (made : Result EncryptedKeyset Kind) (old new : MemReaderWriter) (result : Result Keyset TinkError)
    → Written made old new → GivesBy (decrypted decrypts associated_data) result (Some (held_or new.encrypted_keyset)) 0 0 → Answers result (chained (decrypted decrypts associated_data) made)
read_written decrypts associated_data made old new result taken gives =
    let there : held_or new.encrypted_keyset ≡ Ok taken.message = ap (λ m. held_or m.encrypted_keyset) taken.written in
    let from = subst (λ told. GivesBy (decrypted decrypts associated_data) result (Some told) 0 0) there gives in
    subst (λ m. Answers result (chained (decrypted decrypts associated_data) m)) (sym taken.is_made) (reads_held (decrypted decrypts associated_data) result taken.message from)

-- bytes that spell a keyset that is held are those of a handle
pub spelled : (ks : Keyset) (bytes : List ℕ) → FitsHandle ks → decoded keyset.read bytes ≡ Some ks → handle_of_bytes bytes ≡ Ok ks
spelled ks bytes held again = ap (λ o. chained handle_of (or_refused BadKeyset o)) again ∙ ap (λ b. cond b (Ok ks) (Err InvalidKeyset)) held

-- under the same data
pub same_read : (encrypts : List ℕ → List ℕ → List ℕ → Result (List ℕ) Kind × List ℕ) (decrypts : List ℕ → List ℕ → Result (List ℕ) Kind) (ks : Keyset) (text written read draws : List ℕ) (r : Result (List ℕ) Kind)
    → (encrypts text written draws).0 ≡ r → handle_of_bytes text ≡ Ok ks → MasterUndoes encrypts decrypts → read ≡ written
    → chained (decrypted decrypts read) (made_of (with_info ks) (by_master r)) ≡ made_of (λ _. ks) (by_master r)
same_read encrypts decrypts ks text written read draws (Ok ciphertext) is again undoes same =
    ap (λ b. chained handle_of_bytes (by_master b)) (ap (decrypts ciphertext) same ∙ undoes text written draws ciphertext is) ∙ again
same_read encrypts decrypts ks text written read draws (Err kind) is again undoes same = refl

-- where the master refuses what it encrypted
pub other_read : (decrypts : List ℕ → List ℕ → Result (List ℕ) Kind) (ks : Keyset) (read : List ℕ) (r : Result (List ℕ) Kind) (ciphertext : List ℕ) (kind : Kind) → r ≡ Ok ciphertext → decrypts ciphertext read ≡ Err kind
    → chained (decrypted decrypts read) (made_of (with_info ks) (by_master r)) ≡ Err MasterFailed
other_read decrypts ks read r ciphertext kind is refused =
    ap (λ (b : Result (List ℕ) Kind). chained (decrypted decrypts read) (made_of (with_info ks) (by_master b))) is ∙ ap (λ (b : Result (List ℕ) Kind). chained handle_of_bytes (by_master b)) refused

-- memory takes what is made
taken_or_memory : (kind : Kind) → IsWriteRefusal (Some (Ok tt)) kind 0 0 → kind ≡ OutOfMemory
taken_or_memory OutOfMemory h = refl
taken_or_memory ReadFault h = absurd h
taken_or_memory WriteFault h = absurd (omega (arith, h))
taken_or_memory kind h = absurd (cc)

pub not_made : (made : Result EncryptedKeyset Kind) (kind : Kind) (old new : MemReaderWriter)
    → IsUnmade made kind old new ⊎ IsRefusedByWriter (λ _ _. Some (Ok tt)) (λ before _ _ after. after ≡ before) (λ _. 0) made kind old new → (kind ≡ OutOfMemory) ⊎ (made ≡ Err kind)
not_made made kind old new (inl unmade) = unmade.cause
not_made made kind old new (inr by) = inl (taken_or_memory kind by.cause)

-- a refusal of the master is that of reading too
pub not_made_same : {S T U : Type 0} (f : S → T) (g : S → U) (r : Result S Kind) (kind : Kind) → (kind ≡ OutOfMemory) ⊎ (made_of f r ≡ Err kind) → (kind ≡ OutOfMemory) ⊎ (made_of g r ≡ Err kind)
not_made_same f g (Ok v) kind (inl memory) = inl memory
not_made_same f g (Ok v) kind (inr is) = absurd (cc)
not_made_same f g (Err k) kind (inl memory) = inl memory
not_made_same f g (Err k) kind (inr is) = let same : k ≡ kind = cc in inr (ap Err same)

-- what is made is not refused
pub not_made_other : {S T : Type 0} (f : S → T) (r : Result S Kind) (v : S) (kind : Kind) → r ≡ Ok v → (kind ≡ OutOfMemory) ⊎ (made_of f (by_master r) ≡ Err kind) → kind ≡ OutOfMemory
not_made_other f (Ok w) v kind is (inl memory) = memory
not_made_other f (Ok w) v kind is (inr refused) = absurd (cc)
not_made_other f (Err k) v kind is h = absurd (cc)

-- reading draws nothing, whatever it answers
pub drawn_once : {S : Type 0} (result : Result S TinkError) (left before now : List ℕ) → now ≡ left → LeavesDraws result left before now
drawn_once (Ok v) left before now is = is
drawn_once (Err e) left before now is = inr is
