use Rattle.std.proofs.Common.{◌≡◌, ◌∙◌, inl, Some, List, ℕ, Result, Ok, subst}
use Rattle.wire_format.specs.Message.{encoded}
use Rattle.tink_io.specs.Answering.{made_of}
use Rattle.tink_io.specs.declared.error.Kind.{Kind}
use Rattle.tink_proto.specs.Messages.{keyset}
use Rattle.tink_proto.specs.declared.messages.infos.KeysetInfo.{KeysetInfo}
use Rattle.tink_proto.specs.declared.messages.keys.Keyset.{Keyset}
use Rattle.keyset_model.specs.Secrets.{keyset_info}
use Rattle.tink_keysets.specs.Encrypted.{by_master, with_info}
use Rattle.tink_keysets.proofs.ThroughFacts.{refused_beside, without_memory}
use Rattle.tink_keysets.proofs.keyset.encrypted.encrypt.Goals as goal

beside : (made : Result (List ℕ) Kind) (ciphertext : List ℕ) (ks : Keyset) (info : KeysetInfo) → by_master made ≡ Ok ciphertext → info ≡ keyset_info ks
    → made_of (with_info ks) (by_master made) ≡ Ok (record { encrypted_keyset = ciphertext; keyset_info = Some info })
beside made ciphertext ks info is told = rw (is, told)

pub returns-in-Ok-encrypted_bytes-clause-replies : goal.returns-in-Ok-encrypted_bytes-clause-replies
returns-in-Ok-encrypted_bytes-clause-replies g c =
    let encrypts = λ (bytes : List ℕ). g.A.Aead.encrypts c.args.master.now bytes c.args.associated_data.now c.args.draws.now in
    let text : List ℕ = encoded keyset.write c.args.h.now in
    let drawn = subst (λ (bytes : List ℕ). (by_master (encrypts bytes).0 ≡ Ok c.in-Ok-encrypted_bytes.encrypted_keyset) × (c.encrypted_bytes.new.draws ≡ (encrypts bytes).1))
    (c.as_slice.ensures ∙ c.in-Ok-bytes_of.ensures.bytes) c.in-Ok-encrypted_bytes.ensures in
    (beside (encrypts text).0 c.in-Ok-encrypted_bytes.encrypted_keyset c.args.h.now c.in-Ok.keyset_info drawn.0 c.in-Ok.ensures.info, drawn.1)

pub returns-in-Err-encrypted_bytes-clause-replies : goal.returns-in-Err-encrypted_bytes-clause-replies
returns-in-Err-encrypted_bytes-clause-replies g c =
    let encrypts = λ (bytes : List ℕ). g.A.Aead.encrypts c.args.master.now bytes c.args.associated_data.now c.args.draws.now in
    refused_beside (with_info c.args.h.now) encrypts c.in-Err-encrypted_bytes.e.kind c.args.draws.now c.encrypted_bytes.new.draws _ _
    (c.as_slice.ensures ∙ c.in-Ok-bytes_of.ensures.bytes) c.in-Err-encrypted_bytes.ensures

pub returns-in-Err-bytes_of-clause-replies : goal.returns-in-Err-bytes_of-clause-replies
returns-in-Err-bytes_of-clause-replies g c = inl (without_memory c.in-Err-bytes_of.e c.args.draws.now c.in-Err-bytes_of.ensures.err)

pub returns-in-Err-clause-replies : goal.returns-in-Err-clause-replies
returns-in-Err-clause-replies g c = inl (without_memory c.in-Err.e c.args.draws.now c.in-Err.ensures.err)
