use Rattle.std.proofs.Common.{List, ℕ, inl, refl, subst}
use Rattle.wire_format.specs.Message.{encoded}
use Rattle.tink_io.specs.Answering.{Answers}
use Rattle.tink_proto.specs.Messages.{keyset}
use Rattle.tink_keysets.specs.Encrypted.{by_master, encrypted, with_info}
use Rattle.tink_keysets.proofs.ReadBack.{drawn_once, not_made, not_made_other, not_made_same, other_read, read_written, same_read}
use Rattle.tink_keysets.proofs.keyset.encrypted_laws.law_written_is_read.Goals as goal

pub returns-in-Ok-clause-same : goal.returns-in-Ok-clause-same
returns-in-Ok-clause-same g c = λ undoes same.
    let encrypts = g.A.Aead.encrypts c.args.master.now in
    let decrypts = g.A.Aead.decrypts c.args.master.now in
    let text : List ℕ = encoded keyset.write c.args.h.now in
    let read = read_written decrypts c.args.read.now (encrypted encrypts c.args.written.now c.args.draws.now c.args.h.now).0
    c.default-memory.result c.write_with_associated_data.new.writer c.read_with_associated_data.result
    c.in-Ok.ensures.answer c.read_with_associated_data.ensures.answer in
    subst (Answers c.read_with_associated_data.result)
    (same_read encrypts decrypts c.args.h.now text c.args.written.now c.args.read.now c.args.draws.now (encrypts text c.args.written.now c.args.draws.now).0 refl
    c.in-Ok.ensures.again undoes same)
    read

pub returns-in-Ok-clause-other : goal.returns-in-Ok-clause-other
returns-in-Ok-clause-other g c = λ ciphertext kind made refused.
    let encrypts = g.A.Aead.encrypts c.args.master.now in
    let decrypts = g.A.Aead.decrypts c.args.master.now in
    let text : List ℕ = encoded keyset.write c.args.h.now in
    let read = read_written decrypts c.args.read.now (encrypted encrypts c.args.written.now c.args.draws.now c.args.h.now).0
    c.default-memory.result c.write_with_associated_data.new.writer c.read_with_associated_data.result
    c.in-Ok.ensures.answer c.read_with_associated_data.ensures.answer in
    subst (Answers c.read_with_associated_data.result)
    (other_read decrypts c.args.h.now c.args.read.now (encrypts text c.args.written.now c.args.draws.now).0 ciphertext kind made refused) read

pub returns-clause-same : goal.returns-clause-same
returns-clause-same g c = λ undoes same.
    let made = (g.A.Aead.encrypts c.args.master.now (encoded keyset.write c.args.h.now) c.args.written.now c.args.draws.now).0 in
    not_made_same (with_info c.args.h.now) (λ _. c.args.h.now) (by_master made) _ (not_made (encrypted (g.A.Aead.encrypts c.args.master.now) c.args.written.now c.args.draws.now c.args.h.now).0 _ c.default-memory.result c.write_with_associated_data.new.writer
    c.in-Err.ensures.answer)

pub returns-clause-other : goal.returns-clause-other
returns-clause-other g c = λ ciphertext kind is refused.
    let made = (g.A.Aead.encrypts c.args.master.now (encoded keyset.write c.args.h.now) c.args.written.now c.args.draws.now).0 in
    inl (not_made_other (with_info c.args.h.now) made ciphertext _ is (not_made (encrypted (g.A.Aead.encrypts c.args.master.now) c.args.written.now c.args.draws.now c.args.h.now).0 _ c.default-memory.result c.write_with_associated_data.new.writer
    c.in-Err.ensures.answer))

pub returns-in-Ok-clause-rest : goal.returns-in-Ok-clause-rest
returns-in-Ok-clause-rest g c =
    drawn_once c.read_with_associated_data.result _ _ _ c.in-Ok.ensures.rest
