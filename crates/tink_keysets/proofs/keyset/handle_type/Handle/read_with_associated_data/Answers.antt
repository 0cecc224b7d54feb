use Rattle.tink_keysets.specs.Encrypted.{decrypted}
use Rattle.tink_keysets.proofs.ThroughFacts.{from_read}
use Rattle.tink_keysets.proofs.keyset.handle_type.Handle.read_with_associated_data.Goals as goal

pub returns-in-Ok-clause-answer : goal.returns-in-Ok-clause-answer
returns-in-Ok-clause-answer g c =
    from_read (decrypted (g.A.Aead.decrypts c.args.master.now) c.args.associated_data.now) c.decrypt.result (g.R.Reader.reads_encrypted c.args.reader.now)
    c.in-Ok.encrypted (g.R.Reader.faults c.args.reader.now) (g.R.Reader.faults c.read_encrypted.new.self) c.in-Ok.ensures.answer c.decrypt.ensures
