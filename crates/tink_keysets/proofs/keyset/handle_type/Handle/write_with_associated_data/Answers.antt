use Rattle.std.proofs.Common.{inl}
use Rattle.tink_keysets.specs.Encrypted.{encrypted}
use Rattle.tink_keysets.proofs.ThroughFacts.{leaves_told, left_unmade, so_on_ok, to_write, unmade}
use Rattle.tink_keysets.proofs.keyset.handle_type.Handle.write_with_associated_data.Goals as goal

pub returns-in-Ok : goal.returns-in-Ok
returns-in-Ok g c =
    let writer = g.W.Writer in
    let told = encrypted (g.A.Aead.encrypts c.args.master.now) c.args.associated_data.now c.args.draws.now c.args.self.now in
    record {
      answer = to_write writer.answers_encrypted writer.writes_encrypted writer.refused_encrypted writer.faults c.write_encrypted.result told.0 c.in-Ok.encrypted
          c.args.writer.now c.write_encrypted.new.self c.in-Ok.ensures.replies.0 c.write_encrypted.ensures.answer c.write_encrypted.ensures.written c.write_encrypted.ensures.refused;
      rest = leaves_told c.write_encrypted.result told.1 c.args.draws.now c.encrypt.new.draws c.in-Ok.ensures.replies.1;
      count = c.write_encrypted.ensures.count;
      same = c.write_encrypted.ensures.same;
      again = so_on_ok c.write_encrypted.result _ c.in-Ok.ensures.again;
    }

pub returns-in-Err-clause-answer : goal.returns-in-Err-clause-answer
returns-in-Err-clause-answer g c =
    let told = encrypted (g.A.Aead.encrypts c.args.master.now) c.args.associated_data.now c.args.draws.now c.args.self.now in
    inl (unmade told.0 told.1 c.in-Err.e.kind c.args.draws.now c.encrypt.new.draws c.args.writer.now c.in-Err.ensures.replies)

pub returns-in-Err-clause-rest : goal.returns-in-Err-clause-rest
returns-in-Err-clause-rest g c =
    let told = encrypted (g.A.Aead.encrypts c.args.master.now) c.args.associated_data.now c.args.draws.now c.args.self.now in
    left_unmade told.0 told.1 c.in-Err.e.kind c.args.draws.now c.encrypt.new.draws c.in-Err.ensures.replies

pub returns-in-Err-clause-same : goal.returns-in-Err-clause-same
returns-in-Err-clause-same g c = g.met.W.Writer.same_refl _
