use Rattle.tink_keyset_rules.proofs.MasterFacts.{refused_drawing}
use Rattle.tink_keyset_rules.proofs.masters.encrypted_bytes.Goals as goal

pub returns-in-Err : goal.returns-in-Err
returns-in-Err g c =
    refused_drawing (g.A.Aead.encrypts c.args.master.now c.args.bytes.now c.args.associated_data.now c.args.draws.now) c.in-Err.e c.refused_by_master.result.kind
    c.args.draws.now c.encrypt.new.draws (g.met.A.Aead.encrypts_told c.args.master.now c.args.bytes.now c.args.associated_data.now c.args.draws.now)
    c.refused_by_master.ensures c.in-Err.ensures.replies
