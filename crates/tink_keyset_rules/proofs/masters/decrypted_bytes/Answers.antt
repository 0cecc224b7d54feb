use Rattle.tink_keyset_rules.proofs.MasterFacts.{refused}
use Rattle.tink_keyset_rules.proofs.masters.decrypted_bytes.Goals as goal

pub returns-in-Err : goal.returns-in-Err
returns-in-Err g c =
    refused (g.A.Aead.decrypts c.args.master.now c.args.ciphertext.now c.args.associated_data.now) c.in-Err.e.kind c.refused_by_master.result.kind
    c.refused_by_master.ensures c.in-Err.ensures.answer
