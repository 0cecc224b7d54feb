use Rattle.tink_keysets.specs.Handles.{handle_of}
use Rattle.tink_keysets.proofs.ThroughFacts.{refused_chained, tells_chained}
use Rattle.tink_keysets.proofs.keyset.encrypted.handle_of_bytes.Goals as goal

pub returns-in-Ok : goal.returns-in-Ok
returns-in-Ok c = tells_chained handle_of c.from_keyset.result _ c.in-Ok.keyset c.in-Ok.ensures c.from_keyset.ensures

pub returns-in-Err : goal.returns-in-Err
returns-in-Err c = refused_chained handle_of _ c.in-Err.e.kind c.in-Err.ensures
