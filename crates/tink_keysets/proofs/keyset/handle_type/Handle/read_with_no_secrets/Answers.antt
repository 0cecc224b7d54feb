use Rattle.tink_keysets.proofs.keyset.handle_type.Handle.read_with_no_secrets.Goals as goal

pub returns-in-Ok-clause-leaves : goal.returns-in-Ok-clause-leaves
returns-in-Ok-clause-leaves g c = c.in-Ok.ensures.leaves
