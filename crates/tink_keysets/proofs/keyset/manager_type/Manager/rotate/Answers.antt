use Rattle.tink_keysets.proofs.keyset.manager_type.Manager.rotate.Goals as goal

pub returns : goal.returns
returns g c = record { replies = c.add.ensures.replies; keyset = c.add.ensures.keyset; err = c.add.ensures.err; fresh = c.add.ensures.fresh }
