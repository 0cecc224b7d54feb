use Rattle.tink_mac.proofs.factory.WrappedMac.try_clone.Goals as goal

pub returns-clause-entries : goal.returns-clause-entries
returns-clause-entries g c = c.in_ok-ps.ensures.entries
