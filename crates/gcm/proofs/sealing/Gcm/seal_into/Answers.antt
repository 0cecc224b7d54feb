use Rattle.gcm.proofs.sealing.Gcm.seal_into.Goals as goal

pub returns : goal.returns
returns g c = (c.in_ok-check_lengths.ensures, c.seal.ensures)
