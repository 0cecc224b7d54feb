use Rattle.tink_streaming_ciphers.proofs.gcm_segment.open.Goals as goal

pub returns-in-Err-clause-ok : goal.returns-in-Err-clause-ok
returns-in-Err-clause-ok g c = tt
