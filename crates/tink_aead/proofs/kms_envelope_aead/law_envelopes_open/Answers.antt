use Rattle.tink_aead.proofs.EnvelopeFacts.{envelope_undoes}
use Rattle.tink_aead.proofs.kms_envelope_aead.law_envelopes_open.Goals as goal

pub returns : goal.returns
returns g c = envelope_undoes g.P.Aead.encrypts g.P.Aead.decrypts
