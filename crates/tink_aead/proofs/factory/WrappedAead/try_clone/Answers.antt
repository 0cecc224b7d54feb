use Rattle.tink_aead.proofs.SameAnswers.{same_answers}
use Rattle.tink_aead.proofs.factory.WrappedAead.try_clone.Goals as goal

pub returns-clause-entries : goal.returns-clause-entries
returns-clause-entries g c = c.in_ok-ps.ensures.entries

pub returns-clause-decrypts : goal.returns-clause-decrypts
returns-clause-decrypts g c = same_answers g.P.Aead.decrypts c.args.self.now.ps.entries c.in_ok-ps.ps.entries c.in_ok-ps.ensures.entries
