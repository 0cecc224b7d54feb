use Rattle.cipher_stream.proofs.LawFacts.{seeking_into}
use Rattle.cipher_stream.proofs.laws.seeking_into.Goals as goal

pub returns : goal.returns
returns c = record { law = seeking_into }
