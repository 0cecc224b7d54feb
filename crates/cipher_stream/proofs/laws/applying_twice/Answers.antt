use Rattle.cipher_stream.proofs.LawFacts.{applying_twice}
use Rattle.cipher_stream.proofs.laws.applying_twice.Goals as goal

pub returns : goal.returns
returns c = record { law = applying_twice }
