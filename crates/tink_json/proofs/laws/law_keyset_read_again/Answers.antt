use Rattle.tink_json.proofs.MessageLemmas.{keyset-again}
use Rattle.tink_json.proofs.laws.law_keyset_read_again.Goals as goal

pub returns : goal.returns
returns c = keyset-again
