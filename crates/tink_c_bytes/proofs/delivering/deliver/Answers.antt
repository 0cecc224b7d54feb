use Rattle.tink_c_bytes.proofs.Handing.{delivers}
use Rattle.tink_c_bytes.proofs.delivering.deliver.Goals as goal

pub returns-clause-told : goal.returns-clause-told
returns-clause-told c = λ told is. delivers c.args.made _ told c.put_made.ensures is
