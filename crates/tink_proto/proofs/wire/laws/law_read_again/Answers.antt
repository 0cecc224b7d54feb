use Rattle.wire_format.proofs.ReadingLaws.{written_again}
use Rattle.tink_proto.proofs.wire.laws.law_read_again.Goals as goal

pub returns : goal.returns
returns g c = λ m fits. written_again g.M.Message.table m fits
