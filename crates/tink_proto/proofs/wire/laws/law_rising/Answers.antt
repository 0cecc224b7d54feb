use Rattle.tink_proto.proofs.wire.laws.law_rising.Goals as goal

pub returns : goal.returns
returns g c = λ m. (g.M.Message.table).rising m
