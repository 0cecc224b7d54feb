use Rattle.std.proofs.Common.{◌≡◌, length}
use Rattle.wire_format.specs.Columns.{read_into}
use Rattle.tink_proto.proofs.wire.read_fields.Given as goal

abbrev pub invariant-loop-rest : goal.invariant-loop-rest
invariant-loop-rest g l = read_into (g.M.Message.table).step l.message l.rest ≡ read_into (g.M.Message.table).step l.fn.message l.fn.bytes

abbrev pub decreases-loop-rest : goal.decreases-loop-rest
decreases-loop-rest g l = length l.rest
