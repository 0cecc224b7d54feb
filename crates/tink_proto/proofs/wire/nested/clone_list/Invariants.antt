use Rattle.std.proofs.Common.{◌≡◌, take}
use Rattle.tink_proto.proofs.wire.nested.clone_list.Given as goal

abbrev pub invariant-loop-message : goal.invariant-loop-message
invariant-loop-message g l = l.out ≡ take l.message-index l.messages
