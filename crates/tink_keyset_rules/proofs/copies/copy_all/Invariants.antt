use Rattle.std.proofs.Common.{◌≡◌, take}
use Rattle.tink_keyset_rules.proofs.copies.copy_all.Given as goal

abbrev pub invariant-loop-message : goal.invariant-loop-message
invariant-loop-message g l = l.copied.items ≡ take l.message-index l.messages
