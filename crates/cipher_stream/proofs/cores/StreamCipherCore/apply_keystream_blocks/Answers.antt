use Rattle.std.proofs.Common.{arith}
use Rattle.cipher.proofs.Parts.{pick-nil}
use Rattle.cipher_stream.proofs.Led.{fed_of, applied_each_value, applied_each_moved, applied_each_spent}
use Rattle.cipher_stream.proofs.cores.StreamCipherCore.apply_keystream_blocks.Goals as goal

pub returns-clause-value : goal.returns-clause-value
returns-clause-value g c = grind (arith, applied_each_value (fed_of c.process_with_backend.ensures.fed), pick-nil)

pub returns-clause-is_moved : goal.returns-clause-is_moved
returns-clause-is_moved g c = applied_each_moved (fed_of c.process_with_backend.ensures.fed)

pub returns-clause-spent : goal.returns-clause-spent
returns-clause-spent g c = applied_each_spent c.process_with_backend.ensures.fed
