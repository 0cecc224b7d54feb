use Rattle.std.proofs.Common.{arith}
use Rattle.cipher_stream.proofs.Led.{fed_of, applied_one_value, applied_one_moved, applied_one_spent}
use Rattle.cipher_stream.proofs.cores.StreamCipherCore.apply_keystream_block_inout.Goals as goal

pub returns-clause-value : goal.returns-clause-value
returns-clause-value g c = grind (arith, applied_one_value (fed_of c.process_with_backend.ensures.fed))

pub returns-clause-is_moved : goal.returns-clause-is_moved
returns-clause-is_moved g c = applied_one_moved (fed_of c.process_with_backend.ensures.fed)

pub returns-clause-spent : goal.returns-clause-spent
returns-clause-spent g c = applied_one_spent c.process_with_backend.ensures.fed
