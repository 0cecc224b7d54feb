use Rattle.std.proofs.Common.{◌≡◌, ℕ, ◌-◌, ◌<◌, ◌∙◌, length, arith}
use Rattle.std.specs.Prelude.{bit_xor}
use Rattle.cipher_stream.specs.Keystream.{applied}
use Rattle.cipher_stream.specs.ByteStream.{to_come, bytes_from, HasMoved, IsFewer}
use Rattle.cipher_stream.proofs.BlockBytes.{applied_first}
use Rattle.cipher_stream.proofs.Rests.{opened, applied_fresh, moved_last, leaves_last, rest_of_block}
use Rattle.cipher_stream.proofs.wrapper.BufferedCore+T+array+B+u8.apply_last.Goals as goal

pub invariant_of-self : goal.invariant_of-self
invariant_of-self g c =
    let k = g.T.StreamCipherCore.keystream in
    (omega arith, rest_of_block g.row.B (k c.self.inside.core) (k c.write_keystream_block.new.self) c.write_keystream_block.new.block (length c.args.bytes.now) c.write_keystream_block.ensures.value c.write_keystream_block.ensures.is_moved)

pub returns-clause-value : goal.returns-clause-value
returns-clause-value g c =
    let B = g.row.B in
    let k = g.T.StreamCipherCore.keystream in
    let some : 0 < B = omega (arith, g.met.T.StreamCipherCore.block_size) in
    opened (λ t r. c.xor_part.new.out ≡ applied bit_xor (to_come (bytes_from B (k t) r)) c.args.bytes.now) c.self.inside.core (B - c.self.inside.used) c.args.self.now c.self.view_is c.requires.fresh
    (c.xor_part.ensures.value ∙ (applied_first B (k c.self.inside.core) c.write_keystream_block.new.block c.args.bytes.now (omega arith) c.write_keystream_block.ensures.value ∙ applied_fresh B (k c.self.inside.core) c.args.bytes.now some))

pub returns-clause-moved : goal.returns-clause-moved
returns-clause-moved g c =
    let B = g.row.B in
    let k = g.T.StreamCipherCore.keystream in
    let some : 0 < B = omega (arith, g.met.T.StreamCipherCore.block_size) in
    let n : ℕ = length c.args.bytes.now in
    opened (λ t r. HasMoved (bytes_from B (k t) r) n (bytes_from B (k c.write_keystream_block.new.self) (B - n))) c.self.inside.core (B - c.self.inside.used) c.args.self.now c.self.view_is c.requires.fresh
    (moved_last B (k c.self.inside.core) (k c.write_keystream_block.new.self) n some c.write_keystream_block.ensures.is_moved (omega arith))

pub returns-clause-leaves : goal.returns-clause-leaves
returns-clause-leaves g c =
    let B = g.row.B in
    let r = g.T.StreamCipherCore.remaining in
    let some : 0 < B = omega (arith, g.met.T.StreamCipherCore.block_size) in
    let n : ℕ = length c.args.bytes.now in
    opened (λ t rest. IsFewer B (r t) rest n (r c.write_keystream_block.new.self) (B - n)) c.self.inside.core (B - c.self.inside.used) c.args.self.now c.self.view_is c.requires.fresh
    (leaves_last B (r c.self.inside.core) (r c.write_keystream_block.new.self) n some c.requires.some (omega arith) c.write_keystream_block.ensures.spent)
