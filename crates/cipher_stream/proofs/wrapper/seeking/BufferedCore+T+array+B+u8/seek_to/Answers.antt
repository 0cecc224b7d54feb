use Rattle.std.proofs.Common.{ℕ, ◌+◌, ◌-◌, ◌*◌, ◌≤◌, ◌∙◌, ap, subst, arith, le_refl, lt_irrefl}
use Rattle.cipher_stream.specs.ByteStream.{bytes_from, IsSame}
use Rattle.cipher_stream.proofs.Rests.{rest_of_block, same_stream}
use Rattle.cipher_stream.proofs.SoughtPlaces.{placed_part, ahead_part, ahead_whole, next_part, next_whole, rest_part, rest_whole}
use Rattle.cipher_stream.proofs.wrapper.seeking.BufferedCore+T+array+B+u8.seek_to.Goals as goal

pub invariant_of-self : goal.invariant_of-self
invariant_of-self g c =
    let k = g.T.StreamCipherCore.keystream in
    (omega (arith, c.requires.part), rest_of_block g.row.B (k c.set_block_pos.new.self) (k c.write_keystream_block.new.self) c.write_keystream_block.new.block c.args.byte c.write_keystream_block.ensures.value c.write_keystream_block.ensures.is_moved)

pub returns-then-inside-clause-placed : goal.returns-then-inside-clause-placed
returns-then-inside-clause-placed g c =
    let k = g.T.StreamCipherCore.keystream in
    let n = g.T.Counter.StreamCipherCounter in
    let at : (k c.write_keystream_block.new.self).position ≤ n.most = subst (λ x. x ≤ n.most) c.get_block_pos.ensures.value c.with_range.ensures.within in
    placed_part g.row.B (k c.set_block_pos.new.self) (k c.write_keystream_block.new.self) (n.value c.args.block) c.args.byte n.most c.set_block_pos.ensures.placed.placed (g.met.T.StreamCipherSeekCore.wraps c.set_block_pos.new.self)
    c.write_keystream_block.ensures.is_moved at (c.requires.further c.if-inside.true) (omega (arith, c.requires.part))

pub returns-then-inside-clause-ahead : goal.returns-then-inside-clause-ahead
returns-then-inside-clause-ahead g c = λ j.
    let B = g.row.B in
    let k = g.T.StreamCipherCore.keystream in
    let at : ℕ = g.T.Counter.StreamCipherCounter.value c.args.block * B + c.args.byte + j in
    ahead_part B (k c.self.inside.core) (k c.set_block_pos.new.self) (k c.write_keystream_block.new.self) 0 (g.T.Counter.StreamCipherCounter.value c.args.block) c.args.byte (omega (arith, g.met.T.StreamCipherCore.block_size))
    c.set_block_pos.ensures.placed c.write_keystream_block.ensures.is_moved (omega (arith, c.requires.part)) j
    ∙ ap (λ v. (bytes_from B (k v.0) 0).byte_at at) c.self.view_is

pub returns-else-inside-clause-ahead : goal.returns-else-inside-clause-ahead
returns-else-inside-clause-ahead g c = λ j.
    let B = g.row.B in
    let k = g.T.StreamCipherCore.keystream in
    let at : ℕ = g.T.Counter.StreamCipherCounter.value c.args.block * B + c.args.byte + j in
    ahead_whole B (k c.self.inside.core) (k c.set_block_pos.new.self) 0 (B - B) (g.T.Counter.StreamCipherCounter.value c.args.block) c.args.byte (omega (arith, g.met.T.StreamCipherCore.block_size))
    c.set_block_pos.ensures.placed (omega arith) (omega arith) j
    ∙ ap (λ v. (bytes_from B (k v.0) 0).byte_at at) c.self.view_is

pub returns-then-inside-clause-left : goal.returns-then-inside-clause-left
returns-then-inside-clause-left g c =
    let k = g.T.StreamCipherCore.keystream in
    let n = g.T.Counter.StreamCipherCounter in
    let at : (k c.write_keystream_block.new.self).position ≤ n.most = subst (λ x. x ≤ n.most) c.get_block_pos.ensures.value c.with_range.ensures.within in
    g.met.T.StreamCipherSeekCore.remains c.write_keystream_block.new.self
    ∙ ap g.T.StreamCipherSeekCore.remaining_at (next_part g.row.B (k c.set_block_pos.new.self) (k c.write_keystream_block.new.self) (n.value c.args.block) c.args.byte n.most c.set_block_pos.ensures.placed.placed (g.met.T.StreamCipherSeekCore.wraps c.set_block_pos.new.self)
    c.write_keystream_block.ensures.is_moved at (c.requires.further c.if-inside.true) c.if-inside.true c.requires.part)

pub returns-then-inside-clause-rest : goal.returns-then-inside-clause-rest
returns-then-inside-clause-rest g c = rest_part g.row.B (g.T.Counter.StreamCipherCounter.value c.args.block) c.args.byte c.if-inside.true c.requires.part

pub returns-else-inside-clause-left : goal.returns-else-inside-clause-left
returns-else-inside-clause-left g c =
    let k = g.T.StreamCipherCore.keystream in
    g.met.T.StreamCipherSeekCore.remains c.set_block_pos.new.self
    ∙ ap g.T.StreamCipherSeekCore.remaining_at (next_whole g.row.B (k c.set_block_pos.new.self) (g.T.Counter.StreamCipherCounter.value c.args.block) c.args.byte (omega (arith, g.met.T.StreamCipherCore.block_size)) c.set_block_pos.ensures.placed.placed (omega arith))

pub returns-else-inside-clause-rest : goal.returns-else-inside-clause-rest
returns-else-inside-clause-rest g c = rest_whole g.row.B (g.T.Counter.StreamCipherCounter.value c.args.block) c.args.byte (g.row.B - g.row.B) (omega (arith, g.met.T.StreamCipherCore.block_size)) (omega arith) (omega arith)

pub returns-then-inside-clause-same : goal.returns-then-inside-clause-same
returns-then-inside-clause-same g c =
    let B = g.row.B in
    let k = g.T.StreamCipherCore.keystream in
    let placed = c.set_block_pos.ensures.placed in
    let moved = c.write_keystream_block.ensures.is_moved in
    subst (λ v. IsSame (bytes_from B (k v.0) v.1) (bytes_from B (k c.write_keystream_block.new.self) (B - c.args.byte))) c.self.view_is
    (same_stream B (k c.self.inside.core) (k c.write_keystream_block.new.self) _ (B - c.args.byte) (λ i. moved.same_blocks i ∙ placed.same_blocks i) (moved.same_period ∙ placed.same_period))

pub invariant_of-self-else-inside : goal.invariant_of-self-else-inside
invariant_of-self-else-inside g c = (le_refl _, λ h. absurd (lt_irrefl _ h))

pub returns-then-inside-clause-further : goal.returns-then-inside-clause-further
returns-then-inside-clause-further g c = c.requires.further
