use Rattle.std.proofs.Common.{◌≡◌, ℕ, ◌-◌, ◌/◌, ◌<◌, ◌∙◌, ap, length, arith, subst, sym}
use Rattle.std.specs.Prelude.{bit_xor}
use Rattle.cipher_stream.specs.Keystream.{applied}
use Rattle.cipher_stream.specs.ByteStream.{to_come, bytes_from, HasMoved, IsFewer}
use Rattle.cipher_stream.proofs.BlockBytes.{whole_place}
use Rattle.cipher_stream.proofs.Rests.{opened, applied_fresh, moved_blocks, leaves_blocks}
use Rattle.cipher_stream.proofs.wrapper.BufferedCore+T+array+B+u8.apply_blocks.Goals as goal

pub returns-clause-value : goal.returns-clause-value
returns-clause-value g c =
    let B = g.row.B in
    let k = g.T.StreamCipherCore.keystream in
    let some : 0 < B = omega (arith, g.met.T.StreamCipherCore.block_size) in
    opened (λ t r. c.apply_whole.new.bytes ≡ applied bit_xor (to_come (bytes_from B (k t) r)) c.args.bytes.now) c.self.inside.core (B - c.self.inside.used) c.args.self.now c.self.view_is c.requires.fresh
    (c.apply_whole.ensures.value ∙ applied_fresh B (k c.self.inside.core) c.args.bytes.now some)

pub returns-clause-moved : goal.returns-clause-moved
returns-clause-moved g c =
    let B = g.row.B in
    let k = g.T.StreamCipherCore.keystream in
    let some : 0 < B = omega (arith, g.met.T.StreamCipherCore.block_size) in
    let n : ℕ = length c.args.bytes.now in
    let none : B - c.self.inside.used ≡ 0 = ap (λ v. v.1) c.self.view_is ∙ c.requires.fresh in
    let moved = moved_blocks B (k c.self.inside.core) (k c.apply_whole.new.core) (n / B) some c.apply_whole.ensures.is_moved in
    opened (λ t r. HasMoved (bytes_from B (k t) r) n (bytes_from B (k c.apply_whole.new.core) (B - c.self.inside.used))) c.self.inside.core (B - c.self.inside.used) c.args.self.now c.self.view_is c.requires.fresh
    (subst (λ r. HasMoved (bytes_from B (k c.self.inside.core) 0) n (bytes_from B (k c.apply_whole.new.core) r)) (sym none)
    (subst (λ m. HasMoved (bytes_from B (k c.self.inside.core) 0) m (bytes_from B (k c.apply_whole.new.core) 0)) (whole_place B n c.requires.whole) moved))

pub returns-clause-leaves : goal.returns-clause-leaves
returns-clause-leaves g c =
    let B = g.row.B in
    let r = g.T.StreamCipherCore.remaining in
    let some : 0 < B = omega (arith, g.met.T.StreamCipherCore.block_size) in
    let n : ℕ = length c.args.bytes.now in
    let none : B - c.self.inside.used ≡ 0 = ap (λ v. v.1) c.self.view_is ∙ c.requires.fresh in
    let leaves = leaves_blocks B (r c.self.inside.core) (r c.apply_whole.new.core) (n / B) some c.apply_whole.ensures.spent in
    opened (λ t rest. IsFewer B (r t) rest n (r c.apply_whole.new.core) (B - c.self.inside.used)) c.self.inside.core (B - c.self.inside.used) c.args.self.now c.self.view_is c.requires.fresh
    (subst (λ rest. IsFewer B (r c.self.inside.core) 0 n (r c.apply_whole.new.core) rest) (sym none)
    (subst (λ m. IsFewer B (r c.self.inside.core) 0 m (r c.apply_whole.new.core) 0) (whole_place B n c.requires.whole) leaves))
