use Rattle.std.proofs.Common.{◌+◌, ◌-◌, ◌≤◌, ◌++◌, ◌∙◌, ap, take, drop, length, arith, refl, subst, length-take}
use Rattle.std.specs.Prelude.{bit_xor}
use Rattle.cipher_stream.specs.Keystream.{applied}
use Rattle.cipher_stream.specs.ByteStream.{to_come, bytes_from, HasMoved}
use Rattle.cipher_stream.proofs.Rests.{applied_rest, moved_rest}
use Rattle.cipher_stream.proofs.wrapper.BufferedCore+T+array+B+u8.apply_rest.Goals as goal

pub returns-clause-value : goal.returns-clause-value
returns-clause-value g c =
    let B = g.row.B in
    let k = g.T.StreamCipherCore.keystream in
    let n = c.min-n.result in
    let bytes = c.args.bytes.now in
    let size : length (take n bytes) ≤ B - c.self.inside.used = simp length-take (omega arith) in
    ap (λ l. l ++ drop n bytes) (c.xor_from.ensures.value
    ∙ (applied_rest B (k c.self.inside.core) c.self.inside.buffer (take n bytes) c.self.inside.used (B - c.self.inside.used) c.self.invariant.1 c.self.invariant.0 refl size
    ∙ ap (λ v. applied bit_xor (to_come (bytes_from B (k v.0) v.1)) (take n bytes)) c.self.view_is))

pub returns-clause-moved : goal.returns-clause-moved
returns-clause-moved g c =
    let B = g.row.B in
    let k = g.T.StreamCipherCore.keystream in
    let n = c.min-n.result in
    let u = c.self.inside.used in
    subst (λ v. HasMoved (bytes_from B (k v.0) v.1) n (bytes_from B (k c.self.inside.core) (B - (u + n)))) c.self.view_is
    (moved_rest B (k c.self.inside.core) c.self.inside.buffer u (B - u) n (omega (arith, g.met.T.StreamCipherCore.block_size)) c.self.invariant.1 c.self.invariant.0 refl (omega arith))
