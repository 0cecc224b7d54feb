use Rattle.std.proofs.Common.{◌≡◌, ℕ, ◌-◌, ◌*◌, ◌<◌, ◌≤◌, ◌∙◌, ap, subst, cond, Some, None}
use Rattle.std.proofs.lemmas.Bool.{le-leb}
use Rattle.std.proofs.Math.Dec.{leb}
use Rattle.std.specs.Prelude.{◌↔◌}
use Rattle.std.specs.Result.{IsOk, IfOk}
use Rattle.cipher_stream.specs.Keystream.{Keystream}
use Rattle.cipher_stream.specs.ByteStream.{AtMost, bytes_from, byte_place, position}
use Rattle.cipher_stream.proofs.Rests.{within_turn}
use Rattle.cipher_stream.proofs.wrapper.seeking.BufferedCoreArrayU8StreamCipherSeek.try_current_pos.Goals as goal

-- the position, of the number of the next block and the bytes used of the last one
place_is : {T : Type 0} (size used b : ℕ) (k : T → Keystream) (core : T) (v : T × ℕ) → used ≤ size → b ≡ (k core).position → (core, size - used) ≡ v
    → byte_place b used size ≡ position (bytes_from size (k v.0) v.1)
place_is size used b k core v h at view =
    let rest : ℕ = size - used in
    ap (λ t. cond t (cond (leb rest (b * size)) (Some (b * size - rest)) None) None) (le-leb used size h)
    ∙ (ap (λ n. cond (leb rest (n * size)) (Some (n * size - rest)) None) at ∙ ap (λ v. position (bytes_from size (k v.0) v.1)) view)

pub returns-clause-ok : goal.returns-clause-ok
returns-clause-ok g c =
    let n = g.T.Counter.StreamCipherCounter in
    let is = place_is g.row.B c.self.inside.used (n.value c.with_range-block.result) g.T.StreamCipherCore.keystream c.self.inside.core c.args.self.now c.self.invariant.0 (ap n.value c.with_range-block.ensures.same ∙ c.get_block_pos.ensures.value) c.self.view_is in
    subst (λ p. IsOk c.from_block_byte.result ↔ AtMost p g.N.SeekNum.most) is c.from_block_byte.ensures.ok

pub returns-clause-value : goal.returns-clause-value
returns-clause-value g c =
    let n = g.T.Counter.StreamCipherCounter in
    let is = place_is g.row.B c.self.inside.used (n.value c.with_range-block.result) g.T.StreamCipherCore.keystream c.self.inside.core c.args.self.now c.self.invariant.0 (ap n.value c.with_range-block.ensures.same ∙ c.get_block_pos.ensures.value) c.self.view_is in
    subst (λ p. IfOk c.from_block_byte.result (λ x. g.N.SeekNum.place x ≡ p)) is c.from_block_byte.ensures.value

pub returns-clause-within : goal.returns-clause-within
returns-clause-within g c =
    let B = g.row.B in
    let k = g.T.StreamCipherCore.keystream in
    let most = g.T.Counter.StreamCipherCounter.most in
    let core = c.self.inside.core in
    let at : (k core).position ≤ most = subst (λ x. x ≤ most) c.get_block_pos.ensures.value c.with_range-block.ensures.within in
    subst (λ v. (k v.0).position * B < (k v.0).period * B) c.self.view_is (within_turn (k core).position (k core).period most B at (g.met.T.StreamCipherSeekCore.wraps core) g.met.T.StreamCipherCore.block_size.0)
