use Rattle.std.proofs.Common.{◌≡◌, ℕ, ◌+◌, ◌-◌, ◌≤◌, ◌∙◌, List, length, take, drop, ap, arith, subst, length-take, length-drop}
use Rattle.cipher.specs.Transcript.{Block}
use Rattle.cipher_stream.specs.Keystream.{IsMoved, next}
use Rattle.cipher_stream.proofs.Streams.{moved_both, write_next, write_last}
use Rattle.cipher_stream.proofs.cores.contexts.write_in_parts.Goals as goal

part_length : (xs : List Block) (a j w : ℕ) → j ≡ w → a + w ≤ length xs → length (take j (drop a xs)) ≡ w
part_length xs a j w e h = simp (length-take, length-drop) (omega arith)

rest_length : (xs old : List Block) (a : ℕ) → length xs ≡ length old → length (take (length xs - a) (drop a xs)) ≡ length old - a
rest_length xs old a e = simp (length-take, length-drop) (omega arith)

pub loop-at-preserved : goal.loop-at-preserved
loop-at-preserved g c =
    let k = g.K.StreamCipherBackend in
    let before = c.loop-at.invariant in
    let step = c.gen_par_ks_blocks.ensures in
    let w = c.width-width.result in
    let at = c.loop-at.at in
    let old = k.keystream c.args.backend.now in
    let mid = k.keystream c.loop-at.backend in
    let new = k.keystream c.gen_par_ks_blocks.new.self in
    let j : at + w - at ≡ w = omega arith in
    let ln : length (take (at + w - at) (drop at c.loop-at.blocks)) ≡ w = part_length c.loop-at.blocks at (at + w - at) w j (omega arith) in
    record {
      within = omega arith;
      kept = g.met.K.StreamCipherBackend.keeps_both c.args.backend.now c.loop-at.backend c.gen_par_ks_blocks.new.self before.kept step.kept;
      same_lanes = step.same_lanes ∙ before.same_lanes;
      is_moved = moved_both old mid new at w before.is_moved (subst (λ n. IsMoved mid n new) ln step.is_moved);
      so_far = write_next old mid c.args.blocks.now c.loop-at.blocks c.gen_par_ks_blocks.new.blocks at w (at + w - at) j (omega arith) before.so_far before.is_moved (step.value ∙ ap (λ n. next n mid) ln);
    }

pub returns-clause-value : goal.returns-clause-value
returns-clause-value g c =
    let k = g.K.StreamCipherBackend in
    let at = c.loop-at.at in
    let old = k.keystream c.args.backend.now in
    let mid = k.keystream c.loop-at.backend in
    let ln : length (take (length c.loop-at.blocks - at) (drop at c.loop-at.blocks)) ≡ length c.args.blocks.now - at = rest_length c.loop-at.blocks c.args.blocks.now at c.loop-at.auto.blocks in
    write_last old mid c.args.blocks.now c.loop-at.blocks c.gen_rest.new.blocks at _ c.loop-at.invariant.within c.loop-at.auto.blocks c.loop-at.invariant.so_far c.loop-at.invariant.is_moved ln c.gen_rest.ensures.value

pub returns-clause-is_moved : goal.returns-clause-is_moved
returns-clause-is_moved g c =
    let k = g.K.StreamCipherBackend in
    let at = c.loop-at.at in
    let old = k.keystream c.args.backend.now in
    let mid = k.keystream c.loop-at.backend in
    let new = k.keystream c.gen_rest.new.backend in
    let ln : length (take (length c.loop-at.blocks - at) (drop at c.loop-at.blocks)) ≡ length c.args.blocks.now - at = rest_length c.loop-at.blocks c.args.blocks.now at c.loop-at.auto.blocks in
    let all : at + length (take (length c.loop-at.blocks - at) (drop at c.loop-at.blocks)) ≡ length c.args.blocks.now = omega arith in
    subst (λ n. IsMoved old n new) all (moved_both old mid new at _ c.loop-at.invariant.is_moved c.gen_rest.ensures.is_moved)
