use Rattle.std.proofs.Common.{◌≡◌, ◌+◌, ◌-◌, ◌∙◌, refl, take, drop, length, arith, subst, length-take, length-drop}
use Rattle.standards.specs.Lists.{xor_bytes}
use Rattle.cipher_stream.specs.Keystream.{stream_of, IsMoved}
use Rattle.cipher_stream.proofs.Streams.{moved_none, moved_both, stream_moved}
use Rattle.cipher_stream.proofs.Applied.{applied_next, applied_all, length_so_far}
use Rattle.cipher_stream.proofs.cores.contexts.apply_in_place.Goals as goal

pub loop-at-init : goal.loop-at-init
loop-at-init g c = record { within = omega arith; kept = g.met.K.StreamCipherBackend.keeps_none c.args.backend.now; same_lanes = refl; is_moved = moved_none _; so_far = refl }

pub loop-at-preserved : goal.loop-at-preserved
loop-at-preserved g c =
    let k = g.K.StreamCipherBackend in
    let before = c.loop-at.invariant in
    let step = c.apply_some.ensures in
    let at = c.loop-at.at in
    let n = c.min-count.result in
    let old = k.keystream c.args.backend.now in
    let mid = k.keystream c.loop-at.backend in
    let new = k.keystream c.apply_some.new.backend in
    let j : at + n - at ≡ n = omega arith in
    let size : length c.loop-at.output ≡ length c.args.output.now = length_so_far xor_bytes (stream_of old) c.args.output.now c.loop-at.output at before.so_far in
    let ln : length (take (at + n - at) (drop at c.loop-at.output)) ≡ n = simp (length-take, length-drop) (omega arith) in
    record {
      within = omega arith;
      kept = g.met.K.StreamCipherBackend.keeps_both c.args.backend.now c.loop-at.backend c.apply_some.new.backend before.kept step.kept;
      same_lanes = step.same_lanes ∙ before.same_lanes;
      is_moved = moved_both old mid new at n before.is_moved (subst (λ m. IsMoved mid m new) ln step.is_moved);
      so_far = applied_next xor_bytes (stream_of old) (stream_of mid) c.args.output.now c.loop-at.output c.apply_some.new.output at n (at + n - at) j (omega arith) before.so_far
          (λ i _. stream_moved old mid at i before.is_moved) step.value;
    }

pub returns : goal.returns
returns g c =
    let k = g.K.StreamCipherBackend in
    let all : c.loop-at.at ≡ length c.args.output.now = omega arith in
    record {
      kept = c.loop-at.invariant.kept;
      value = applied_all xor_bytes (stream_of (k.keystream c.args.backend.now)) c.args.output.now c.loop-at.output c.loop-at.at (omega arith) c.loop-at.invariant.so_far;
      is_moved = subst (λ n. IsMoved (k.keystream c.args.backend.now) n (k.keystream c.loop-at.backend)) all c.loop-at.invariant.is_moved;
    }
