use Rattle.std.proofs.Common.{◌≡◌, ◌+◌, length, max, map, take, All, ap, subst, arith, ◌<◌, ◌∙◌}
use Rattle.std.proofs.lemmas.List.{take_all}
use Rattle.tink_streaming_aead.proofs.KeyMost.{IsMost, all_within, next_most, none_most}
use Rattle.tink_streaming_aead.proofs.factory.room_of.Goals as goal

pub loop-key-preserved : goal.loop-key-preserved
loop-key-preserved g c =
    let i = c.loop-key.key-index in
    let keys = c.args.keys.now in
    let key : g.row.T.Denot = c.key-item.result in
    let k = g.T.DerivesStreams.key_of key in
    let own : length c.output_prefix.result.now + c.segment_size.result + 1 ≡ length k.out + k.segment + 1 = omega (arith, ap length c.output_prefix.ensures, c.segment_size.ensures.value) in
    let most = next_most g.T.DerivesStreams.key_of keys i key c.loop-key.room c.greater-room.result (omega arith) c.key-item.is c.loop-key.invariant.1 c.segment_size.ensures.usable
    (c.greater-room.ensures ∙ ap (max c.loop-key.room) own)
    in
    (all_within g.T.DerivesStreams.key_of (take (i + 1) keys) c.greater-room.result (omega (arith, most.value)), most)

pub loop-key-init : goal.loop-key-init
loop-key-init g c = (λ k d h. absurd (omega arith), none_most)

pub returns-clause-most : goal.returns-clause-most
returns-clause-most g c =
    subst (All (λ k. length (g.T.DerivesStreams.key_of k).out + (g.T.DerivesStreams.key_of k).segment < c.loop-key.room)) (take_all c.loop-key.key-index c.args.keys.now c.loop-key-test.false) c.loop-key.invariant.0

pub returns-clause-value : goal.returns-clause-value
returns-clause-value g c =
    let most : IsMost (map g.T.DerivesStreams.key_of c.args.keys.now) c.loop-key.room =
    subst (λ ks. IsMost (map g.T.DerivesStreams.key_of ks) c.loop-key.room) (take_all c.loop-key.key-index c.args.keys.now c.loop-key-test.false) c.loop-key.invariant.1
    in
    most.value
