use Rattle.std.proofs.Common.{◌≤◌, [], ◌++◌, length, refl, ap, ◌∙◌, arith, Some}
use Rattle.stream_model.specs.Cut.{room_at}
use Rattle.tink_streaming_io.specs.Sealers.{held_text, segment_map}
use Rattle.tink_streaming_io.proofs.FrontFacts.{size_most}
use Rattle.tink_streaming_io.proofs.WriterSteps.{room_some, text_length}
use Rattle.tink_large.proofs.SealedSteps.{cipher_longer, come_under, fills, moment_at, not_refused, step, wide_at}
use Rattle.tink_large.proofs.sealed_text.seal_piece.Goals as goal

pub unreachable-requires : goal.unreachable-requires
unreachable-requires c =
    let w = c.args.writer.now in
    let s = w.sealer in
    let p = c.args.pending.now in
    let q = c.write.new.sink in
    let long = cipher_longer s.encrypter s.prefix.items s.nonce_size s.overhead s.overhead_is in
    let some = room_some s.first s.room w.segments s.some s.first_fits in
    let most = size_most s.first s.room w.segments s.first_fits in
    let held : length (held_text w) ≤ room_at s.first s.room w.segments = omega (arith, w.held_fits, text_length w) in
    let f = fills (segment_map s) s.first s.room (moment_at w p) c.args.piece.now s.overhead long s.some s.first_fits some most held (omega (arith, c.requires.piece, s.first_fits)) in
    not_refused (segment_map s) s.first s.room (moment_at w p) (moment_at c.write.new.self q) c.args.piece.now q.bytes.items s.overhead p.room _ f c.requires.open (ap Some c.requires.takes.0) refl c.requires.few c.requires.takes.1
    (λ rose. omega (arith, q.full rose, c.write.ensures.same.0, q.bytes.ok.0)) c.in-Err.ensures.answer

pub returns-clause-left : goal.returns-clause-left
returns-clause-left c text =
    let w = c.args.writer.now in
    let s = w.sealer in
    let p = c.args.pending.now in
    let q = c.write.new.sink in
    let after = c.write.new.self in
    let held : length (held_text w) ≤ room_at s.first s.room w.segments = omega (arith, w.held_fits, text_length w) in
    let wide : 2 ≤ room_at s.first s.room w.segments = wide_at s.first s.room w.segments c.requires.wide s.first_fits in
    let d = step (segment_map s) s.first s.room (moment_at w p) (moment_at after q) c.args.piece.now text q.bytes.items c.requires.wide s.first_fits wide held (omega (arith, c.requires.piece, s.first_fits)) (ap Some c.requires.takes.0) refl c.in-Ok.ensures.answer.0 in
    ap (λ x. q.bytes.items ++ x) (come_under after s text c.write.ensures.sealer) ∙ d.left

pub returns-clause-few : goal.returns-clause-few
returns-clause-few c =
    let w = c.args.writer.now in
    let s = w.sealer in
    let p = c.args.pending.now in
    let q = c.write.new.sink in
    let after = c.write.new.self in
    let held : length (held_text w) ≤ room_at s.first s.room w.segments = omega (arith, w.held_fits, text_length w) in
    let wide : 2 ≤ room_at s.first s.room w.segments = wide_at s.first s.room w.segments c.requires.wide s.first_fits in
    let d = step (segment_map s) s.first s.room (moment_at w p) (moment_at after q) c.args.piece.now [] q.bytes.items c.requires.wide s.first_fits wide held (omega (arith, c.requires.piece, s.first_fits)) (ap Some c.requires.takes.0) refl c.in-Ok.ensures.answer.0 in
    omega (arith, d.few, text_length w, text_length after)
