use Rattle.std.proofs.Common.{◌≤◌, [], ◌++◌, length, refl, ap, ◌∙◌, arith, Some}
use Rattle.stream_model.specs.Cut.{room_at}
use Rattle.tink_streaming_io.specs.Sealers.{held_text, segment_map}
use Rattle.tink_streaming_io.proofs.FrontFacts.{size_most}
use Rattle.tink_streaming_io.proofs.WriterSteps.{text_length}
use Rattle.tink_large.proofs.SealedSteps.{cipher_longer, come_under, is_closed, last_not_refused, last_step, moment_at}
use Rattle.tink_large.proofs.sealed_text.seal_last.Goals as goal

pub unreachable-requires : goal.unreachable-requires
unreachable-requires c =
    let w = c.args.writer.now in
    let s = w.sealer in
    let p = c.args.pending.now in
    let q = c.close.new.sink in
    let long = cipher_longer s.encrypter s.prefix.items s.nonce_size s.overhead s.overhead_is in
    let most = size_most s.first s.room w.segments s.first_fits in
    let held : length (held_text w) ≤ s.room = omega (arith, w.held_fits, text_length w, most) in
    last_not_refused (segment_map s) s.room (moment_at w p) (moment_at c.close.new.self q) q.bytes.items s.overhead p.room _ long held c.requires.open (ap Some c.requires.takes.0) refl c.requires.takes.1
    (λ rose. omega (arith, q.full rose, c.close.ensures.same.0, q.bytes.ok.0)) c.in-Err.ensures.answer

pub returns-clause-left : goal.returns-clause-left
returns-clause-left c =
    let w = c.args.writer.now in
    let s = w.sealer in
    let q = c.close.new.sink in
    let after = c.close.new.self in
    let held : length (held_text w) ≤ room_at s.first s.room w.segments = omega (arith, w.held_fits, text_length w) in
    let closed = is_closed (segment_map s) (moment_at w c.args.pending.now) (moment_at after q) c.requires.open c.in-Ok.ensures.answer in
    ap (λ x. q.bytes.items ++ x) (come_under after s [] c.close.ensures.sealer)
    ∙ last_step (segment_map s) s.first s.room (moment_at w c.args.pending.now) (moment_at after q) q.bytes.items held (ap Some c.requires.takes.0) refl closed

pub returns-clause-closed : goal.returns-clause-closed
returns-clause-closed c = (is_closed (segment_map c.args.writer.now.sealer) (moment_at c.args.writer.now c.args.pending.now) (moment_at c.close.new.self c.close.new.sink) c.requires.open c.in-Ok.ensures.answer).is_closed
