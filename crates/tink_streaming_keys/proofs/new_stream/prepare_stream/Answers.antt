use Rattle.std.proofs.Common.{◌≡◌, ◌-◌, ap, refl, sym, ◌∙◌, arith}
use Rattle.std.proofs.lemmas.Result.{err_from_is_err_and}
use Rattle.tink_streaming_io.specs.Sealers.{held_text}
use Rattle.tink_streaming_keys.proofs.NewWriterSteps.{drew_header, hash_refused, prepared}
use Rattle.tink_streaming_keys.proofs.new_stream.prepare_stream.Goals as goal

pub returns-in_err-cipher-clause-answer : goal.returns-in_err-cipher-clause-answer
returns-in_err-cipher-clause-answer g c =
    let p = err_from_is_err_and c.from_residual-in_err-cipher.result c.from_residual-in_err-cipher.ensures.1 in
    let k = g.T.DerivesStreams.key_of c.args.key.now in
    let d = c.in_ok-header.ensures in
    let drew = drew_header k c.args.draws.now c.draw_header.new.draws d.random_fault.1 d.rest in
    rw (p.1, p.2) (hash_refused k _ _ _ drew c.in_err-cipher.ensures)

pub returns-clause-answer : goal.returns-clause-answer
returns-clause-answer g c =
    let k = g.T.DerivesStreams.key_of c.args.key.now in
    let d = c.in_ok-header.ensures in
    let n = c.header_length-size.result in
    let size = c.header_length-size.ensures.value in
    let drew = drew_header k c.args.draws.now c.draw_header.new.draws d.random_fault.1 d.rest in
    let salt : n - 7 - 1 ≡ k.derived = omega arith in
    let s = c.sealer_of-sealer.ensures in
    let made = c.from_parts.ensures in
    prepared k c.args.aad.now c.args.draws.now c.draw_header.new.draws c.in_ok-header.header n (n - 7 - 1) c.in_ok-cipher.cipher drew c.output_prefix.result.now c.output_prefix.ensures size (rw size d.ok) salt c.in_ok-cipher.ensures
    c.from_parts.result.sealer.encrypter c.from_parts.result.sealer.nonce_size c.from_parts.result.sealer.prefix.items c.from_parts.result.sealer.first c.from_parts.result.sealer.room c.from_parts.result.mode c.from_parts.result.segments (held_text c.from_parts.result)
    (ap (λ x. x.encrypter) made.sealer ∙ s.encrypter) (ap (λ x. x.nonce_size) made.sealer ∙ s.sizes.nonce_is) (ap (λ x. x.prefix.items) made.sealer ∙ s.prefix)
    (ap (λ x. x.first) made.sealer ∙ s.sizes.first_is) (ap (λ x. x.room) made.sealer ∙ s.sizes.later_is)
    made.mode made.segments made.held

pub returns-in_err-memory-clause-answer : goal.returns-in_err-memory-clause-answer
returns-in_err-memory-clause-answer g c = let p = err_from_is_err_and c.from_residual.result c.from_residual.ensures.1 in rw (p.1, p.2, c.in_err-memory.ensures.refused) refl

pub returns-in_err-memory-clause-memory : goal.returns-in_err-memory-clause-memory
returns-in_err-memory-clause-memory g c = let p = err_from_is_err_and c.from_residual.result c.from_residual.ensures.1 in rw p.1 tt

pub returns-in_err-header-clause-answer : goal.returns-in_err-header-clause-answer
returns-in_err-header-clause-answer g c =
    let p = err_from_is_err_and c.from_residual-in_err-header.result c.from_residual-in_err-header.ensures.1 in
    let d = c.in_err-header.ensures in
    rw (p.1, p.2, d.refused) (record { few = d.random_fault.0 refl; undrawn = d.err })

pub returns-in_err-header-clause-memory : goal.returns-in_err-header-clause-memory
returns-in_err-header-clause-memory g c = let p = err_from_is_err_and c.from_residual-in_err-header.result c.from_residual-in_err-header.ensures.1 in rw p.1 tt

pub returns-in_err-cipher-clause-memory : goal.returns-in_err-cipher-clause-memory
returns-in_err-cipher-clause-memory g c = let p = err_from_is_err_and c.from_residual-in_err-cipher.result c.from_residual-in_err-cipher.ensures.1 in rw p.1 tt

pub from_parts-requires-clause-nonce_room : goal.from_parts-requires-clause-nonce_room
from_parts-requires-clause-nonce_room g c = c.in_ok-memory.ensures.nonce.0 ∙ sym c.sealer_of-sealer.ensures.sizes.nonce_is

pub returns-clause-memory : goal.returns-clause-memory
returns-clause-memory g c = omega (arith, c.from_parts.ensures.memory, c.sealer_of-sealer.ensures.capacity, c.in_ok-memory.ensures.segment.1, c.in_ok-memory.ensures.nonce.1, c.in_ok-memory.ensures.prefix)
