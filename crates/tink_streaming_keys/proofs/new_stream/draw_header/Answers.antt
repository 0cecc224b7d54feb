use Rattle.std.proofs.Common.{◌≡◌, ◌-◌, ℕ, List, ap, ◌∙◌, take, length, replicate, inl, inr, ◌≤◌, arith, ◌∷◌}
use Rattle.std.proofs.lemmas.List.{length-take-le}
use Rattle.stream_model.specs.Key.{header_length}
use Rattle.stream_model.specs.Sealing.{drawn}
use Rattle.tink_streaming_keys.proofs.HeaderFacts.{header_bytes}
use Rattle.tink_streaming_keys.proofs.new_stream.draw_header.Goals as goal

pub returns-clause-ok : goal.returns-clause-ok
returns-clause-ok g c =
    let k = g.T.DerivesStreams.key_of c.args.key.now in
    let n = c.header_length-size.result in
    let size : n ≡ header_length k = c.header_length-size.ensures.value in
    let few : n - 1 ≤ 39 = elim c.header_length-size.ensures.usable.derived [ inl a ↦ omega arith | inr a ↦ omega arith ] in
    let zeros : List ℕ = replicate 39 0 in
    let room : length (take (n - 1) zeros) ≡ n - 1 = length-take-le (n - 1) zeros few in
    let same : length c.take_into.new.out ≡ length (take (n - 1) zeros) = c.take_into.auto.out in
    let count : length (take (n - 1) zeros) ≡ drawn k = omega (arith, room, size) in
    let taken : c.take_into.new.out ≡ take (length (take (n - 1) zeros)) c.args.draws.now = c.in_ok-take_into.ensures.taken in
    let whole : c.take_into.new.out ≡ take (drawn k) c.args.draws.now = taken ∙ ap (λ m. take m c.args.draws.now) count in
    header_bytes (header_length k) n c.take_into.new.out _ (take (drawn k) c.args.draws.now) (omega (arith, same, room, size)) whole
    ∙ ap (λ b. b ∷ take (drawn k) c.args.draws.now) size
