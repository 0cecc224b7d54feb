use Rattle.std.proofs.Common.{◌≡◌, ◌≤◌, ◌+◌, ◌-◌, ◌∙◌, ℕ, List, ap, take, length, vec_len, arith, length-drop}
use Rattle.std.proofs.lemmas.List.{length-take}
use Rattle.stream_model.specs.Cut.{room_at}
use Rattle.tink_streaming_io.specs.Openers.{held_bytes, reader_lacks}
use Rattle.tink_streaming_io.proofs.ChoosingSteps.{read_by, started, wanted_fits}
use Rattle.tink_streaming_keys.proofs.starting.start.Goals as goal

pub returns-in-Ok-Some-clause-started : goal.returns-in-Ok-Some-clause-started
returns-in-Ok-Some-clause-started g c =
    let begun = c.in-Ok-Some.field-0-0 in
    let o = begun.opener in
    let kept = c.choose.new.kept in
    let chosen = rw c.in-Ok-Some.field-0-is at c.in-Ok-Some.ensures.answer in
    let held : begun.front ≤ length (take kept.filled kept.buffer.items) = omega (arith, chosen.front, kept.filled_in, kept.buffer.ok.0, length-take kept.filled kept.buffer.items) in
    rw c.from_parts.ensures.opener (started _ _ begun.front o.first o.size o.overhead _ _ (take kept.filled kept.buffer.items) _ chosen.found chosen.rest held (c.from_parts.ensures.held ∙ c.carry.ensures.bytes))

pub returns-in-Err-clause-refused : goal.returns-in-Err-clause-refused
returns-in-Err-clause-refused g c = rw c.new.ensures c.in-Err.ensures.failed.rose

pub returns-in-Ok-None-clause-read : goal.returns-in-Ok-None-clause-read
returns-in-Ok-None-clause-read g c = (c.choose.ensures.read, tt)

pub returns-in-Ok-Some-clause-fresh : goal.returns-in-Ok-Some-clause-fresh
returns-in-Ok-Some-clause-fresh g c = (c.from_parts.ensures.progress, c.from_parts.ensures.segments, c.from_parts.ensures.opened, c.from_parts.ensures.room ∙ c.carry.ensures.len ∙ c.choose.ensures.room.len)

pub returns-in-Ok-Some-clause-refused : goal.returns-in-Ok-Some-clause-refused
returns-in-Ok-Some-clause-refused g c = tt

pub returns-in-Ok-Some-clause-read : goal.returns-in-Ok-Some-clause-read
returns-in-Ok-Some-clause-read g c =
    let begun = c.in-Ok-Some.field-0-0 in
    let o = begun.opener in
    let old = c.args.trial.kept in
    let kept = c.choose.new.kept in
    let room = c.choose.ensures.room in
    let made = c.from_parts.ensures in
    let r = c.from_parts.result in
    let chosen = rw c.in-Ok-Some.field-0-is at c.in-Ok-Some.ensures.answer in
    let all : List ℕ = take kept.filled kept.buffer.items in
    let held : length (held_bytes r) ≡ kept.filled - begun.front = ap length (made.held ∙ c.carry.ensures.bytes) ∙ length-drop begun.front all ∙ ap (λ n. n - begun.front) (omega (arith, kept.filled_in, kept.buffer.ok.0, length-take kept.filled kept.buffer.items)) in
    let lacks : reader_lacks r ≡ o.first + 1 - (kept.filled - begun.front) =
    ap (λ p. room_at p.first p.size r.segments + 1 - length (held_bytes r)) made.opener ∙ ap (λ n. room_at o.first o.size n + 1 - length (held_bytes r)) made.segments ∙ ap (λ n. o.first + 1 - n) held in
    let wanted = wanted_fits (vec_len old.buffer) old.filled kept.filled begun.front o.first room.more chosen.front (omega (arith, kept.filled_in, room.len)) (omega (arith, chosen.near, room.len)) in
    (c.choose.ensures.read, read_by g.S.Source.left _ old kept c.args.source.now c.choose.new.source chosen.rest room.more (omega (arith, wanted, lacks)))

pub returns-in-Ok-Some-clause-stays : goal.returns-in-Ok-Some-clause-stays
returns-in-Ok-Some-clause-stays g c = (c.choose.ensures.later, c.choose.ensures.same)

pub returns-in-Err-clause-fresh : goal.returns-in-Err-clause-fresh
returns-in-Err-clause-fresh g c = tt

pub returns-in-Err-clause-memory : goal.returns-in-Err-clause-memory
returns-in-Err-clause-memory g c = tt

pub returns-in-Err-clause-started : goal.returns-in-Err-clause-started
returns-in-Err-clause-started g c = tt

pub returns-in-Err-clause-read : goal.returns-in-Err-clause-read
returns-in-Err-clause-read g c = (c.choose.ensures.read, tt)

pub returns-in-Err-clause-stays : goal.returns-in-Err-clause-stays
returns-in-Err-clause-stays g c = (c.choose.ensures.later, c.choose.ensures.same)

pub returns-in-Ok-None-clause-fresh : goal.returns-in-Ok-None-clause-fresh
returns-in-Ok-None-clause-fresh g c = tt

pub returns-in-Ok-None-clause-memory : goal.returns-in-Ok-None-clause-memory
returns-in-Ok-None-clause-memory g c = tt

pub returns-in-Ok-None-clause-started : goal.returns-in-Ok-None-clause-started
returns-in-Ok-None-clause-started g c = tt

pub returns-in-Ok-None-clause-stays : goal.returns-in-Ok-None-clause-stays
returns-in-Ok-None-clause-stays g c = (c.choose.ensures.later, c.choose.ensures.same)

pub returns-in-Ok-Some-clause-further : goal.returns-in-Ok-Some-clause-further
returns-in-Ok-Some-clause-further g c = c.choose.ensures.further

pub returns-in-Err-clause-further : goal.returns-in-Err-clause-further
returns-in-Err-clause-further g c = c.choose.ensures.further

pub returns-in-Ok-None-clause-further : goal.returns-in-Ok-None-clause-further
returns-in-Ok-None-clause-further g c = c.choose.ensures.further
