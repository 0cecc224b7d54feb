use Rattle.std.proofs.Common.{◌≡◌, None, vec_capacity}
use Rattle.stream_model.specs.Cut.{numbered}
use Rattle.stream_model.specs.Key.{StreamKey, nonce_size}
use Rattle.stream_model.specs.Opening.{HasFront, OpeningKey, header_of, opening_key}
use Rattle.tink_streaming_ciphers.specs.StreamSegments.{segment_by}
use Rattle.tink_streaming_keys.specs.Decrypters.{OpensBehind}
use Rattle.tink_range.proofs.TrialAtFacts.{either, same_memory}
use Rattle.tink_range.proofs.choosing_at.front_at.Goals as goal

pub returns-in-Ok-clause-held : goal.returns-in-Ok-clause-held
returns-in-Ok-clause-held g c = c.in-Ok.ensures.given

pub returns-in-Ok-clause-answer : goal.returns-in-Ok-clause-answer
returns-in-Ok-clause-answer g c =
    let key : StreamKey = g.T.DerivesStreams.key_of c.args.key.now in
    let k : OpeningKey = opening_key c.args.aad.now key in
    let held = c.fill_at.new.buf in
    either (λ o. OpensBehind k (nonce_size key) held (numbered (segment_by o.decrypter) o.nonce_size o.prefix.items) o.first o.size o.overhead o.nonce_size)
    (λ memory. HasFront k held → k.seg (header_of k held) ≡ None) c.opener_behind.result c.opener_behind.ensures.opens c.opener_behind.ensures.none

pub returns-in-Ok-clause-room : goal.returns-in-Ok-clause-room
returns-in-Ok-clause-room g c =
    same_memory (λ o. vec_capacity o.prefix) (λ memory. vec_capacity memory) (vec_capacity c.args.prefix) c.opener_behind.result c.requires.prefix c.opener_behind.ensures.prefix c.opener_behind.ensures.room

pub returns-in-Ok-clause-read : goal.returns-in-Ok-clause-read
returns-in-Ok-clause-read g c = let read = c.in-Ok.ensures.read in record { kept = read.kept; count = read.count; same = read.same }

pub returns-in-Err-clause-read : goal.returns-in-Err-clause-read
returns-in-Err-clause-read g c = let read = c.in-Err.ensures.read in record { kept = read.kept; count = read.count; same = read.same }

pub returns-in-Err-clause-held : goal.returns-in-Err-clause-held
returns-in-Err-clause-held g c = tt

pub returns-in-Err-clause-answer : goal.returns-in-Err-clause-answer
returns-in-Err-clause-answer g c = tt

pub returns-in-Err-clause-room : goal.returns-in-Err-clause-room
returns-in-Err-clause-room g c = tt

pub returns-in-Ok-clause-taken : goal.returns-in-Ok-clause-taken
returns-in-Ok-clause-taken g c = c.in-Ok.ensures.taken

pub returns-in-Err-clause-taken : goal.returns-in-Err-clause-taken
returns-in-Err-clause-taken g c = c.in-Err.ensures.taken
