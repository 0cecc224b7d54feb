use Rattle.std.proofs.Common.{ℕ, List, [], ◌∷◌, ◌++◌, take, Some, sym, subst}
use Rattle.stream_model.specs.Key.{StreamKey}
use Rattle.stream_model.specs.Opening.{opening_key}
use Rattle.tink_streaming_io.specs.Choosing.{Started, StartRefused}
use Rattle.tink_streaming_io.specs.Openers.{reader_rest, segment_map}
use Rattle.tink_large.specs.Opening.{AllRemains}
use Rattle.tink_large.specs.SealedText.{stream_left}
use Rattle.tink_large.proofs.StartSteps.{start_not_refused, started}
use Rattle.tink_large.proofs.opening.start_reading.Goals as goal

pub unreachable-requires : goal.unreachable-requires
unreachable-requires c =
    let S : List ℕ = stream_left c.args.source.now in
    let kept : List ℕ = c.args.trial.kept.buffer.items in
    start_not_refused c.args.source.now.n S c.in-Err.field-0.kind c.requires.stream c.requires.number
    (subst (λ (k : StreamKey). StartRefused (opening_key [] k ∷ []) (Some S) 0 0 c.in-Err.field-0.kind) c.requires.key
    (subst (λ (f : ℕ). StartRefused (opening_key [] c.args.key.now ∷ []) (Some (take f kept ++ S)) 0 0 c.in-Err.field-0.kind) c.requires.filled c.in-Err.ensures.refused))

pub returns-clause-remains : goal.returns-clause-remains
returns-clause-remains c =
    let S : List ℕ = stream_left c.args.source.now in
    let kept : List ℕ = c.args.trial.kept.buffer.items in
    let o = c.in-Ok.reader.opener in
    let rest = reader_rest (λ s. Some (stream_left s)) c.in-Ok.reader c.start.new.source in
    let begins = subst (λ (k : StreamKey). Started (opening_key [] k ∷ []) S rest (segment_map o) o.first o.size o.overhead) c.requires.key
    (subst (λ (f : ℕ). Started (opening_key [] c.args.key.now ∷ []) (take f kept ++ S) rest (segment_map o) o.first o.size o.overhead) c.requires.filled c.in-Ok.ensures.started)
    in
    subst (λ (n : ℕ). AllRemains (segment_map o) o.first o.size 0 rest 0 n) (sym c.start.ensures.stays.1.number)
    (started c.args.source.now.n S rest (segment_map o) o.first o.size o.overhead c.requires.stream c.requires.number begins).remains
