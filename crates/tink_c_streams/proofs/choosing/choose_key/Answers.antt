use Rattle.std.proofs.Common.{refl}
use Rattle.std.proofs.lemmas.Result.{err_from_is_err_and}
use Rattle.tink_streaming_segment.specs.Keeping.{kept_bytes}
use Rattle.tink_streaming_segment.specs.Openers.{segment_map}
use Rattle.tink_streaming_io.specs.Openers.{held_bytes}
use Rattle.tink_c_streams.specs.Choices.{keys_of_choice}
use Rattle.tink_c_streams.proofs.ReaderFacts.{begun, none_behind, not_begun}
use Rattle.tink_c_streams.proofs.choosing.choose_key.Goals as goal

pub returns-in_err-reader : goal.returns-in_err-reader
returns-in_err-reader c =
    let p = err_from_is_err_and c.from_residual.result c.from_residual.ensures.1 in
    let refused = rw (c.deref.ensures.value, c.deref-2.ensures.value) at c.in_err-reader.ensures.refused in
    rw (p.1, p.2) (not_begun (keys_of_choice c.args.choice) (kept_bytes c.args.choice.trial.kept) c.new-nothing.result c.in_err-reader.field-0.0.kind c.new-nothing.ensures refused)

pub returns : goal.returns
returns c =
    let r = c.in_ok-reader.reader in
    let fresh = c.in_ok-reader.ensures.fresh in
    let started = rw (c.deref.ensures.value, c.deref-2.ensures.value) at c.in_ok-reader.ensures.started in
    let lost = c.start.ensures.read.0 in
    begun (keys_of_choice c.args.choice) (kept_bytes c.args.choice.trial.kept) c.new-nothing.result c.start.new.source (held_bytes r) (segment_map r.opener) r.opener.first r.opener.size r.opener.overhead _ c.new-nothing.ensures (none_behind c.new-nothing.result lost.0 c.start.new.source c.new-nothing.ensures lost.2) started refl fresh.0 fresh.1 fresh.2
