use Rattle.std.proofs.Common.{◌≡◌, ◌++◌, ◌∷◌, [], refl, take, ◌+◌}
use Rattle.std.proofs.lemmas.List.{take_more}
use Rattle.wire_format.proofs.WritingLaws.{nothing_after, list_after, fit_more}
use Rattle.tink_proto.proofs.wire.writing.put_list.Goals as goal

pub loop-message-init : goal.loop-message-init
loop-message-init g c = record { bytes = nothing_after c.args.out.now.items; fits = refl }

pub loop-message-preserved : goal.loop-message-preserved
loop-message-preserved g c =
    let more : take (c.loop-message.message-index + 1) c.as_slice-messages.result.now ≡ take c.loop-message.message-index c.as_slice-messages.result.now ++ c.message-item.result ∷ [] = rw c.message-item.is (take_more c.as_slice-messages.result.now c.loop-message.message-index c.message-item.result c.loop-message-test.true) in
    record {
      bytes = list_after g.M.Message.table c.args.out.now.items _ _ c.args.number c.loop-message.message-index c.as_slice-messages.result.now c.message-item.result c.loop-message.invariant.bytes c.in_ok-put_nested.ensures.bytes more;
      fits = rw more (fit_more g.M.Message.table (take c.loop-message.message-index c.as_slice-messages.result.now) c.message-item.result c.loop-message.invariant.fits c.in_ok-put_nested.ensures.fits);
    }
