use Rattle.std.proofs.Common.{◌∙◌, sym, ap, set}
use Rattle.std.proofs.lemmas.Int.{to_z-of_z}
use Rattle.tink_proto.specs.declared.messages.keys.Key.{Key}
use Rattle.keyset_model.proofs.places.put_number.Goals as goal

pub returns : goal.returns
returns c =
    rw (to_z-of_z _ c.args.number c.ranges.number)
    (ap (λ (x : Key). set c.args.keys.now.items c.args.i (record x { status = c.args.number })) c.index_mut.ensures.value
    ∙ sym (c.requires.changed (λ k. record k { status = c.args.number }) c.index_mut.result.now))
