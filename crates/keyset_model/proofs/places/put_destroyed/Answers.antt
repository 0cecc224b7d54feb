use Rattle.std.proofs.Common.{◌∙◌, sym, ap, set}
use Rattle.keyset_model.specs.Edits.{as_destroyed}
use Rattle.keyset_model.proofs.places.put_destroyed.Goals as goal

pub returns : goal.returns
returns c = ap (λ x. set c.args.keys.now.items c.args.i (as_destroyed x)) c.index_mut-key.ensures.value ∙ sym (c.requires.changed as_destroyed c.index_mut-key.result.now)
