use Rattle.std.proofs.Common.{◌<◌, length, arith}
use Rattle.keyset_model.proofs.FirstPlaces.{at_place}
use Rattle.keyset_model.proofs.places.place_of.Goals as goal

pub returns-then-key-id-clause-place : goal.returns-then-key-id-clause-place
returns-then-key-id-clause-place c =
    let h : c.loop-i.i < length c.args.keys.now = omega arith in
    at_place c.args.keys.now c.args.id c.loop-i.i c.index-keys-i.result h c.index-keys-i.is c.if-key-id.true c.loop-i.invariant
