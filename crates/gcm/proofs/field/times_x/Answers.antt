use Rattle.std.proofs.Common.{◌/◌, ap, bit_xor}
use Rattle.standards.specs.Ghash.{times_x}
use Rattle.gcm.proofs.field.times_x.Goals as goal

pub returns : goal.returns
unfolding times_x
returns c = ap (bit_xor (c.args.v / 2)) c.if_odd.ensures
