use Rattle.std.proofs.Common.{◌*◌, ◌/◌, ◌%◌, ◌^◌, ◌∙◌, ap, bit_xor, get_or}
use Rattle.gcm.specs.declared.multiples.TheConstants.{REDUCED}
use Rattle.gcm.proofs.FourBits.{shift_is}
use Rattle.gcm.proofs.multiples.shift.Goals as goal

pub returns : goal.returns
returns c =
    let z = c.args.z in
    ap (λ v. bit_xor (z / 16) (v * 2 ^ 112 % 2 ^ 128)) (c.from.ensures ∙ ap (λ k. get_or REDUCED k 0) c.nibble.ensures) ∙ shift_is z
