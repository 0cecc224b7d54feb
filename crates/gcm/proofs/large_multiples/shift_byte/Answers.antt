use Rattle.std.proofs.Common.{◌*◌, ◌/◌, ◌%◌, ◌^◌, ◌∙◌, ap, bit_xor, get_or}
use Rattle.gcm.specs.declared.large_multiples.TheConstants.{REDUCED_BYTE}
use Rattle.gcm.proofs.EightBits.{shift_byte_is}
use Rattle.gcm.proofs.large_multiples.shift_byte.Goals as goal

pub returns : goal.returns
returns c =
    let z = c.args.z in
    ap (λ v. bit_xor (z / 256) (v * 2 ^ 112 % 2 ^ 128)) (c.from.ensures ∙ ap (λ k. get_or REDUCED_BYTE k 0) c.low_byte.ensures) ∙ shift_byte_is z
