use Rattle.std.proofs.Common.{◌∙◌, length, take, get_or, bit_xor, arith}
use Rattle.std.proofs.lemmas.List.{get_or-take, length-take}
use Rattle.cipher_stream.proofs.Applied.{applied-same, xor_bytes-applied}
use Rattle.cipher_stream.proofs.xor.xor_into.Goals as goal

pub returns : goal.returns
returns c =
    let out = c.args.out.now in
    let ws = c.args.with.now in
    let n = length out in
    record {
      value =
          c.xor_in_place.ensures.value ∙ xor_bytes-applied out (take n ws) (omega (arith, c.requires, length-take n ws))
          ∙ applied-same bit_xor (λ j. get_or (take n ws) j 0) (λ j. get_or ws j 0) out (λ j h. get_or-take n ws j 0 h);
    }
