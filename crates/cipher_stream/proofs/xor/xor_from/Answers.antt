use Rattle.std.proofs.Common.{◌∙◌, ◌+◌, get_or, ap}
use Rattle.std.proofs.lemmas.List.{take_rest, get_or-drop}
use Rattle.std.specs.Prelude.{bit_xor}
use Rattle.cipher_stream.proofs.Applied.{applied-same}
use Rattle.cipher_stream.proofs.xor.xor_from.Goals as goal

pub returns : goal.returns
returns g c =
    let key = c.args.key.now in
    let at = c.args.at in
    record { value = c.xor_into.ensures.value ∙ applied-same bit_xor _ (λ j. get_or key (at + j) 0) c.args.out.now (λ j _. ap (λ zs. get_or zs j 0) (take_rest key at) ∙ get_or-drop at key j 0) }
