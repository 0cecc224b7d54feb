use Rattle.std.proofs.Common.{◌≡◌, ◌<◌, ◌∙◌, [], ap, length, sym, get_or, arith}
use Rattle.std.proofs.lemmas.List.{get_or_default}
use Rattle.standards.specs.Lists.{xor_bytes}
use Rattle.cipher_stream.proofs.Applied.{applied_place, applied_all, combined-values}
use Rattle.cipher_stream.proofs.xor.xor_blocks.Goals as goal

pub loop-i-preserved : goal.loop-i-preserved
loop-i-preserved g c =
    let keys = c.args.keys.now in
    let within : c.loop-i.i < length keys = omega arith in
    let key : c.index-keys-i.result ≡ get_or keys c.loop-i.i [] = c.index-keys-i.is ∙ get_or_default keys c.loop-i.i _ [] within in
    applied_place xor_bytes (λ j. get_or keys j []) c.args.output.now c.loop-i.output _ _ c.loop-i.i (omega arith) c.loop-i.invariant (c.xor_block.ensures.value ∙ ap (xor_bytes _) key)

pub returns : goal.returns
returns g c =
    record { value = applied_all xor_bytes (λ j. get_or c.args.keys.now j []) c.args.output.now c.loop-i.output c.loop-i.i (omega arith) c.loop-i.invariant ∙ sym (combined-values xor_bytes c.args.output.now c.args.keys.now [] (omega arith)) }
