use Rattle.std.proofs.Common.{length, ap, ap₂, ◌∙◌}
use Rattle.std.proofs.lemmas.Bool.{ne_eqb}
use Rattle.standards.specs.Cmac.{double_block}
use Rattle.standards.specs.Lists.{xor_bytes}
use Rattle.hash_keys.proofs.cmac.last_block.Goals as goal

pub returns : goal.returns
returns g c =
    rw (ne_eqb (length c.args.rest.now) 16 c.if-rest-eq16.false)
    (c.xor_in_place-2.ensures.value ∙ ap₂ xor_bytes c.bit_padded-block.ensures (c.double_block-second.ensures ∙ ap double_block c.subkey-first.ensures))
