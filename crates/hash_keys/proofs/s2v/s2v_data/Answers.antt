use Rattle.std.proofs.Common.{ap, ap₂, ◌∙◌}
use Rattle.standards.specs.Cmac.{double_block}
use Rattle.standards.specs.Lists.{xor_bytes}
use Rattle.standards.specs.Siv.{s2v_data}
use Rattle.hash_keys.proofs.s2v.s2v_data.Goals as goal

pub returns : goal.returns
unfolding s2v_data
returns g c = c.xor_in_place.ensures.value ∙ ap₂ xor_bytes (c.double_block-d.ensures ∙ ap double_block c.cmac_of.ensures) c.cmac_of-code.ensures
