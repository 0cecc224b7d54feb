use Rattle.tink_primitives.specs.declared.primitive.Primitive.TheVariants.{Mac}
use Rattle.tink.proofs.SoundFacts.{managers_sound}
use Rattle.tink.proofs.laws.law_macs_are_sound.Goals as goal

pub returns : goal.returns
returns c m value p e = managers_sound m value (Mac p) e
