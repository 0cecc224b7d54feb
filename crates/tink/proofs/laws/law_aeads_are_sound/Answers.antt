use Rattle.tink_primitives.specs.declared.primitive.Primitive.TheVariants.{Aead, DeterministicAead}
use Rattle.tink.proofs.SoundFacts.{managers_sound}
use Rattle.tink.proofs.laws.law_aeads_are_sound.Goals as goal

pub returns-clause-aeads : goal.returns-clause-aeads
returns-clause-aeads c m value p e = managers_sound m value (Aead p) e

pub returns-clause-deterministic : goal.returns-clause-deterministic
returns-clause-deterministic c m value p e = managers_sound m value (DeterministicAead p) e
