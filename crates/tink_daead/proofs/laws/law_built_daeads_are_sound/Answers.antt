use Rattle.tink_proto_keys.specs.Daead.{aes_siv_key}
use Rattle.tink_key_manager.specs.Manager.{message_of}
use Rattle.tink_daead.proofs.RotationFacts.{siv_key_sound}
use Rattle.tink_daead.proofs.laws.law_built_daeads_are_sound.Goals as goal

pub returns : goal.returns
returns c m value p e = siv_key_sound (message_of aes_siv_key value) p e
