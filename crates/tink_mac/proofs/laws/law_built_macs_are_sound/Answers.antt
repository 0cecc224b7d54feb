use Rattle.tink_proto_keys.specs.Mac.{aes_cmac_key, hmac_key}
use Rattle.tink_key_manager.specs.Manager.{message_of}
use Rattle.tink_mac.proofs.SoundFacts.{cmac_sound, hmac_sound}
use Rattle.tink_mac.proofs.laws.law_built_macs_are_sound.Goals as goal

pub returns-clause-hmac : goal.returns-clause-hmac
returns-clause-hmac c m value p e = hmac_sound (message_of hmac_key value) p e

pub returns-clause-cmac : goal.returns-clause-cmac
returns-clause-cmac c m value p e = cmac_sound (message_of aes_cmac_key value) p e
