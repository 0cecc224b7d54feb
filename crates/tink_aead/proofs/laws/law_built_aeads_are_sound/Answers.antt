use Rattle.tink_proto_keys.specs.Aead.{aes_gcm_key, aes_gcm_siv_key}
use Rattle.tink_proto_keys.specs.AesCtrHmac.{aes_ctr_hmac_aead_key}
use Rattle.tink_key_manager.specs.Manager.{message_of}
use Rattle.tink_aead.proofs.SoundFacts.{composed_key_sound, gcm_key_sound, gcm_siv_key_sound}
use Rattle.tink_aead.proofs.laws.law_built_aeads_are_sound.Goals as goal

pub returns-clause-gcm : goal.returns-clause-gcm
returns-clause-gcm c m value p e = gcm_key_sound (message_of aes_gcm_key value) p e

pub returns-clause-gcm_siv : goal.returns-clause-gcm_siv
returns-clause-gcm_siv c m value p e = gcm_siv_key_sound (message_of aes_gcm_siv_key value) p e

pub returns-clause-composed : goal.returns-clause-composed
returns-clause-composed c m value p e = composed_key_sound (message_of aes_ctr_hmac_aead_key value) p e
