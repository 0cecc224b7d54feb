-- The registered templates of AEAD keys under their names.
use Rattle.std.specs.Prelude.{ℕ, List, [], ◌∷◌, codes}
use Rattle.tink_proto.specs.declared.enums.HashType.TheVariants.{Sha256}
use Rattle.tink_proto.specs.declared.enums.OutputPrefixType.TheVariants.{Raw, Tink}
use Rattle.tink_proto.specs.declared.messages.keys.KeyTemplate.{KeyTemplate}
use Rattle.tink_aead.specs.ComposedKeys.{composed_template}
use Rattle.tink_aead.specs.KeyTypes.{gcm_siv_template, gcm_template}

abbrev pub aead_templates : List (List ℕ × KeyTemplate)
aead_templates =
    (codes "AES128_GCM", gcm_template 16 Tink)
    ∷ (codes "AES256_GCM", gcm_template 32 Tink)
    ∷ (codes "AES256_GCM_NO_PREFIX", gcm_template 32 Raw)
    ∷ (codes "AES128_GCM_SIV", gcm_siv_template 16 Tink)
    ∷ (codes "AES256_GCM_SIV", gcm_siv_template 32 Tink)
    ∷ (codes "AES256_GCM_SIV_NO_PREFIX", gcm_siv_template 32 Raw)
    ∷ (codes "AES128_CTR_HMAC_SHA256", composed_template 16 16 32 16 Sha256)
    ∷ (codes "AES256_CTR_HMAC_SHA256", composed_template 32 16 32 32 Sha256)
    ∷ []
