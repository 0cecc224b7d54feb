-- The registered templates of keys of streams under their names.
use Rattle.std.specs.Prelude.{ℕ, List, [], ◌∷◌, codes}
use Rattle.tink_proto.specs.declared.messages.keys.KeyTemplate.{KeyTemplate}
use Rattle.tink_streaming_managers.specs.KeyTypes.{ctr_hmac_template, gcm_hkdf_template}

abbrev pub streaming_templates : List (List ℕ × KeyTemplate)
streaming_templates =
    (codes "AES128_CTR_HMAC_SHA256_4KB", ctr_hmac_template 16 4096)
    ∷ (codes "AES128_CTR_HMAC_SHA256_1MB", ctr_hmac_template 16 1048576)
    ∷ (codes "AES256_CTR_HMAC_SHA256_4KB", ctr_hmac_template 32 4096)
    ∷ (codes "AES256_CTR_HMAC_SHA256_1MB", ctr_hmac_template 32 1048576)
    ∷ (codes "AES128_GCM_HKDF_4KB", gcm_hkdf_template 16 4096)
    ∷ (codes "AES128_GCM_HKDF_1MB", gcm_hkdf_template 16 1048576)
    ∷ (codes "AES256_GCM_HKDF_4KB", gcm_hkdf_template 32 4096)
    ∷ (codes "AES256_GCM_HKDF_1MB", gcm_hkdf_template 32 1048576)
    ∷ []
