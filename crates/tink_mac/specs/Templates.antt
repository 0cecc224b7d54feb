-- The registered templates of MAC keys under their names.
use Rattle.std.specs.Prelude.{ℕ, List, [], ◌∷◌, codes}
use Rattle.tink_proto.specs.declared.enums.HashType.TheVariants.{Sha256, Sha512}
use Rattle.tink_proto.specs.declared.messages.keys.KeyTemplate.{KeyTemplate}
use Rattle.tink_mac.specs.KeyTypes.{cmac_template, hmac_template}

abbrev pub mac_templates : List (List ℕ × KeyTemplate)
mac_templates =
    (codes "HMAC_SHA256_128BITTAG", hmac_template 32 Sha256 16)
    ∷ (codes "HMAC_SHA256_256BITTAG", hmac_template 32 Sha256 32)
    ∷ (codes "HMAC_SHA512_256BITTAG", hmac_template 64 Sha512 32)
    ∷ (codes "HMAC_SHA512_512BITTAG", hmac_template 64 Sha512 64)
    ∷ (codes "AES_CMAC", cmac_template 32 16)
    ∷ []
