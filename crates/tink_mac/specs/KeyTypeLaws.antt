-- What the keys of HMAC and AES-CMAC tell.
use Rattle.std.specs.Prelude.{ℕ, List, Option, Some, None, Result, Ok, Err, is_ok, length, nat_eq}
use Rattle.tink_io.specs.declared.error.Kind.{Kind}
use Rattle.tink_io.specs.declared.error.Kind.TheVariants.{InvalidKey}
use Rattle.tink_io.specs.Answering.{made_of}
use Rattle.tink_primitives.specs.Meaning.{IsTold}
use Rattle.tink_primitives.specs.MeaningLaws.{made_told, told_if}
use Rattle.tink_proto_keys.specs.Mac.{HmacKey}
use Rattle.tink_proto_keys.specs.declared.mac.HmacParams.{HmacParams}
use Rattle.tink_proto_keys.specs.declared.mac.AesCmacKey.{AesCmacKey}
use Rattle.tink_proto_keys.specs.declared.mac.AesCmacParams.{AesCmacParams}
use Rattle.tink_core_subtle.specs.Hashes.{hash_named}
use Rattle.tink_key_manager.specs.HashTypes.{hash_type_of}
use Rattle.tink_mac.specs.KeyTypes.{cmac_built, cmac_by_params, hmac_built, hmac_by_params, or_invalid}
use Rattle.tink_mac.specs.Tags.{cmac_params, hmac_tags, CmacTags, HmacTags}

or_invalid_told : {A : Type 0} (r : Result A Kind) → IsTold (or_invalid r)
or_invalid_told (Ok v) = tt
or_invalid_told (Err _) = tt

hmac_by_params_told : (params : Option HmacParams) (key : List ℕ) → IsTold (hmac_by_params params key)
hmac_by_params_told None key = tt
hmac_by_params_told (Some p) key = or_invalid_told (hmac_tags (hash_named (hash_type_of p.hash)) key p.tag_size)

pub hmac_built_told : {P : Type 0} (primitive : HmacTags → P) (k : HmacKey) → IsTold (made_of primitive (hmac_built k))
hmac_built_told primitive k =
    made_told primitive (hmac_built k)
    (told_if (nat_eq k.version 0) (hmac_by_params k.params k.key_value) (Err InvalidKey)
    (hmac_by_params_told k.params k.key_value) tt)

cmac_by_params_told : (params : Option AesCmacParams) (key : List ℕ) → IsTold (cmac_by_params params key)
cmac_by_params_told None key = tt
cmac_by_params_told (Some p) key =
    told_if (is_ok (cmac_params (length key) p.tag_size))
    (Ok (record { key = key; tag_size = p.tag_size })) (Err InvalidKey) tt tt

pub cmac_built_told : {P : Type 0} (primitive : CmacTags → P) (k : AesCmacKey)
    → IsTold (made_of primitive (cmac_built k))
cmac_built_told primitive k =
    made_told primitive (cmac_built k)
    (told_if (nat_eq k.version 0) (cmac_by_params k.params k.key_value) (Err InvalidKey)
    (cmac_by_params_told k.params k.key_value) tt)
