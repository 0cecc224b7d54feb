-- What the keys of AES in counter mode with HMAC tell.
use Rattle.std.specs.Prelude.{ℕ, List, Option, Some, None, Result, Ok, Err, nat_eq}
use Rattle.tink_io.specs.declared.error.Kind.{Kind}
use Rattle.tink_io.specs.declared.error.Kind.TheVariants.{InvalidFormat, InvalidKey}
use Rattle.tink_io.specs.Answering.{made_of}
use Rattle.tink_core_subtle.specs.Random.{takes_bytes}
use Rattle.tink_primitives.specs.Meaning.{IsDrawn, IsTold}
use Rattle.tink_primitives.specs.MeaningLaws.{drawn_if, drawn_none, end_trans, made_told, told_if}
use Rattle.tink_proto_keys.specs.declared.aes_ctr_hmac.AesCtrHmacAeadKey.{AesCtrHmacAeadKey}
use Rattle.tink_proto_keys.specs.declared.aes_ctr_hmac.AesCtrHmacAeadKeyFormat.{AesCtrHmacAeadKeyFormat}
use Rattle.tink_proto_keys.specs.AesCtrHmac.{AesCtrKey}
use Rattle.tink_proto_keys.specs.declared.aes_ctr_hmac.AesCtrKeyFormat.{AesCtrKeyFormat}
use Rattle.tink_proto_keys.specs.declared.aes_ctr_hmac.AesCtrParams.{AesCtrParams}
use Rattle.tink_proto_keys.specs.Mac.{HmacKeyFormat, HmacKey}
use Rattle.tink_key_manager.specs.Manager.{of_draws}
use Rattle.tink_key_manager.specs.ManagerLaws.{of_draws_told, taken_told}
use Rattle.tink_mac.specs.KeyTypes.{hmac_built}
use Rattle.tink_mac.specs.KeyTypeLaws.{hmac_built_told}
use Rattle.tink_mac.specs.Tags.{HmacTags}
use Rattle.tink_aead.specs.ComposedKeys.{are_ctr_params, composed_built, composed_made, composed_of, ctr_built, ctr_by_params, is_composed_format, joined, mac_built, made_by_parts, new_composed_key, with_hmac_key}
use Rattle.tink_aead.specs.KeyTypes.{is_versioned_key}
use Rattle.tink_aead_subtle.specs.declared.aes_ctr.AesCtr.{AesCtr}
use Rattle.tink_aead_subtle.specs.declared.encrypt_then_authenticate.EncryptThenAuthenticate.{EncryptThenAuthenticate}

ctr_by_params_told : (params : Option AesCtrParams) (key : List ℕ) → IsTold (ctr_by_params params key)
ctr_by_params_told None key = tt
ctr_by_params_told (Some p) key = told_if (are_ctr_params (Some p)) (Ok (record { key = key; iv_size = p.iv_size })) (Err InvalidKey) tt tt

ctr_built_told : (k : Option AesCtrKey) → IsTold (ctr_built k)
ctr_built_told None = tt
ctr_built_told (Some k) = told_if (is_versioned_key k.version k.key_value) (ctr_by_params k.params k.key_value) (Err InvalidKey) (ctr_by_params_told k.params k.key_value) tt

unmade_told : {T : Type 0} (r : Result T Kind) → IsTold (made_of (λ v. v) r) → IsTold r
unmade_told (Ok v) told = tt
unmade_told (Err k) told = told

mac_built_told : (k : Option HmacKey) → IsTold (mac_built k)
mac_built_told None = tt
mac_built_told (Some k) = unmade_told (hmac_built k) (hmac_built_told (λ m. m) k)

joined_told : (cipher : Result AesCtr Kind) (mac : Result HmacTags Kind) → IsTold cipher → IsTold mac → IsTold (joined cipher mac)
joined_told (Ok cipher) mac of_cipher of_mac = made_told (composed_of cipher) mac of_mac
joined_told (Err k) mac of_cipher of_mac = of_cipher

pub composed_built_told : {P : Type 0} (primitive : EncryptThenAuthenticate AesCtr HmacTags → P) (k : AesCtrHmacAeadKey) → IsTold (made_of primitive (composed_built k))
composed_built_told primitive k =
    made_told primitive (composed_built k)
    (told_if (nat_eq k.version 0) (joined (ctr_built k.aes_ctr_key) (mac_built k.hmac_key)) (Err InvalidKey)
    (joined_told (ctr_built k.aes_ctr_key) (mac_built k.hmac_key) (ctr_built_told k.aes_ctr_key) (mac_built_told k.hmac_key)) tt)

-- two takes, one after the other
with_hmac_key_told : (a : AesCtrKeyFormat) (h : HmacKeyFormat) (draws : List ℕ) (first : Result (List ℕ) Kind × List ℕ) → IsDrawn draws first → IsDrawn draws (with_hmac_key a h first)
with_hmac_key_told a h draws (Ok aes_key, rest) drawn =
    let second = of_draws_told h.key_size (new_composed_key a h aes_key) rest in
    record { answer = second.answer; ends = end_trans draws rest (of_draws h.key_size (new_composed_key a h aes_key) rest).1 drawn.ends second.ends }
with_hmac_key_told a h draws (Err k, rest) drawn = record { answer = drawn.answer; ends = drawn.ends }

made_by_parts_told : (a : Option AesCtrKeyFormat) (h : Option HmacKeyFormat) (draws : List ℕ) → IsDrawn draws (made_by_parts a h draws)
made_by_parts_told (Some a) (Some h) draws =
    drawn_if draws (is_composed_format a h) _ _ (with_hmac_key_told a h draws (takes_bytes a.key_size draws) (taken_told a.key_size draws)) (drawn_none draws (Err InvalidFormat) tt)
made_by_parts_told (Some a) None draws = drawn_none draws (Err InvalidFormat) tt
made_by_parts_told None h draws = drawn_none draws (Err InvalidFormat) tt

pub composed_made_told : (f : AesCtrHmacAeadKeyFormat) (draws : List ℕ) → IsDrawn draws (composed_made f draws)
composed_made_told f draws = made_by_parts_told f.aes_ctr_key_format f.hmac_key_format draws
