-- The eleven managers, a row each.
use Rattle.std.specs.Prelude.{ℕ, List, is_some, nat_eq}
use Rattle.tink_io.specs.declared.error.Kind.TheVariants.{InvalidKey}
use Rattle.tink_io.specs.Answering.{made_of, or_refused}
use Rattle.tink_primitives.specs.declared.kinds.Never.{Never}
use Rattle.tink_primitives.specs.declared.primitive.Primitive.{Primitive}
use Rattle.tink_primitives.specs.declared.primitive.Primitive.TheVariants.{Aead, DeterministicAead, Mac, Prf, StreamingAead}
use Rattle.tink_primitives.specs.Meaning.{IsTold}
use Rattle.tink_primitives.specs.Sorts.{as_aead, as_deterministic_aead, as_mac, as_prf, as_streaming_aead}
use Rattle.tink_key_manager.specs.Manager.{built_if, made_if}
use Rattle.tink_key_manager.specs.ManagerLaws.{built_if_told, made_if_told}
use Rattle.tink_proto_keys.specs.Prf as prf_messages
use Rattle.tink_proto_keys.specs.Mac as mac_messages
use Rattle.tink_proto_keys.specs.Aead as aead_messages
use Rattle.tink_proto_keys.specs.AesCtrHmac as composed_messages
use Rattle.tink_proto_keys.specs.Streaming as streaming_messages
use Rattle.tink_proto_keys.specs.Daead as daead_messages
pub use Rattle.tink_prf.specs.declared.prf_kind.PrfKind.{PrfKind}
use Rattle.tink_prf.specs.declared.prf_kind.PrfKind.TheVariants as prf_kinds
use Rattle.tink_prf.specs.declared.prf_kind.PrfKinds.{PrfKinds}
use Rattle.tink_prf.specs.KeyTypes as prf_keys
use Rattle.tink_mac.specs.declared.mac_kind.MacKind.{MacKind}
use Rattle.tink_mac.specs.declared.mac_kind.MacKind.TheVariants as mac_kinds
use Rattle.tink_mac.specs.declared.mac_kind.MacKinds.{MacKinds}
use Rattle.tink_mac.specs.KeyTypes as mac_keys
use Rattle.tink_mac.specs.KeyTypeLaws as mac_laws
pub use Rattle.tink_aead.specs.declared.aead_kind.AeadKind.{AeadKind}
use Rattle.tink_aead.specs.declared.aead_kind.AeadKind.TheVariants as aead_kinds
use Rattle.tink_aead.specs.declared.aead_kind.AeadKinds.{AeadKinds}
use Rattle.tink_aead.specs.KeyTypes as aead_keys
use Rattle.tink_aead.specs.ComposedKeys as composed_keys
use Rattle.tink_aead.specs.ComposedKeyLaws as composed_laws
use Rattle.tink_aead_subtle.specs.KeySizes.{is_aes_key_size}
use Rattle.loading_model.specs.Building as building
use Rattle.tink_streaming_keys.specs.declared.stream_kind.StreamKind.{StreamKind}
use Rattle.tink_streaming_keys.specs.declared.stream_kind.StreamKind.TheVariants as stream_kinds
use Rattle.tink_streaming_keys.specs.declared.stream_kind.StreamKinds.{StreamKinds}
use Rattle.tink_streaming_aead.specs.KeyTypes as streaming_keys
use Rattle.tink_streaming_aead.specs.KeyTypeLaws.{made_or_invalid_told}
use Rattle.tink_daead.specs.declared.daead_kinds.DaeadKinds.{DaeadKinds}
use Rattle.tink_daead.specs.KeyTypes as daead_keys
use Rattle.tink.specs.declared.managers.TinkKinds.{TinkKinds}
use Rattle.tink.specs.declared.managers.Managers.{Managers}
use Rattle.tink.specs.declared.managers.Managers.TheVariants as managers
use Rattle.tink.specs.Rows.{Row, row_of_type}

-- the primitives of all sorts, and those of one; a deterministic AEAD is its key
abbrev pub Built : Type 0
Built = Primitive TinkKinds AeadKind (List ℕ) Never Never MacKind PrfKind Never StreamKind Never

abbrev pub AeadBuilt : Type 0
AeadBuilt = Primitive AeadKinds AeadKind Never Never Never Never Never Never Never Never

abbrev pub MacBuilt : Type 0
MacBuilt = Primitive MacKinds Never Never Never Never MacKind Never Never Never Never

abbrev pub PrfBuilt : Type 0
PrfBuilt = Primitive PrfKinds Never Never Never Never Never PrfKind Never Never Never

abbrev pub StreamBuilt : Type 0
StreamBuilt = Primitive StreamKinds Never Never Never Never Never Never Never StreamKind Never

abbrev pub DaeadBuilt : Type 0
DaeadBuilt = Primitive DaeadKinds Never (List ℕ) Never Never Never Never Never Never Never

pub aead_told : (p : AeadBuilt) → IsTold (as_aead p)
aead_told (Aead p) = tt
aead_told _ = tt

pub mac_told : (p : MacBuilt) → IsTold (as_mac p)
mac_told (Mac p) = tt
mac_told _ = tt

pub prf_told : (p : PrfBuilt) → IsTold (as_prf p)
prf_told (Prf p) = tt
prf_told _ = tt

pub stream_told : (p : StreamBuilt) → IsTold (as_streaming_aead p)
stream_told (StreamingAead p) = tt
stream_told _ = tt

pub daead_told : (p : DaeadBuilt) → IsTold (as_deterministic_aead p)
daead_told (DeterministicAead p) = tt
daead_told _ = tt

abbrev pub as_built_aead : AeadKind → Built
as_built_aead p = Aead p

abbrev pub as_built_mac : MacKind → Built
as_built_mac p = Mac p

abbrev pub as_built_prf : PrfKind → Built
as_built_prf p = Prf p

abbrev pub as_built_stream : StreamKind → Built
as_built_stream p = StreamingAead p

abbrev pub as_built_daead : List ℕ → Built
as_built_daead p = DeterministicAead p

abbrev pub row_of : Managers → Row Built
row_of managers.AesCmacPrf =
    row_of_type as_prf as_built_prf prf_told prf_keys.aes_cmac_prf_url prf_messages.aes_cmac_prf_key prf_messages.aes_cmac_prf_key_format
    (λ k. prf_keys.built_of (λ p. Prf (prf_kinds.AesCmac p)) (prf_keys.aes_cmac_prf_key_of k))
    (λ k. prf_keys.built_of_told (λ p. Prf (prf_kinds.AesCmac p)) (prf_keys.aes_cmac_prf_key_of k))
    (λ f draws. made_if (nat_eq f.key_size 32) f.key_size prf_keys.new_aes_cmac_prf_key draws)
    (λ f draws. made_if_told (nat_eq f.key_size 32) f.key_size prf_keys.new_aes_cmac_prf_key draws)
row_of managers.HkdfPrf =
    row_of_type as_prf as_built_prf prf_told prf_keys.hkdf_prf_url prf_messages.hkdf_prf_key prf_messages.hkdf_prf_key_format
    (λ k. prf_keys.built_of (λ p. Prf (prf_kinds.Hkdf p)) (prf_keys.hkdf_prf_key_of k))
    (λ k. prf_keys.built_of_told (λ p. Prf (prf_kinds.Hkdf p)) (prf_keys.hkdf_prf_key_of k))
    (λ f draws. made_if (is_some (prf_keys.hkdf_prf_hash f.params f.key_size)) f.key_size (prf_keys.new_hkdf_prf_key f.params) draws)
    (λ f draws. made_if_told (is_some (prf_keys.hkdf_prf_hash f.params f.key_size)) f.key_size (prf_keys.new_hkdf_prf_key f.params) draws)
row_of managers.HmacPrf =
    row_of_type as_prf as_built_prf prf_told prf_keys.hmac_prf_url prf_messages.hmac_prf_key prf_messages.hmac_prf_key_format
    (λ k. prf_keys.built_of (λ p. Prf (prf_kinds.Hmac p)) (prf_keys.hmac_prf_key_of k))
    (λ k. prf_keys.built_of_told (λ p. Prf (prf_kinds.Hmac p)) (prf_keys.hmac_prf_key_of k))
    (λ f draws. made_if (is_some (prf_keys.hmac_prf_hash f.params f.key_size)) f.key_size (prf_keys.new_hmac_prf_key f.params) draws)
    (λ f draws. made_if_told (is_some (prf_keys.hmac_prf_hash f.params f.key_size)) f.key_size (prf_keys.new_hmac_prf_key f.params) draws)
row_of managers.AesCmac =
    row_of_type as_mac as_built_mac mac_told mac_keys.cmac_url mac_messages.aes_cmac_key mac_messages.aes_cmac_key_format
    (λ k. made_of (λ m. Mac (mac_kinds.AesCmac m)) (mac_keys.cmac_built k))
    (λ k. mac_laws.cmac_built_told (λ m. Mac (mac_kinds.AesCmac m)) k)
    (λ f draws. made_if (mac_keys.are_cmac_params f.params f.key_size) f.key_size (mac_keys.new_cmac_key f) draws)
    (λ f draws. made_if_told (mac_keys.are_cmac_params f.params f.key_size) f.key_size (mac_keys.new_cmac_key f) draws)
row_of managers.Hmac =
    row_of_type as_mac as_built_mac mac_told mac_keys.hmac_url mac_messages.hmac_key mac_messages.hmac_key_format
    (λ k. made_of (λ m. Mac (mac_kinds.Hmac m)) (mac_keys.hmac_built k))
    (λ k. mac_laws.hmac_built_told (λ m. Mac (mac_kinds.Hmac m)) k)
    (λ f draws. made_if (mac_keys.are_hmac_params f.params f.key_size) f.key_size (mac_keys.new_hmac_key f) draws)
    (λ f draws. made_if_told (mac_keys.are_hmac_params f.params f.key_size) f.key_size (mac_keys.new_hmac_key f) draws)
row_of managers.AesGcm =
    row_of_type as_aead as_built_aead aead_told aead_keys.gcm_url aead_messages.aes_gcm_key aead_messages.aes_gcm_key_format
    (λ k. built_if (aead_keys.is_versioned_key k.version k.key_value) (Aead (aead_kinds.AesGcm (record { key = k.key_value }))))
    (λ k. built_if_told (aead_keys.is_versioned_key k.version k.key_value) _)
    (λ f draws. made_if (is_aes_key_size f.key_size) f.key_size aead_keys.new_gcm_key draws)
    (λ f draws. made_if_told (is_aes_key_size f.key_size) f.key_size aead_keys.new_gcm_key draws)
row_of managers.AesGcmSiv =
    row_of_type as_aead as_built_aead aead_told aead_keys.gcm_siv_url aead_messages.aes_gcm_siv_key aead_messages.aes_gcm_siv_key_format
    (λ k. built_if (aead_keys.is_versioned_key k.version k.key_value) (Aead (aead_kinds.AesGcmSiv (record { key = k.key_value }))))
    (λ k. built_if_told (aead_keys.is_versioned_key k.version k.key_value) _)
    (λ f draws. made_if (is_aes_key_size f.key_size) f.key_size aead_keys.new_gcm_siv_key draws)
    (λ f draws. made_if_told (is_aes_key_size f.key_size) f.key_size aead_keys.new_gcm_siv_key draws)
row_of managers.AesCtrHmacAead =
    row_of_type as_aead as_built_aead aead_told composed_keys.composed_url composed_messages.aes_ctr_hmac_aead_key composed_messages.aes_ctr_hmac_aead_key_format
    (λ k. made_of (λ a. Aead (aead_kinds.AesCtrHmac a)) (composed_keys.composed_built k))
    (λ k. composed_laws.composed_built_told (λ a. Aead (aead_kinds.AesCtrHmac a)) k)
    composed_keys.composed_made
    composed_laws.composed_made_told
row_of managers.AesCtrHmac =
    row_of_type as_streaming_aead as_built_stream stream_told building.aes_ctr_hmac_url streaming_messages.aes_ctr_hmac_streaming_key streaming_messages.aes_ctr_hmac_streaming_key_format
    (λ k. made_of (λ key. StreamingAead (stream_kinds.CtrHmac key)) (or_refused InvalidKey (building.streaming_of k)))
    (λ k. made_or_invalid_told (λ key. StreamingAead (stream_kinds.CtrHmac key)) (building.streaming_of k))
    (λ f draws. made_if (streaming_keys.is_ctr_hmac_format f) f.key_size (streaming_keys.new_ctr_hmac_key f) draws)
    (λ f draws. made_if_told (streaming_keys.is_ctr_hmac_format f) f.key_size (streaming_keys.new_ctr_hmac_key f) draws)
row_of managers.AesGcmHkdf =
    row_of_type as_streaming_aead as_built_stream stream_told building.aes_gcm_hkdf_url streaming_messages.aes_gcm_hkdf_streaming_key streaming_messages.aes_gcm_hkdf_streaming_key_format
    (λ k. made_of (λ key. StreamingAead (stream_kinds.GcmHkdf key)) (or_refused InvalidKey (building.gcm_hkdf_of k)))
    (λ k. made_or_invalid_told (λ key. StreamingAead (stream_kinds.GcmHkdf key)) (building.gcm_hkdf_of k))
    (λ f draws. made_if (streaming_keys.is_gcm_hkdf_format f) f.key_size (streaming_keys.new_gcm_hkdf_key f) draws)
    (λ f draws. made_if_told (streaming_keys.is_gcm_hkdf_format f) f.key_size (streaming_keys.new_gcm_hkdf_key f) draws)
row_of managers.AesSiv =
    row_of_type as_deterministic_aead as_built_daead daead_told daead_keys.aes_siv_url daead_messages.aes_siv_key daead_messages.aes_siv_key_format
    (λ k. built_if (daead_keys.is_accepted k.version k.key_value) (DeterministicAead k.key_value))
    (λ k. built_if_told (daead_keys.is_accepted k.version k.key_value) _)
    (λ f draws. made_if (nat_eq f.key_size 64) f.key_size daead_keys.new_aes_siv_key draws)
    (λ f draws. made_if_told (nat_eq f.key_size 64) f.key_size daead_keys.new_aes_siv_key draws)
