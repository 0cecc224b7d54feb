-- The keys of streams: what their params name, and which formats make keys.
use Rattle.std.specs.Prelude.{ℕ, List, Bool, false, ◌&&◌, nat_eq, Some, None}
use Rattle.std.specs.declared.option.Option.{Option}
use Rattle.tink_proto.specs.declared.enums.HashType.TheVariants.{Sha256}
use Rattle.tink_proto.specs.declared.enums.OutputPrefixType.TheVariants.{Raw}
use Rattle.tink_proto.specs.declared.messages.keys.KeyTemplate.{KeyTemplate}
use Rattle.tink_proto.specs.Enums.{hash_number}
use Rattle.tink_proto_keys.specs.Streaming.{AesGcmHkdfStreamingKeyFormat, AesGcmHkdfStreamingKey, AesCtrHmacStreamingKeyFormat, AesCtrHmacStreamingKey, aes_ctr_hmac_streaming_key_format, aes_gcm_hkdf_streaming_key_format}
use Rattle.tink_proto_keys.specs.declared.streaming.AesCtrHmacStreamingParams.{AesCtrHmacStreamingParams}
use Rattle.tink_proto_keys.specs.declared.streaming.AesGcmHkdfStreamingParams.{AesGcmHkdfStreamingParams}
use Rattle.wire_format.specs.Reading.{◌>>=◌}
use Rattle.stream_model.specs.Key.{StreamKey}
use Rattle.loading_model.specs.Building.{aes_ctr_hmac_url, aes_gcm_hkdf_url, gcm_streaming_key, hash_numbered, is_gcm_streaming, is_streaming, streaming_key}
use Rattle.tink_key_manager.specs.Templates.{template_of}
use Rattle.tink_streaming_managers.specs.declared.aes_ctr_hmac_key_manager.CtrHmacSizes.{CtrHmacSizes}
use Rattle.tink_streaming_managers.specs.declared.aes_gcm_hkdf_key_manager.GcmHkdfSizes.{GcmHkdfSizes}

-- ---- in counter mode with HMAC

-- what params name, which have those of HMAC
abbrev pub ctr_hmac_named : Option AesCtrHmacStreamingParams → Option CtrHmacSizes
ctr_hmac_named params = do
  p ← params
  hmac ← p.hmac_params
  hkdf_hash ← hash_numbered p.hkdf_hash_type
  tag_hash ← hash_numbered hmac.hash
  Some (record { hkdf_hash = hkdf_hash; derived = p.derived_key_size; tag_hash = tag_hash; tag = hmac.tag_size; segment = p.ciphertext_segment_size })

-- whether keys of a size are made with these sizes
abbrev pub is_ctr_hmac_sized : ℕ → Option CtrHmacSizes → Bool
is_ctr_hmac_sized main None = false
is_ctr_hmac_sized main (Some s) = is_streaming main s.derived s.tag_hash s.tag s.segment

-- a format of version 0, whose keys make streams
abbrev pub is_ctr_hmac_format : AesCtrHmacStreamingKeyFormat → Bool
is_ctr_hmac_format f = nat_eq f.version 0 && is_ctr_hmac_sized f.key_size (ctr_hmac_named f.params)

abbrev pub new_ctr_hmac_key : AesCtrHmacStreamingKeyFormat → List ℕ → AesCtrHmacStreamingKey
new_ctr_hmac_key f key = record { version = 0; params = f.params; key_value = key }

abbrev pub ctr_hmac_sized : List ℕ → CtrHmacSizes → Option StreamKey
ctr_hmac_sized main s = streaming_key main s.derived s.hkdf_hash s.tag_hash s.tag s.segment

-- the format of keys of a size, from which AES keys of this size are derived, with SHA-256 twice and tags of 32 bytes
abbrev pub ctr_hmac_format : ℕ → ℕ → AesCtrHmacStreamingKeyFormat
ctr_hmac_format key_size segment = record {
  params = Some (record {
    ciphertext_segment_size = segment;
    derived_key_size = key_size;
    hkdf_hash_type = hash_number Sha256;
    hmac_params = Some (record { hash = hash_number Sha256; tag_size = 32 });
  });
  key_size = key_size;
  version = 0;
}

abbrev pub ctr_hmac_template : ℕ → ℕ → KeyTemplate
ctr_hmac_template key_size segment = template_of aes_ctr_hmac_url aes_ctr_hmac_streaming_key_format (ctr_hmac_format key_size segment) Raw

-- ---- by AES-GCM

-- what params name
abbrev pub gcm_hkdf_named : Option AesGcmHkdfStreamingParams → Option GcmHkdfSizes
gcm_hkdf_named params = do
  p ← params
  hkdf_hash ← hash_numbered p.hkdf_hash_type
  Some (record { hkdf_hash = hkdf_hash; derived = p.derived_key_size; segment = p.ciphertext_segment_size })

-- whether keys of a size are made with these sizes
abbrev pub is_gcm_hkdf_sized : ℕ → Option GcmHkdfSizes → Bool
is_gcm_hkdf_sized main None = false
is_gcm_hkdf_sized main (Some s) = is_gcm_streaming main s.derived s.segment

-- a format of any version, whose keys make streams
abbrev pub is_gcm_hkdf_format : AesGcmHkdfStreamingKeyFormat → Bool
is_gcm_hkdf_format f = is_gcm_hkdf_sized f.key_size (gcm_hkdf_named f.params)

abbrev pub new_gcm_hkdf_key : AesGcmHkdfStreamingKeyFormat → List ℕ → AesGcmHkdfStreamingKey
new_gcm_hkdf_key f key = record { version = 0; params = f.params; key_value = key }

abbrev pub gcm_hkdf_sized : List ℕ → GcmHkdfSizes → Option StreamKey
gcm_hkdf_sized main s = gcm_streaming_key main s.derived s.hkdf_hash s.segment

-- the format of keys of a size, from which AES keys of this size are derived, with SHA-256
abbrev pub gcm_hkdf_format : ℕ → ℕ → AesGcmHkdfStreamingKeyFormat
gcm_hkdf_format key_size segment = record {
  params = Some (record { ciphertext_segment_size = segment; derived_key_size = key_size; hkdf_hash_type = hash_number Sha256 });
  key_size = key_size;
  version = 0;
}

abbrev pub gcm_hkdf_template : ℕ → ℕ → KeyTemplate
gcm_hkdf_template key_size segment = template_of aes_gcm_hkdf_url aes_gcm_hkdf_streaming_key_format (gcm_hkdf_format key_size segment) Raw
