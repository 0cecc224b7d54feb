-- The sizes of AES keys in bytes.
use Rattle.std.specs.Prelude.{ℕ}
use Rattle.tink_streaming_ciphers.specs.declared.aes_variant.AesVariant.{AesVariant}
use Rattle.tink_streaming_ciphers.specs.declared.aes_variant.AesVariant.TheVariants.{Aes128, Aes256}

abbrev pub key_size : AesVariant → ℕ
key_size Aes128 = 16
key_size Aes256 = 32
