-- What the pseudorandom functions of the three kinds give.
use Rattle.std.specs.Prelude.{ℕ, List, Result}
use Rattle.tink_io.specs.declared.error.Kind.{Kind}
use Rattle.tink_primitives.specs.Meaning.{IsTold}
use Rattle.tink_prf.specs.declared.prf_kind.PrfKind.{PrfKind}
use Rattle.tink_prf.specs.declared.prf_kind.PrfKind.TheVariants.{AesCmac, Hkdf, Hmac}
use Rattle.tink_prf_subtle.specs.AesCmac.{aes_cmac_output, aes_cmac_output_told}
use Rattle.tink_prf_subtle.specs.Hkdf.{hkdf_output, hkdf_output_told}
use Rattle.tink_prf_subtle.specs.Hmac.{hmac_output, hmac_output_told}

abbrev pub kind_output : PrfKind → List ℕ → ℕ → Result (List ℕ) Kind
kind_output (AesCmac key) = aes_cmac_output key
kind_output (Hkdf key) = hkdf_output key
kind_output (Hmac key) = hmac_output key

pub kind_output_told : (p : PrfKind) (input : List ℕ) (n : ℕ) → IsTold (kind_output p input n)
kind_output_told (AesCmac key) = aes_cmac_output_told key
kind_output_told (Hkdf key) = hkdf_output_told key
kind_output_told (Hmac key) = hmac_output_told key
