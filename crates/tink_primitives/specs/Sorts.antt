-- The sorts of primitives: a primitive as one of each sort, or `WrongPrimitive` where it is of another sort.
use Rattle.std.specs.Prelude.{Result, Ok, Err}
use Rattle.tink_io.specs.declared.error.Kind.{Kind}
use Rattle.tink_io.specs.declared.error.Kind.TheVariants.{WrongPrimitive}
use Rattle.tink_primitives.specs.declared.primitive.Primitive.{Primitive}
use Rattle.tink_primitives.specs.declared.primitive.Primitive.TheVariants.{Aead, DeterministicAead, HybridDecrypt, HybridEncrypt, Mac, Prf, Signer, StreamingAead, Verifier}

abbrev pub as_aead : {K A D HD HE M P S St V : Type 0} → Primitive K A D HD HE M P S St V → Result A Kind
as_aead (Aead p) = Ok p
as_aead _ = Err WrongPrimitive

abbrev pub as_deterministic_aead : {K A D HD HE M P S St V : Type 0} → Primitive K A D HD HE M P S St V → Result D Kind
as_deterministic_aead (DeterministicAead p) = Ok p
as_deterministic_aead _ = Err WrongPrimitive

abbrev pub as_hybrid_decrypt : {K A D HD HE M P S St V : Type 0} → Primitive K A D HD HE M P S St V → Result HD Kind
as_hybrid_decrypt (HybridDecrypt p) = Ok p
as_hybrid_decrypt _ = Err WrongPrimitive

abbrev pub as_hybrid_encrypt : {K A D HD HE M P S St V : Type 0} → Primitive K A D HD HE M P S St V → Result HE Kind
as_hybrid_encrypt (HybridEncrypt p) = Ok p
as_hybrid_encrypt _ = Err WrongPrimitive

abbrev pub as_mac : {K A D HD HE M P S St V : Type 0} → Primitive K A D HD HE M P S St V → Result M Kind
as_mac (Mac p) = Ok p
as_mac _ = Err WrongPrimitive

abbrev pub as_prf : {K A D HD HE M P S St V : Type 0} → Primitive K A D HD HE M P S St V → Result P Kind
as_prf (Prf p) = Ok p
as_prf _ = Err WrongPrimitive

abbrev pub as_signer : {K A D HD HE M P S St V : Type 0} → Primitive K A D HD HE M P S St V → Result S Kind
as_signer (Signer p) = Ok p
as_signer _ = Err WrongPrimitive

abbrev pub as_streaming_aead : {K A D HD HE M P S St V : Type 0} → Primitive K A D HD HE M P S St V → Result St Kind
as_streaming_aead (StreamingAead p) = Ok p
as_streaming_aead _ = Err WrongPrimitive

abbrev pub as_verifier : {K A D HD HE M P S St V : Type 0} → Primitive K A D HD HE M P S St V → Result V Kind
as_verifier (Verifier p) = Ok p
as_verifier _ = Err WrongPrimitive
