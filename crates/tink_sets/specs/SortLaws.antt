-- A primitive is of a sort, or it is refused as of another.
use Rattle.std.specs.Prelude.{◌≡◌, Result, Ok, Err}
use Rattle.std.proofs.Common.{ap, sym}
use Rattle.tink_io.specs.declared.error.Kind.{Kind}
use Rattle.tink_io.specs.declared.error.Kind.TheVariants.{WrongPrimitive}
use Rattle.tink_primitives.specs.declared.primitive.Primitive.{Primitive}
use Rattle.tink_primitives.specs.declared.primitive.Primitive.TheVariants.{Aead, DeterministicAead, HybridDecrypt, HybridEncrypt, Mac, Prf, Signer, StreamingAead, Verifier}
use Rattle.tink_primitives.specs.Sorts.{as_aead, as_deterministic_aead, as_hybrid_decrypt, as_hybrid_encrypt, as_mac, as_prf, as_signer, as_streaming_aead, as_verifier}

abbrev kind_of : {T : Type 0} → Result T Kind → Kind
kind_of (Ok _) = WrongPrimitive
kind_of (Err k) = k

module _ {K A D HD HE M P S St V : Type 0} where
  pub aead_or_wrong : (p : Primitive K A D HD HE M P S St V) (k : Kind) → as_aead p ≡ Err k → k ≡ WrongPrimitive
  aead_or_wrong (Aead p) k e = sym (ap kind_of e)
  aead_or_wrong p k e = sym (ap kind_of e)

  pub deterministic_aead_or_wrong : (p : Primitive K A D HD HE M P S St V) (k : Kind) → as_deterministic_aead p ≡ Err k → k ≡ WrongPrimitive
  deterministic_aead_or_wrong (DeterministicAead p) k e = sym (ap kind_of e)
  deterministic_aead_or_wrong p k e = sym (ap kind_of e)

  pub hybrid_decrypt_or_wrong : (p : Primitive K A D HD HE M P S St V) (k : Kind) → as_hybrid_decrypt p ≡ Err k → k ≡ WrongPrimitive
  hybrid_decrypt_or_wrong (HybridDecrypt p) k e = sym (ap kind_of e)
  hybrid_decrypt_or_wrong p k e = sym (ap kind_of e)

  pub hybrid_encrypt_or_wrong : (p : Primitive K A D HD HE M P S St V) (k : Kind) → as_hybrid_encrypt p ≡ Err k → k ≡ WrongPrimitive
  hybrid_encrypt_or_wrong (HybridEncrypt p) k e = sym (ap kind_of e)
  hybrid_encrypt_or_wrong p k e = sym (ap kind_of e)

  pub mac_or_wrong : (p : Primitive K A D HD HE M P S St V) (k : Kind) → as_mac p ≡ Err k → k ≡ WrongPrimitive
  mac_or_wrong (Mac p) k e = sym (ap kind_of e)
  mac_or_wrong p k e = sym (ap kind_of e)

  pub prf_or_wrong : (p : Primitive K A D HD HE M P S St V) (k : Kind) → as_prf p ≡ Err k → k ≡ WrongPrimitive
  prf_or_wrong (Prf p) k e = sym (ap kind_of e)
  prf_or_wrong p k e = sym (ap kind_of e)

  pub signer_or_wrong : (p : Primitive K A D HD HE M P S St V) (k : Kind) → as_signer p ≡ Err k → k ≡ WrongPrimitive
  signer_or_wrong (Signer p) k e = sym (ap kind_of e)
  signer_or_wrong p k e = sym (ap kind_of e)

  pub streaming_aead_or_wrong : (p : Primitive K A D HD HE M P S St V) (k : Kind) → as_streaming_aead p ≡ Err k → k ≡ WrongPrimitive
  streaming_aead_or_wrong (StreamingAead p) k e = sym (ap kind_of e)
  streaming_aead_or_wrong p k e = sym (ap kind_of e)

  pub verifier_or_wrong : (p : Primitive K A D HD HE M P S St V) (k : Kind) → as_verifier p ≡ Err k → k ≡ WrongPrimitive
  verifier_or_wrong (Verifier p) k e = sym (ap kind_of e)
  verifier_or_wrong p k e = sym (ap kind_of e)
