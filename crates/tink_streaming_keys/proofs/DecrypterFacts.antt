-- The cipher under a header, from the cipher that is derived.
use Rattle.std.proofs.Common.{◌≡◌, inl, inr, ◌+◌, ◌-◌, ℕ, List, take, drop, sym, ap, subst, ◌∙◌, arith, Some, None}
use Rattle.std.specs.Prelude.{Err, Ok, Result, IfErr, IfOk, Vec}
use Rattle.tink_io.specs.declared.error.Kind.{Kind}
use Rattle.tink_io.specs.declared.error.TinkError.{TinkError}
use Rattle.stream_model.specs.Cut.{numbered}
use Rattle.stream_model.specs.Key.{StreamKey, IsUsable, header_length, nonce_size}
use Rattle.stream_model.specs.Opening.{HasFront, OpeningKey, header_of, opening_key}
use Rattle.tink_streaming_segment.specs.declared.opener.Opener.{Opener}
use Rattle.tink_streaming_segment.specs.declared.segment_traits.SegmentDecrypter.{Ghosts}
use Rattle.tink_streaming_ciphers.specs.StreamSegments.{segment_by}
use Rattle.tink_streaming_ciphers.specs.declared.stream_segment.StreamSegment.{StreamSegment}
use Rattle.tink_streaming_io.specs.Choosing.{HasSizesOf}
use Rattle.tink_streaming_io.specs.Openers.{segment_map}
use Rattle.tink_streaming_keys.specs.Decrypters.{DecrypterMeans, DecrypterRefused, IsDecrypter, IsHeader, OpensBehind}
use Rattle.tink_streaming_keys.specs.StreamingKeys.{Derives, IsDerived, deriving_hash}
use Rattle.tink_streaming_keys.proofs.DerivedKeys.{derived_nonce, derived_overhead, derived_under, underived}
use Rattle.tink_streaming_keys.proofs.NewWriterSteps.{hash_refusal}

-- what is derived with the salt of a header is its cipher
pub decrypter_is : (k : StreamKey) (aad H : List ℕ) (cipher : StreamSegment) → IsUsable k → IsHeader k H → IsDerived k aad (take k.derived (drop 1 H)) cipher → IsDecrypter k aad H cipher
decrypter_is k aad H cipher usable header d =
    let place : header_length k - 7 ≡ k.derived + 1 = omega arith in
    record {
      header_is = header;
      derived = d;
      segments = derived_under k aad H cipher d ∙ ap (λ n. Some (numbered (segment_by cipher) (nonce_size k) (drop n H))) place;
      nonce = derived_nonce k aad (take k.derived (drop 1 H)) cipher d;
      overhead_is = derived_overhead k aad (take k.derived (drop 1 H)) cipher d usable.tag;
    }

hash_is_refused : (k : StreamKey) (H : List ℕ) (kind : Kind) → IsHeader k H → deriving_hash k.hkdf_hash ≡ Err kind → DecrypterRefused k H kind
hash_is_refused k H kind header e = elim (hash_refusal k.hkdf_hash kind e) [
  | inl unknown ↦ subst (DecrypterRefused k H) (sym unknown) (record { header_is = header; hash = subst (λ x. deriving_hash k.hkdf_hash ≡ Err x) unknown e })
  | inr unsupported ↦ subst (DecrypterRefused k H) (sym unsupported) (record { header_is = header; hash = subst (λ x. deriving_hash k.hkdf_hash ≡ Err x) unsupported e })
]

-- what the derivation under a header answers
pub decrypter_means : (k : StreamKey) (aad H : List ℕ) (n : ℕ) (r : Result StreamSegment TinkError) → IsUsable k → IsHeader k H → n ≡ k.derived → Derives k aad (take n (drop 1 H)) r → DecrypterMeans k aad H r
decrypter_means k aad H n (Ok cipher) usable header salt d = decrypter_is k aad H cipher usable header (subst (λ (m : ℕ). IsDerived k aad (take m (drop 1 H)) cipher) salt d)
decrypter_means k aad H n (Err e) usable header salt d = hash_is_refused k H e.kind header d

-- where it is refused no keys are derived
pub none_derived : (k : StreamKey) (aad H salt : List ℕ) (r : Result StreamSegment TinkError) → Derives k aad salt r → IfErr r (λ _. IsHeader k H → (opening_key aad k).seg H ≡ None)
none_derived k aad H salt (Ok cipher) d = tt
none_derived k aad H salt (Err e) d = λ _. underived k aad H e.kind d

-- how the segments behind a front are opened
pub opens_behind : {g : Ghosts StreamSegment} {Z : Type 0} (k : OpeningKey) (nonce : ℕ) (held : List ℕ) (r : Result (Opener StreamSegment g) (Vec ℕ Z)) → IfOk r (λ o. HasFront k held)
    → IfOk r (λ o. k.seg (header_of k held) ≡ Some (segment_map o)) → IfOk r (λ o. HasSizesOf k o.first o.size o.overhead) → IfOk r (λ o. o.nonce_size ≡ nonce)
    → IfOk r (λ o. OpensBehind k nonce held (segment_map o) o.first o.size o.overhead o.nonce_size)
opens_behind k nonce held (Ok o) front map sizes size =
    record { front = front; map = map; first_is = sizes.0; size_is = sizes.1; overhead_is = sizes.2; nonce_is = size }
opens_behind k nonce held (Err memory) front map sizes size = tt
