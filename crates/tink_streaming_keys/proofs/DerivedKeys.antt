-- The cipher of segments under derived keys.
use Rattle.std.proofs.Common.{◌≡◌, ◌+◌, ◌-◌, ℕ, List, take, drop, min, Some, None, refl, sym, ap, ◌∙◌, ◌++◌, length, arith}
use Rattle.std.specs.Prelude.{Ok, Err}
use Rattle.std.proofs.Math.Seq.{take-append_seam}
use Rattle.std.specs.declared.option.Option.{Option}
use Rattle.hash_keys.specs.declared.Hash.{Hash}
use Rattle.hash_keys.specs.declared.Hash.TheVariants.{Sha1, Sha224, Sha256, Sha384, Sha512}
use Rattle.hash_keys.specs.Hash.{digest_size, hkdf_of}
use Rattle.tink_io.specs.declared.error.Kind.{Kind}
use Rattle.stream_model.specs.Key.{IsTag, SegmentKind, StreamKey, derived_by, derived_bytes_of, header_length, nonce_size, nonce_size_of, overhead, overhead_of, segment_at, segment_of}
use Rattle.stream_model.specs.Key.SegmentKind.{CtrHmac, Gcm}
use Rattle.stream_model.specs.Cut.{numbered}
use Rattle.stream_model.specs.Opening.{opening_key, under}
use Rattle.tink_streaming_ciphers.specs.declared.stream_segment.StreamSegment.{StreamSegment}
use Rattle.tink_streaming_ciphers.specs.StreamSegments.{nonce_length_by, overhead_by, segment_by}
use Rattle.tink_streaming_keys.specs.StreamingKeys.{IsDerived, cipher_of, deriving_hash}

-- a hash that is refused derives nothing
pub derives_nothing : (h : Option Hash) (kind : Kind) (main salt aad : List ℕ) (n : ℕ) → deriving_hash h ≡ Err kind → derived_by h main salt aad n ≡ None
derives_nothing None kind main salt aad n e = refl
derives_nothing (Some Sha1) kind main salt aad n e = absurd (cc)
derives_nothing (Some Sha224) kind main salt aad n e = refl
derives_nothing (Some Sha256) kind main salt aad n e = absurd (cc)
derives_nothing (Some Sha384) kind main salt aad n e = absurd (cc)
derives_nothing (Some Sha512) kind main salt aad n e = absurd (cc)

-- the keys that HKDF derives by a hash that is not refused
derives_some : (o : Option Hash) (h : Hash) (main salt aad : List ℕ) (n : ℕ) → deriving_hash o ≡ Ok h → derived_by o main salt aad n ≡ Some (hkdf_of h main salt aad n)
derives_some None h main salt aad n e = absurd (cc)
derives_some (Some Sha1) h main salt aad n e = cc
derives_some (Some Sha224) h main salt aad n e = absurd (cc)
derives_some (Some Sha256) h main salt aad n e = cc
derives_some (Some Sha384) h main salt aad n e = cc
derives_some (Some Sha512) h main salt aad n e = cc

-- the cipher under these keys is the derived one
pub derived_with : (k : StreamKey) (aad salt keys out : List ℕ) (h : Hash) (cipher : StreamSegment) → deriving_hash k.hkdf_hash ≡ Ok h → out ≡ hkdf_of h k.main salt aad (derived_bytes_of k.kind k.derived) → keys ≡ out
    → cipher ≡ cipher_of k.kind k.derived keys → IsDerived k aad salt cipher
derived_with k aad salt keys out h cipher e made same is = record {
  keys = keys;
  keys_are = derives_some k.hkdf_hash h k.main salt aad (derived_bytes_of k.kind k.derived) e ∙ ap Some (sym (same ∙ made));
  cipher_is = is;
}

-- the front of what was filled in is that
pub front_taken : (n : ℕ) (xs ys : List ℕ) → length xs ≡ n → take n (xs ++ ys) ≡ xs
front_taken n xs ys e = ap (λ m. take m (xs ++ ys)) (sym e) ∙ take-append_seam xs ys

-- the derived cipher's segments are the key's, with its overhead and its nonces
pub segments_are : (kind : SegmentKind) (derived : ℕ) (keys : List ℕ) → segment_by (cipher_of kind derived keys) ≡ segment_of kind derived keys
segments_are (CtrHmac hash tag) derived keys = refl
segments_are Gcm derived keys = refl

pub overhead_is : (kind : SegmentKind) (derived : ℕ) (keys : List ℕ) → IsTag kind → overhead_by (cipher_of kind derived keys) ≡ overhead_of kind
overhead_is (CtrHmac hash tag) derived keys fits = let tag_is : min tag (digest_size hash) ≡ tag = omega (arith, fits) in tag_is
overhead_is Gcm derived keys fits = refl

pub nonce_is : (kind : SegmentKind) (derived : ℕ) (keys : List ℕ) → nonce_length_by (cipher_of kind derived keys) ≡ nonce_size_of kind
nonce_is (CtrHmac hash tag) derived keys = refl
nonce_is Gcm derived keys = refl

-- what a derived cipher makes of a text, its overhead and the length of its nonces
module _ (k : StreamKey) (aad salt : List ℕ) (cipher : StreamSegment) (d : IsDerived k aad salt cipher) where
  pub derived_segments : segment_by cipher ≡ segment_of k.kind k.derived d.keys
  derived_segments = ap segment_by d.cipher_is ∙ segments_are k.kind k.derived d.keys

  pub derived_overhead : IsTag k.kind → overhead_by cipher ≡ overhead k
  derived_overhead tag = ap overhead_by d.cipher_is ∙ overhead_is k.kind k.derived d.keys tag

  pub derived_nonce : nonce_length_by cipher ≡ nonce_size k
  derived_nonce = ap nonce_length_by d.cipher_is ∙ nonce_is k.kind k.derived d.keys

-- the segments of a cipher that is derived under a header are those that open its stream
pub derived_under : (k : StreamKey) (aad H : List ℕ) (cipher : StreamSegment) → IsDerived k aad (take k.derived (drop 1 H)) cipher
    → (opening_key aad k).seg H ≡ Some (numbered (segment_by cipher) (nonce_size k) (drop (header_length k - 7) H))
derived_under k aad H cipher d =
    let place : k.derived + 1 ≡ header_length k - 7 = omega arith in
    ap (λ o. under o (λ keys. segment_at k keys (drop (k.derived + 1) H))) d.keys_are
    ∙ ap (λ s. Some (numbered s (nonce_size k) (drop (k.derived + 1) H))) (sym (derived_segments k aad (take k.derived (drop 1 H)) cipher d))
    ∙ ap (λ n. Some (numbered (segment_by cipher) (nonce_size k) (drop n H))) place

-- no keys are derived under a header by a hash that is refused
pub underived : (k : StreamKey) (aad H : List ℕ) (kind : Kind) → deriving_hash k.hkdf_hash ≡ Err kind → (opening_key aad k).seg H ≡ None
underived k aad H kind e =
    ap (λ o. under o (λ keys. segment_at k keys (drop (k.derived + 1) H))) (derives_nothing k.hkdf_hash kind k.main (take k.derived (drop 1 H)) aad (derived_bytes_of k.kind k.derived) e)
