-- Segments under a key: their lengths, and that a segment has one text.
use Rattle.std.proofs.Common.{◌≡◌, ◌≤◌, ◌<◌, ◌+◌, ℕ, Bool, List, length, take, drop, subst, arith, Some, None}
use Rattle.std.specs.declared.option.Option.{Option}
use Rattle.stream_model.proofs.SegmentFacts.{length-ctr_hmac_segment, ctr_hmac_segment_same, length-gcm_segment, gcm_segment_same}
use Rattle.stream_model.specs.Cut.{nonce}
use Rattle.stream_model.specs.Key.{StreamKey, SegmentKind, IsTag, IsUsable, overhead_of, segment_of, segment_at, keys_of, overhead, nonce_size}
use Rattle.stream_model.specs.Key.SegmentKind.{CtrHmac, Gcm}
use Rattle.stream_model.specs.Opening.{OpeningKey, opening_key, under}

pub length-segment_of : (kind : SegmentKind) (derived : ℕ) (keys n text : List ℕ) → IsTag kind → length (segment_of kind derived keys n text) ≡ length text + overhead_of kind
length-segment_of (CtrHmac h t) derived keys n text tag = omega (arith, length-ctr_hmac_segment h t (take derived keys) (drop derived keys) n text, tag.1)
length-segment_of Gcm derived keys n text tag = length-gcm_segment keys n text

pub segment_of_same : (kind : SegmentKind) (derived : ℕ) (keys n x y : List ℕ) → IsTag kind → segment_of kind derived keys n x ≡ segment_of kind derived keys n y → x ≡ y
segment_of_same (CtrHmac h t) derived keys n x y tag e = ctr_hmac_segment_same h t (take derived keys) (drop derived keys) n x y e
segment_of_same Gcm derived keys n x y tag e = gcm_segment_same keys n x y e

-- what holds of each map that a key gives
pub record IsLawful (o : ℕ) (seg : ℕ → Bool → List ℕ → List ℕ) : Type 0 where
  pub longer : (i : ℕ) (last : Bool) (t : List ℕ) → length (seg i last t) ≡ length t + o
  pub one_text : (i : ℕ) (last : Bool) (t u : List ℕ) → seg i last t ≡ seg i last u → t ≡ u

pub lawful_at : (k : StreamKey) (keys prefix : List ℕ) → IsTag k.kind → IsLawful (overhead k) (segment_at k keys prefix)
lawful_at k keys prefix tag = record {
  longer = λ i last t. length-segment_of k.kind k.derived keys (nonce (nonce_size k) prefix i last) t tag;
  one_text = λ i last t u e. segment_of_same k.kind k.derived keys (nonce (nonce_size k) prefix i last) t u tag e;
}

-- a key as opening sees it, with room for text and lawful maps
pub record CanOpen (k : OpeningKey) : Type 0 where
  pub room : k.overhead < k.first
  pub fits : k.header + k.first ≤ k.size
  pub some : 0 < k.overhead
  pub lawful : (H : List ℕ) (seg : ℕ → Bool → List ℕ → List ℕ) → k.seg H ≡ Some seg → IsLawful k.overhead seg

overhead_some : (kind : SegmentKind) → IsTag kind → 0 < overhead_of kind
overhead_some (CtrHmac h t) tag = omega (arith, tag.0)
overhead_some Gcm tag = omega arith

lawful_under : (k : StreamKey) (prefix : List ℕ) (o : Option (List ℕ)) (seg : ℕ → Bool → List ℕ → List ℕ) → IsTag k.kind → under o (λ keys. segment_at k keys prefix) ≡ Some seg → IsLawful (overhead k) seg
lawful_under k prefix None seg tag e = absurd (cc)
lawful_under k prefix (Some keys) seg tag e =
    let same : segment_at k keys prefix ≡ seg = cc in
    subst (IsLawful (overhead k)) same (lawful_at k keys prefix tag)

pub opening_key_lawful : (aad : List ℕ) (k : StreamKey) → IsUsable k → CanOpen (opening_key aad k)
opening_key_lawful aad k u = record {
  room = omega (arith, u.room);
  fits = omega (arith, u.room);
  some = overhead_some k.kind u.tag;
  lawful = λ H seg e. lawful_under k (drop (k.derived + 1) H) (keys_of k aad (take k.derived (drop 1 H))) seg u.tag e;
}
