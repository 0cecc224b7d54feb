-- Segments by one of two ciphers: what they are, how much longer than their texts, and that each has one text.
use Rattle.std.specs.Prelude.{◌≡◌, ◌+◌, ℕ, List, length}
use Rattle.stream_model.specs.Key.{gcm_segment}
use Rattle.stream_model.proofs.SegmentFacts.{ctr_hmac_segment_same, gcm_segment_same, length-ctr_hmac_segment, length-gcm_segment}
use Rattle.tink_streaming_ciphers.specs.SegmentKeys.{overhead_under, segment_under}
use Rattle.tink_streaming_ciphers.specs.declared.stream_segment.StreamSegment.{StreamSegment}
use Rattle.tink_streaming_ciphers.specs.declared.stream_segment.StreamSegment.TheVariants.{CtrHmac, Gcm}

-- the segment of a text under a nonce
abbrev pub segment_by : StreamSegment → List ℕ → List ℕ → List ℕ
segment_by (CtrHmac keys) = segment_under keys
segment_by (Gcm key) = gcm_segment key

-- the bytes that a segment has more than its text
abbrev pub overhead_by : StreamSegment → ℕ
overhead_by (CtrHmac keys) = overhead_under keys
overhead_by (Gcm key) = 16

abbrev pub nonce_length_by : StreamSegment → ℕ
nonce_length_by (CtrHmac keys) = 16
nonce_length_by (Gcm key) = 12

pub length-segment_by : (s : StreamSegment) (n t : List ℕ) → length (segment_by s n t) ≡ length t + overhead_by s
length-segment_by (CtrHmac keys) n t = length-ctr_hmac_segment keys.hash keys.tag keys.aes_key keys.hmac_key n t
length-segment_by (Gcm key) n t = length-gcm_segment key n t

pub segment_by_same : (s : StreamSegment) (n t u : List ℕ) → segment_by s n t ≡ segment_by s n u → t ≡ u
segment_by_same (CtrHmac keys) n t u e = ctr_hmac_segment_same keys.hash keys.tag keys.aes_key keys.hmac_key n t u e
segment_by_same (Gcm key) n t u e = gcm_segment_same key n t u e
