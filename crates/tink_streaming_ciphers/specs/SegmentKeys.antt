-- What a cipher of segments in counter mode holds, and the segments that it makes.
use Rattle.std.specs.Prelude.{ℕ, List, min}
use Rattle.hash_keys.specs.declared.Hash.{Hash}
use Rattle.hash_keys.specs.Hash.{digest_size}
use Rattle.stream_model.specs.Key.{ctr_hmac_segment}

-- the keys, the hash of the tag and the tag's bytes
pub record SegmentKeys : Type 0 where
  pub aes_key : List ℕ
  pub hmac_key : List ℕ
  pub hash : Hash
  pub tag : ℕ

-- the segment of a text under a nonce
abbrev pub segment_under : SegmentKeys → List ℕ → List ℕ → List ℕ
segment_under s = ctr_hmac_segment s.hash s.tag s.aes_key s.hmac_key

-- the bytes that a segment has more than its text: the tag's, of which a digest has no more
abbrev pub overhead_under : SegmentKeys → ℕ
overhead_under s = min s.tag (digest_size s.hash)
