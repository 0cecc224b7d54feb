-- Opening a segment: which tag it must end in, and to what text.
use Rattle.std.proofs.Common.{◌≡◌, ◌≤◌, ◌<◌, ◌-◌, ℕ, List, ◌++◌, length, take, drop, sym, ap, ◌∙◌, arith, length-drop}
use Rattle.std.proofs.lemmas.List.{take_all}
use Rattle.std.specs.Int.{w64}
use Rattle.hash_keys.specs.Hash.{digest_size, hmac_of}
use Rattle.standards.specs.AesKeys.{aes}
use Rattle.standards.specs.Counter.{ctr, plus_be}
use Rattle.stream_model.proofs.SegmentFacts.{length-ctr_hmac_segment, segment_of_parts, tag_of_segment}
use Rattle.tink_streaming_ciphers.specs.SegmentKeys.{SegmentKeys, segment_under}

-- the bytes behind the first n, as a range to the end
rest_of : (n : ℕ) (xs : List ℕ) → take (length xs - n) (drop n xs) ≡ drop n xs
rest_of n xs = take_all (length xs - n) (drop n xs) (omega (arith, length-drop n xs))

module _ (s : SegmentKeys) (nonce segment : List ℕ) where
  abbrev front : List ℕ
  front = take (length segment - s.tag) segment

  abbrev back : List ℕ
  back = take (length segment - (length segment - s.tag)) (drop (length segment - s.tag) segment)

  -- a segment is no shorter than its tag
  pub too_short : (text : List ℕ) → s.tag ≤ digest_size s.hash → length segment < s.tag → segment_under s nonce text ≡ segment → ⊥
  too_short text fits short e = omega (arith, length-ctr_hmac_segment s.hash s.tag s.aes_key s.hmac_key nonce text, ap length e)

  -- a segment ends in its tag
  pub ends_in_tag : (tag text : List ℕ) → s.tag ≤ digest_size s.hash → take s.tag tag ≡ take s.tag (hmac_of s.hash s.hmac_key (nonce ++ front)) → segment_under s nonce text ≡ segment
      → back ≡ take s.tag tag
  ends_in_tag tag text fits t e = rest_of (length segment - s.tag) segment ∙ tag_of_segment s.hash s.tag s.aes_key s.hmac_key nonce segment text fits e ∙ sym t

  -- with that tag it is the segment of its ciphertext in counter mode
  pub opened : (tag text block : List ℕ) → take s.tag tag ≡ take s.tag (hmac_of s.hash s.hmac_key (nonce ++ front)) → back ≡ take s.tag tag → block ≡ nonce
      → text ≡ ctr (aes s.aes_key) (plus_be w64) block front → segment_under s nonce text ≡ segment
  opened tag text block t same b e =
      segment_of_parts s.hash s.tag s.aes_key s.hmac_key nonce segment text (length segment - s.tag)
      (e ∙ ap (λ n. ctr (aes s.aes_key) (plus_be w64) n front) b)
      (sym (rest_of (length segment - s.tag) segment) ∙ same ∙ t)
