-- One segment: its length, its parts, and that it has one text.
use Rattle.std.proofs.Common.{◌≡◌, ◌≤◌, ◌+◌, ◌-◌, ℕ, List, [], ◌++◌, length, take, drop, min, refl, sym, ap, ◌∙◌, arith, length-append}
use Rattle.std.proofs.lemmas.List.{length-take, take-append-drop}
use Rattle.std.proofs.Math.Seq.{take-append_seam, drop-append_seam}
use Rattle.std.specs.Int.{w32, w64}
use Rattle.hash_keys.specs.declared.Hash.{Hash}
use Rattle.hash_keys.specs.Hash.{digest_size, hmac_of}
use Rattle.hash_keys.proofs.Lengths.{length-hmac_of}
use Rattle.standards.specs.AesKeys.{aes}
use Rattle.standards.specs.Counter.{ctr, plus_be}
use Rattle.standards.specs.Gcm.{first_block, gcm, gcm_tag, gcm_text}
use Rattle.standards.proofs.Keystream.{ctr_same, ctr_twice, length-ctr}
use Rattle.standards.proofs.Lengths.{length-gcm}
use Rattle.stream_model.specs.Key.{ctr_hmac_segment, gcm_segment}

module _ (hash : Hash) (tag : ℕ) (aes_key hmac_key nonce : List ℕ) where
  abbrev seg : List ℕ → List ℕ
  seg text = ctr_hmac_segment hash tag aes_key hmac_key nonce text

  abbrev covered : List ℕ → List ℕ
  covered text = ctr (aes aes_key) (plus_be w64) nonce text

  abbrev tag_of : List ℕ → List ℕ
  tag_of ciphertext = take tag (hmac_of hash hmac_key (nonce ++ ciphertext))

  length-tag : (ciphertext : List ℕ) → length (tag_of ciphertext) ≡ min tag (digest_size hash)
  length-tag ciphertext = length-take tag _ ∙ ap (min tag) (length-hmac_of hash hmac_key _)

  -- a segment is longer than its text by the tag, of which a digest has no more
  pub length-ctr_hmac_segment : (text : List ℕ) → length (seg text) ≡ length text + min tag (digest_size hash)
  length-ctr_hmac_segment text =
      length-append (covered text) (tag_of (covered text)) ∙ ap (λ n. n + length (tag_of (covered text))) (length-ctr _ _ _ text) ∙ ap (λ n. length text + n) (length-tag (covered text))

  -- a segment has one text
  pub ctr_hmac_segment_same : (text other : List ℕ) → seg text ≡ seg other → text ≡ other
  ctr_hmac_segment_same text other e =
      let lengths : length text ≡ length other = omega (arith, length-ctr_hmac_segment text, length-ctr_hmac_segment other, ap length e) in
      let size : length (covered text) ≡ length (covered other) = length-ctr _ _ _ text ∙ lengths ∙ sym (length-ctr _ _ _ other) in
      ctr_same (aes aes_key) (plus_be w64) nonce text other
      (sym (take-append_seam (covered text) (tag_of (covered text))) ∙ ap (take (length (covered text))) e ∙ ap (λ n. take n (seg other)) size ∙ take-append_seam (covered other) (tag_of (covered other)))

  -- a ciphertext and its tag are the segment of the ciphertext in counter mode
  pub segment_of_parts : (segment text : List ℕ) (n : ℕ) → text ≡ covered (take n segment) → drop n segment ≡ tag_of (take n segment) → seg text ≡ segment
  segment_of_parts segment text n t g =
      let front : covered text ≡ take n segment = ap covered t ∙ ctr_twice _ _ _ (take n segment) in
      ap (λ c. c ++ tag_of c) front ∙ ap (λ x. take n segment ++ x) (sym g) ∙ take-append-drop n segment

  -- the last bytes of a segment are the tag of those before them
  pub tag_of_segment : (segment text : List ℕ) → tag ≤ digest_size hash → seg text ≡ segment → drop (length segment - tag) segment ≡ tag_of (take (length segment - tag) segment)
  tag_of_segment segment text fits e =
      let same : length (covered text) ≡ length text = length-ctr _ _ _ text in
      let size : length segment - tag ≡ length (covered text) = omega (arith, length-ctr_hmac_segment text, ap length e) in
      let front : take (length segment - tag) segment ≡ covered text = ap (λ n. take n segment) size ∙ ap (take (length (covered text))) (sym e) ∙ take-append_seam (covered text) (tag_of (covered text)) in
      ap (λ n. drop n segment) size ∙ ap (drop (length (covered text))) (sym e) ∙ drop-append_seam (covered text) (tag_of (covered text)) ∙ ap tag_of (sym front)

module _ (aes_key nonce : List ℕ) where
  abbrev covered_by_gcm : List ℕ → List ℕ
  covered_by_gcm text = gcm_text (aes aes_key) nonce text

  abbrev gcm_tag_of : List ℕ → List ℕ
  gcm_tag_of text = gcm_tag (aes aes_key) nonce [] (covered_by_gcm text)

  -- a segment by GCM is longer than its text by the tag
  pub length-gcm_segment : (text : List ℕ) → length (gcm_segment aes_key nonce text) ≡ length text + 16
  length-gcm_segment text = length-gcm (aes aes_key) nonce [] text

  split_gcm : (text : List ℕ) → gcm_segment aes_key nonce text ≡ covered_by_gcm text ++ gcm_tag_of text
  unfolding gcm
  split_gcm text = refl

  -- and has one text
  pub gcm_segment_same : (text other : List ℕ) → gcm_segment aes_key nonce text ≡ gcm_segment aes_key nonce other → text ≡ other
  gcm_segment_same text other e =
      let lengths : length text ≡ length other = omega (arith, length-gcm_segment text, length-gcm_segment other, ap length e) in
      let size : length (covered_by_gcm text) ≡ length (covered_by_gcm other) = length-ctr _ _ _ text ∙ lengths ∙ sym (length-ctr _ _ _ other) in
      let parts : covered_by_gcm text ++ gcm_tag_of text ≡ covered_by_gcm other ++ gcm_tag_of other = sym (split_gcm text) ∙ e ∙ split_gcm other in
      ctr_same (aes aes_key) (plus_be w32) (plus_be w32 (first_block nonce) 1) text other
      (sym (take-append_seam (covered_by_gcm text) (gcm_tag_of text)) ∙ ap (take (length (covered_by_gcm text))) parts
      ∙ ap (λ n. take n (covered_by_gcm other ++ gcm_tag_of other)) size ∙ take-append_seam (covered_by_gcm other) (gcm_tag_of other))
