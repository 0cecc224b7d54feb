-- A core's keystream is counter mode (SP 800-38A, 2001, 6.5), on blocks of 16 bytes.
use Rattle.std.proofs.Common.{◌≡◌, ◌<◌, ◌≤◌, ℕ, zero, suc, ◌+◌, ◌/◌, ◌%◌, List, [], ◌∷◌, length, get_or, bit_xor, refl, ap, ap₂, sym, ◌*◌, ◌-◌, ◌∙◌, arith}
use Rattle.std.proofs.lemmas.Grind.{same_number_lists}
use Rattle.std.specs.Int.{Width, byte_len, w32}
use Rattle.standards.specs.Counter.{ctr, plus_be, plus_le}
use Rattle.standards.specs.Gcm.{first_block, gcm_text}
use Rattle.standards.specs.GcmSiv.{counter_block, encryption_key, gcm_siv_text}
use Rattle.standards.proofs.CounterFacts.{length-plus_be, length-plus_le}
use Rattle.standards.proofs.Keystream.{get_or-ctr, length-ctr}
use Rattle.cipher_stream.specs.ByteStream.{bytes_from, to_come}
use Rattle.cipher_stream.specs.Keystream.{Keystream, bytes_of, xored}
use Rattle.ctr.specs.Counter.{counter_stream}
use Rattle.ctr.specs.FlavorLaws.{plus-plus, plus_repeats}
use Rattle.ctr.specs.Flavors.{End, last, first, field_size, plus}

length-xored : (s : ℕ → ℕ) (xs : List ℕ) → length (xored s xs) ≡ length xs
length-xored s [] = refl
length-xored s (x ∷ xs) = ap suc (length-xored (λ j. s (1 + j)) xs)

get_or-xored : (s : ℕ → ℕ) (xs : List ℕ) (k : ℕ) → k < length xs → get_or (xored s xs) k 0 ≡ bit_xor (get_or xs k 0) (s k)
get_or-xored s [] k h = absurd (omega arith)
get_or-xored s (x ∷ xs) zero h = refl
get_or-xored s (x ∷ xs) (suc k) h = let e : 1 + k ≡ suc k = omega arith in get_or-xored (λ j. s (1 + j)) xs k (omega arith) ∙ ap (λ j. bit_xor (get_or xs k 0) (s j)) e

-- a text under blocks that count as those of `add` do, from `block` on
by_blocks : (E : List ℕ → List ℕ) (add : List ℕ → ℕ → List ℕ) (block text : List ℕ) (s : ℕ → ℕ) → ((i : ℕ) → length (E (add block i)) ≡ 16)
    → ((k : ℕ) → s k ≡ get_or (E (add block (k / 16))) (k % 16) 0) → xored s text ≡ ctr E add block text
by_blocks E add block text s size same =
    same_number_lists (xored s text) (ctr E add block text) (length-xored s text ∙ sym (length-ctr E add block text))
    (λ k h. let within : k < length text = omega (arith, length-xored s text) in get_or-xored s text k within ∙ ap (bit_xor (get_or text k 0)) (same k) ∙ sym (get_or-ctr E add block text k size within))

module _ (end : End) (w : Width) (E : List ℕ → List ℕ) (nonce text : List ℕ) where
  -- the text under a core that is at block 0
  pub xored_from_0 : ((i : ℕ) → length (E (plus end w nonce i)) ≡ 16) → xored (bytes_of 16 (counter_stream E (plus end w) nonce (field_size w) 0)) text ≡ ctr E (plus end w) nonce text
  xored_from_0 size =
      by_blocks E (plus end w) nonce text (bytes_of 16 (counter_stream E (plus end w) nonce (field_size w) 0)) size
      (λ k. let e : 0 + k / 16 ≡ k / 16 = omega arith in ap (λ b. get_or (E b) (k % 16) 0) (plus_repeats end w nonce (0 + k / 16) ∙ ap (plus end w nonce) e))

  -- .. and at block p
  pub xored_from : (p : ℕ) → ((i : ℕ) → length (E (plus end w (plus end w nonce p) i)) ≡ 16)
      → xored (bytes_of 16 (counter_stream E (plus end w) nonce (field_size w) p)) text ≡ ctr E (plus end w) (plus end w nonce p) text
  xored_from p size =
      by_blocks E (plus end w) (plus end w nonce p) text (bytes_of 16 (counter_stream E (plus end w) nonce (field_size w) p)) size
      (λ k. ap (λ b. get_or (E b) (k % 16) 0) (plus_repeats end w nonce (p + k / 16) ∙ sym (plus-plus end w nonce p (k / 16))))

-- ---- in the words of the standards
-- a counter in the last bytes, as many as the width has
pub xored_be : (w : Width) (E : List ℕ → List ℕ) (nonce text : List ℕ) → ((i : ℕ) → length (E (plus_be w nonce i)) ≡ 16)
    → xored (bytes_of 16 (counter_stream E (plus last w) nonce (field_size w) 0)) text ≡ ctr E (plus_be w) nonce text
unfolding plus
xored_be w E nonce text size = xored_from_0 last w E nonce text size

-- and in the first, as AES_CTR of GCM-SIV has it (RFC 8452, 4)
pub xored_le : (w : Width) (E : List ℕ → List ℕ) (nonce text : List ℕ) → ((i : ℕ) → length (E (plus_le w nonce i)) ≡ 16)
    → xored (bytes_of 16 (counter_stream E (plus first w) nonce (field_size w) 0)) text ≡ ctr E (plus_le w) nonce text
unfolding plus
xored_le w E nonce text size = xored_from_0 first w E nonce text size

-- GCM's text: a core over J 0 that is at block 1 (SP 800-38D, 7.1)
pub xored_gcm : (E : List ℕ → List ℕ) (nonce text : List ℕ) → ((i : ℕ) → length (E (plus_be w32 (plus_be w32 (first_block nonce) 1) i)) ≡ 16)
    → xored (bytes_of 16 (counter_stream E (plus last w32) (first_block nonce) (field_size w32) 1)) text ≡ gcm_text E nonce text
unfolding plus
xored_gcm E nonce text size = xored_from last w32 E (first_block nonce) text 1 size

-- GCM-SIV's text: a core over the counter block of the tag (RFC 8452, 4)
pub xored_gcm_siv : (cipher : List ℕ → List ℕ → List ℕ) (key nonce tag text : List ℕ) → ((i : ℕ) → length (cipher (encryption_key cipher key nonce) (plus_le w32 (counter_block tag) i)) ≡ 16)
    → xored (bytes_of 16 (counter_stream (cipher (encryption_key cipher key nonce)) (plus first w32) (counter_block tag) (field_size w32) 0)) text ≡ gcm_siv_text cipher key nonce tag text
unfolding gcm_siv_text
xored_gcm_siv cipher key nonce tag text size = xored_le w32 (cipher (encryption_key cipher key nonce)) (counter_block tag) text size

-- a cipher over a core with no rest applies the core's bytes
pub xored_buffered : (k : Keystream) (text : List ℕ) → xored (to_come (bytes_from 16 k 0)) text ≡ xored (bytes_of 16 k) text
xored_buffered k text =
    same_number_lists (xored (to_come (bytes_from 16 k 0)) text) (xored (bytes_of 16 k) text) (length-xored (to_come (bytes_from 16 k 0)) text ∙ sym (length-xored (bytes_of 16 k) text))
    (λ j h.
    let within : j < length text = omega (arith, length-xored (to_come (bytes_from 16 k 0)) text) in
    let place = k.position * 16 + k.period * 16 * 0 + j - 0 in
    let block : place / 16 ≡ k.position + j / 16 = omega arith in
    let byte : place % 16 ≡ j % 16 = omega arith in
    get_or-xored (to_come (bytes_from 16 k 0)) text j within
    ∙ ap (bit_xor (get_or text j 0)) (ap₂ (λ b i. get_or (k.block_at (b % k.period)) i 0) block byte)
    ∙ sym (get_or-xored (bytes_of 16 k) text j within))

-- The same by a cipher over a core with no rest, of a block cipher under which blocks keep their size.
module _ (w : Width) (E : List ℕ → List ℕ) (nonce text : List ℕ) (sized : (block : List ℕ) → length block ≡ 16 → length (E block) ≡ 16)
    (fits : byte_len w ≤ 16) (long : length nonce ≡ 16) where
  pub buffered_be : xored (to_come (bytes_from 16 (counter_stream E (plus last w) nonce (field_size w) 0) 0)) text ≡ ctr E (plus_be w) nonce text
  buffered_be =
      xored_buffered (counter_stream E (plus last w) nonce (field_size w) 0) text
      ∙ xored_be w E nonce text (λ i. sized (plus_be w nonce i) (length-plus_be w nonce i (omega (arith, fits, long)) ∙ long))

  pub buffered_le : xored (to_come (bytes_from 16 (counter_stream E (plus first w) nonce (field_size w) 0) 0)) text ≡ ctr E (plus_le w) nonce text
  buffered_le =
      xored_buffered (counter_stream E (plus first w) nonce (field_size w) 0) text
      ∙ xored_le w E nonce text (λ i. sized (plus_le w nonce i) (length-plus_le w nonce i (omega (arith, fits, long)) ∙ long))
