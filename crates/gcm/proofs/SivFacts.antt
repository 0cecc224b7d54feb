-- GCM-SIV by ciphertext and tag. E is the one-block map under the message-encryption key.
use Rattle.std.proofs.Common.{◌≡◌, ◌+◌, ◌-◌, ℕ, List, ◌++◌, length, take, drop, ap, ap₂, refl, sym, ◌∙◌, arith, length-append, bit_and}
use Rattle.std.specs.Prelude.{set, slice_index}
use Rattle.std.proofs.lemmas.List.{drop_at, length-set, take-append-drop, take_at}
use Rattle.std.specs.Int.{w32}
use Rattle.standards.specs.Counter.{ctr, plus_le}
use Rattle.standards.specs.GcmSiv.{authentication_key, counter_block, encryption_key, gcm_siv, gcm_siv_tag, gcm_siv_text, tag_input}
use Rattle.standards.specs.Lists.{xor_bytes}
use Rattle.standards.specs.Polyval.{polyval}
use Rattle.standards.proofs.Keystream.{ctr_twice, length-ctr}
use Rattle.standards.proofs.Lengths.{length-polyval}
use Rattle.standards.proofs.ListFacts.{length-xor_bytes}
use borrow.Rule.Slice.PartMut.{put_mid}
use Rattle.gcm.specs.Siv.{KeepsBlocks, sealed_under, tag_under}
use Rattle.gcm.proofs.Parts.{written}

-- the standard's encryption, by the steps of one message
pub gcm_siv_is : (cipher : List ℕ → List ℕ → List ℕ) (key nonce aad text : List ℕ)
    → gcm_siv cipher key nonce aad text ≡ sealed_under (cipher (encryption_key cipher key nonce)) (authentication_key (cipher key) nonce) nonce aad text
unfolding gcm_siv gcm_siv_tag gcm_siv_text tag_input sealed_under tag_under
gcm_siv_is cipher key nonce aad text = refl

-- a tag has 16 bytes
pub length-tag_under : (E : List ℕ → List ℕ) (key nonce aad text : List ℕ) → KeepsBlocks E → length (tag_under E (polyval key aad text) nonce) ≡ 16
unfolding tag_under
length-tag_under E key nonce aad text size =
    let s = xor_bytes (polyval key aad text) nonce in
    size (set s 15 (bit_and (slice_index s 15) 0x7f)) (length-set s 15 _ ∙ length-xor_bytes (polyval key aad text) nonce ∙ length-polyval key aad text)

-- and what is sealed is 16 bytes longer than its text
pub length-sealed_under : (E : List ℕ → List ℕ) (key nonce aad text : List ℕ) → KeepsBlocks E → length (sealed_under E key nonce aad text) ≡ length text + 16
unfolding sealed_under
length-sealed_under E key nonce aad text size =
    let tag = tag_under E (polyval key aad text) nonce in
    length-append (ctr E (plus_le w32) (counter_block tag) text) tag
    ∙ ap₂ (λ m n. m + n) (length-ctr E (plus_le w32) (counter_block tag) text) (length-tag_under E key nonce aad text size)

-- a text copied, changed in its place, and its tag behind it
pub sealed_in_place : (E : List ℕ → List ℕ) (key nonce aad text out a b sum tag block t : List ℕ) → let n = length text in
    a ≡ text → sum ≡ polyval key aad text → tag ≡ tag_under E sum nonce → block ≡ counter_block tag → b ≡ ctr E (plus_le w32) block (take n (a ++ drop n out)) → t ≡ tag
    → put_mid n (length (b ++ drop n (a ++ drop n out)) - n) (b ++ drop n (a ++ drop n out)) t ≡ sealed_under E key nonce aad text
unfolding sealed_under
sealed_in_place E key nonce aad text out a b sum tag block t a_is sum_is tag_is block_is b_is t_is =
    let n = length text in
    let xs = a ++ drop n out in
    let front : take n xs ≡ text = take_at a (drop n out) n (ap length a_is) ∙ a_is in
    let tagged : tag ≡ tag_under E (polyval key aad text) nonce = tag_is ∙ ap (λ s. tag_under E s nonce) sum_is in
    let cipher : b ≡ ctr E (plus_le w32) (counter_block tag) text = b_is ∙ ap₂ (ctr E (plus_le w32)) block_is front in
    let size : length b ≡ n = ap length cipher ∙ length-ctr E (plus_le w32) (counter_block tag) text in
    written n xs b t size ∙ ap₂ (λ u v. u ++ v) cipher t_is ∙ ap (λ g. ctr E (plus_le w32) (counter_block g) text ++ g) tagged

-- what is sealed is cut into the ciphertext and the tag of its text
cut : (E : List ℕ → List ℕ) (key nonce aad text sealed : List ℕ) (n : ℕ) → KeepsBlocks E → n ≡ length sealed - 16 → sealed_under E key nonce aad text ≡ sealed
    → let tag = tag_under E (polyval key aad text) nonce in (take n sealed ≡ ctr E (plus_le w32) (counter_block tag) text) × (drop n sealed ≡ tag)
unfolding sealed_under
cut E key nonce aad text sealed n size n_is e =
    let tag = tag_under E (polyval key aad text) nonce in
    let cipher = ctr E (plus_le w32) (counter_block tag) text in
    let long : length cipher ≡ n = omega (arith, ap length e, length-append cipher tag, length-tag_under E key nonce aad text size) in (
      ap (take n) (sym e) ∙ take_at cipher tag n long,
      ap (drop n) (sym e) ∙ drop_at cipher tag n long,
    )

-- the text is the front in counter mode under the tag
pub text_of_sealed : (E : List ℕ → List ℕ) (key nonce aad text sealed : List ℕ) (n : ℕ) → KeepsBlocks E → n ≡ length sealed - 16 → sealed_under E key nonce aad text ≡ sealed
    → ctr E (plus_le w32) (counter_block (drop n sealed)) (take n sealed) ≡ text
text_of_sealed E key nonce aad text sealed n size n_is e =
    let parts = cut E key nonce aad text sealed n size n_is e in
    ap₂ (λ g c. ctr E (plus_le w32) (counter_block g) c) parts.1 parts.0 ∙ ctr_twice E (plus_le w32) (counter_block (tag_under E (polyval key aad text) nonce)) text

-- what is the encryption of a text ends in the tag of that text
pub tag_of_sealed : (E : List ℕ → List ℕ) (key nonce aad text sealed : List ℕ) (n : ℕ) → KeepsBlocks E → n ≡ length sealed - 16 → sealed_under E key nonce aad text ≡ sealed
    → tag_under E (polyval key aad (ctr E (plus_le w32) (counter_block (drop n sealed)) (take n sealed))) nonce ≡ drop n sealed
tag_of_sealed E key nonce aad text sealed n size n_is e =
    ap (λ s. tag_under E (polyval key aad s) nonce) (text_of_sealed E key nonce aad text sealed n size n_is e) ∙ sym (cut E key nonce aad text sealed n size n_is e).1

-- where the tags agree, that text is sealed so
pub opened : (E : List ℕ → List ℕ) (key nonce aad sealed text : List ℕ) (n : ℕ) → text ≡ ctr E (plus_le w32) (counter_block (drop n sealed)) (take n sealed)
    → tag_under E (polyval key aad text) nonce ≡ drop n sealed → sealed_under E key nonce aad text ≡ sealed
unfolding sealed_under
opened E key nonce aad sealed text n text_is same =
    let block = counter_block (drop n sealed) in
    ap (λ g. ctr E (plus_le w32) (counter_block g) text ++ g) same
    ∙ ap (λ c. c ++ drop n sealed) (ap (ctr E (plus_le w32) block) text_is ∙ ctr_twice E (plus_le w32) block (take n sealed))
    ∙ take-append-drop n sealed
