-- What a mode sealed, its key stream opens: the text is had back from the ciphertext, and no two texts are sealed alike.
use Rattle.std.proofs.Common.{◌≡◌, ℕ, List, length, take, drop, ap, sym, ◌∙◌, arith}
use Rattle.std.proofs.lemmas.List.{drop_at, take_at}
use Rattle.std.specs.Int.{w32, w128}
use Rattle.standards.specs.Counter.{ctr, plus_be, plus_le}
use Rattle.standards.specs.Gcm.{first_block, gcm, gcm_tag, gcm_text}
use Rattle.standards.specs.GcmSiv.{counter_block, encryption_key, gcm_siv, gcm_siv_tag, gcm_siv_text}
use Rattle.standards.specs.Siv.{s2v, siv, siv_counter}
use Rattle.standards.proofs.Keystream.{ctr_same, ctr_twice, length-ctr}
use Rattle.standards.proofs.Lengths.{length-gcm, length-gcm_siv, length-gcm_siv_text, length-s2v}

-- the text of GCM again, from its ciphertext
pub gcm_text_twice : (E : List ℕ → List ℕ) (nonce text : List ℕ) → gcm_text E nonce (gcm_text E nonce text) ≡ text
gcm_text_twice E nonce text = ctr_twice E (plus_be w32) (plus_be w32 (first_block nonce) 1) text

-- the ciphertext is a prefix of what GCM seals
pub take-gcm : (E : List ℕ → List ℕ) (nonce aad text : List ℕ) → take (length text) (gcm E nonce aad text) ≡ gcm_text E nonce text
unfolding gcm
take-gcm E nonce aad text = take_at (gcm_text E nonce text) (gcm_tag E nonce aad (gcm_text E nonce text)) (length text) (length-ctr E (plus_be w32) (plus_be w32 (first_block nonce) 1) text)

-- and the tag is the rest
pub drop-gcm : (E : List ℕ → List ℕ) (nonce aad text : List ℕ) → drop (length text) (gcm E nonce aad text) ≡ gcm_tag E nonce aad (gcm_text E nonce text)
unfolding gcm
drop-gcm E nonce aad text = drop_at (gcm_text E nonce text) (gcm_tag E nonce aad (gcm_text E nonce text)) (length text) (length-ctr E (plus_be w32) (plus_be w32 (first_block nonce) 1) text)

-- the text of GCM-SIV again, from its ciphertext and its tag
pub gcm_siv_text_twice : (cipher : List ℕ → List ℕ → List ℕ) (key nonce tag text : List ℕ) → gcm_siv_text cipher key nonce tag (gcm_siv_text cipher key nonce tag text) ≡ text
unfolding gcm_siv_text
gcm_siv_text_twice cipher key nonce tag text = ctr_twice (cipher (encryption_key cipher key nonce)) (plus_le w32) (counter_block tag) text

-- the ciphertext is a prefix of what GCM-SIV seals
pub take-gcm_siv : (cipher : List ℕ → List ℕ → List ℕ) (key nonce aad text : List ℕ)
    → take (length text) (gcm_siv cipher key nonce aad text) ≡ gcm_siv_text cipher key nonce (gcm_siv_tag cipher key nonce aad text) text
unfolding gcm_siv
take-gcm_siv cipher key nonce aad text =
    let tag = gcm_siv_tag cipher key nonce aad text in
    take_at (gcm_siv_text cipher key nonce tag text) tag (length text) (length-gcm_siv_text cipher key nonce tag text)

-- and the tag is the rest
pub drop-gcm_siv : (cipher : List ℕ → List ℕ → List ℕ) (key nonce aad text : List ℕ) → drop (length text) (gcm_siv cipher key nonce aad text) ≡ gcm_siv_tag cipher key nonce aad text
unfolding gcm_siv
drop-gcm_siv cipher key nonce aad text =
    let tag = gcm_siv_tag cipher key nonce aad text in
    drop_at (gcm_siv_text cipher key nonce tag text) tag (length text) (length-gcm_siv_text cipher key nonce tag text)

-- V is a prefix of what SIV seals
pub take-siv : (Emac Ectr : List ℕ → List ℕ) (aad text : List ℕ) → ((b : List ℕ) → length (Emac b) ≡ 16) → take 16 (siv Emac Ectr aad text) ≡ s2v Emac aad text
unfolding siv
take-siv Emac Ectr aad text size =
    let v = s2v Emac aad text in
    take_at v (ctr Ectr (plus_be w128) (siv_counter v) text) 16 (length-s2v Emac aad text size)

-- and the text is had back from the rest, under V
pub siv_text_twice : (Emac Ectr : List ℕ → List ℕ) (aad text : List ℕ) → ((b : List ℕ) → length (Emac b) ≡ 16)
    → ctr Ectr (plus_be w128) (siv_counter (s2v Emac aad text)) (drop 16 (siv Emac Ectr aad text)) ≡ text
unfolding siv
siv_text_twice Emac Ectr aad text size =
    let v = s2v Emac aad text in
    let c = ctr Ectr (plus_be w128) (siv_counter v) text in
    ap (ctr Ectr (plus_be w128) (siv_counter v)) (drop_at v c 16 (length-s2v Emac aad text size)) ∙ ctr_twice Ectr (plus_be w128) (siv_counter v) text

-- GCM seals no two texts alike, under the same nonce and data
pub gcm_same : (E : List ℕ → List ℕ) (nonce aad xs ys : List ℕ) → gcm E nonce aad xs ≡ gcm E nonce aad ys → xs ≡ ys
gcm_same E nonce aad xs ys e =
    let long : length xs ≡ length ys = omega (arith, ap length e, length-gcm E nonce aad xs, length-gcm E nonce aad ys) in
    ctr_same E (plus_be w32) (plus_be w32 (first_block nonce) 1) xs ys (sym (take-gcm E nonce aad xs) ∙ ap (take (length xs)) e ∙ ap (λ n. take n (gcm E nonce aad ys)) long ∙ take-gcm E nonce aad ys)

-- nor does GCM-SIV
pub gcm_siv_same : (cipher : List ℕ → List ℕ → List ℕ) (key nonce aad xs ys : List ℕ) → ((b : List ℕ) → length (cipher (encryption_key cipher key nonce) b) ≡ 16)
    → gcm_siv cipher key nonce aad xs ≡ gcm_siv cipher key nonce aad ys → xs ≡ ys
gcm_siv_same cipher key nonce aad xs ys size e =
    let sealed = gcm_siv cipher key nonce aad in
    let tag = gcm_siv_tag cipher key nonce aad in
    let long : length xs ≡ length ys = omega (arith, ap length e, length-gcm_siv cipher key nonce aad xs size, length-gcm_siv cipher key nonce aad ys size) in
    let tags : tag xs ≡ tag ys = sym (drop-gcm_siv cipher key nonce aad xs) ∙ ap (drop (length xs)) e ∙ ap (λ n. drop n (sealed ys)) long ∙ drop-gcm_siv cipher key nonce aad ys in
    let texts = sym (take-gcm_siv cipher key nonce aad xs) ∙ ap (take (length xs)) e ∙ ap (λ n. take n (sealed ys)) long ∙ take-gcm_siv cipher key nonce aad ys in
    sym (gcm_siv_text_twice cipher key nonce (tag xs) xs)
    ∙ ap (gcm_siv_text cipher key nonce (tag xs)) texts
    ∙ ap (λ t. gcm_siv_text cipher key nonce t (gcm_siv_text cipher key nonce (tag ys) ys)) tags
    ∙ gcm_siv_text_twice cipher key nonce (tag ys) ys

-- nor does SIV
pub siv_same : (Emac Ectr : List ℕ → List ℕ) (aad xs ys : List ℕ) → ((b : List ℕ) → length (Emac b) ≡ 16) → siv Emac Ectr aad xs ≡ siv Emac Ectr aad ys → xs ≡ ys
siv_same Emac Ectr aad xs ys size e =
    let same : s2v Emac aad xs ≡ s2v Emac aad ys = sym (take-siv Emac Ectr aad xs size) ∙ ap (take 16) e ∙ take-siv Emac Ectr aad ys size in
    sym (siv_text_twice Emac Ectr aad xs size)
    ∙ ap (λ c. ctr Ectr (plus_be w128) (siv_counter (s2v Emac aad xs)) (drop 16 c)) e
    ∙ ap (λ v. ctr Ectr (plus_be w128) (siv_counter v) (drop 16 (siv Emac Ectr aad ys))) same
    ∙ siv_text_twice Emac Ectr aad ys size
