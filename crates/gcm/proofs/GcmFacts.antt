-- GCM by ciphertext and tag.
use Rattle.std.proofs.Common.{◌≡◌, ◌≤◌, ◌-◌, ℕ, List, ◌++◌, length, take, drop, ap, ap₂, sym, ◌∙◌, arith}
use Rattle.std.proofs.lemmas.List.{length-take-le, take-append-drop, take_at}
use Rattle.std.specs.Int.{w32}
use Rattle.standards.specs.Counter.{plus_be}
use Rattle.standards.specs.Gcm.{first_block, gcm, gcm_tag, gcm_text}
use Rattle.standards.proofs.Keystream.{length-ctr}
use Rattle.standards.proofs.Lengths.{length-gcm}
use Rattle.standards.proofs.ModesUndo.{drop-gcm, gcm_text_twice, take-gcm}
use borrow.Rule.Slice.PartMut.{put_mid}
use Rattle.gcm.proofs.Parts.{written}

-- the ciphertext is as long as the text
pub length-gcm_text : (E : List ℕ → List ℕ) (nonce text : List ℕ) → length (gcm_text E nonce text) ≡ length text
length-gcm_text E nonce text = length-ctr E (plus_be w32) (plus_be w32 (first_block nonce) 1) text

-- a text changed in its place, and its tag behind it
pub sealed_in_place : (E : List ℕ → List ℕ) (nonce aad xs b tag t : List ℕ) (n : ℕ) → n ≤ length xs
    → b ≡ gcm_text E nonce (take n xs) → tag ≡ gcm_tag E nonce aad (take n (b ++ drop n xs)) → t ≡ tag
    → put_mid n (length (b ++ drop n xs) - n) (b ++ drop n xs) t ≡ gcm E nonce aad (take n xs)
unfolding gcm
sealed_in_place E nonce aad xs b tag t n fits b_is tag_is t_is =
    let size : length b ≡ n = ap length b_is ∙ length-gcm_text E nonce (take n xs) ∙ length-take-le n xs fits in
    let tagged : t ≡ gcm_tag E nonce aad (gcm_text E nonce (take n xs)) = t_is ∙ tag_is ∙ ap (gcm_tag E nonce aad) (take_at b (drop n xs) n size ∙ b_is) in
    written n xs b t size ∙ ap₂ (λ u v. u ++ v) b_is tagged

-- what is the encryption of a text ends in the tag of its front
pub tag_of_sealed : (E : List ℕ → List ℕ) (nonce aad text sealed : List ℕ) → gcm E nonce aad text ≡ sealed → gcm_tag E nonce aad (take (length sealed - 16) sealed) ≡ drop (length sealed - 16) sealed
tag_of_sealed E nonce aad text sealed e =
    let n = length text in
    let size : length sealed - 16 ≡ n = omega (arith, ap length e, length-gcm E nonce aad text) in
    let front : take (length sealed - 16) sealed ≡ gcm_text E nonce text = ap (λ k. take k sealed) size ∙ ap (take n) (sym e) ∙ take-gcm E nonce aad text in
    let rest : drop (length sealed - 16) sealed ≡ gcm_tag E nonce aad (gcm_text E nonce text) = ap (λ k. drop k sealed) size ∙ ap (drop n) (sym e) ∙ drop-gcm E nonce aad text in
    ap (gcm_tag E nonce aad) front ∙ sym rest

-- where the tags agree, the front in counter mode is a text that is sealed so
pub opened : (E : List ℕ → List ℕ) (nonce aad sealed text : List ℕ) (n : ℕ) → text ≡ gcm_text E nonce (take n sealed) → gcm_tag E nonce aad (take n sealed) ≡ drop n sealed → gcm E nonce aad text ≡ sealed
unfolding gcm
opened E nonce aad sealed text n text_is same =
    let cipher : gcm_text E nonce text ≡ take n sealed = ap (gcm_text E nonce) text_is ∙ gcm_text_twice E nonce (take n sealed) in
    ap (λ c. c ++ gcm_tag E nonce aad c) cipher ∙ ap (λ t. take n sealed ++ t) same ∙ take-append-drop n sealed
