use Rattle.std.proofs.Common.{◌≡◌, ◌≤◌, ◌*◌, ◌-◌, ◌/◌, ℕ, List, length, ap, ap₂, ◌∙◌, take, drop, arith}
use Rattle.std.proofs.lemmas.List.{take_all, length-drop}
use Rattle.standards.specs.Blocks.{over_blocks}
use Rattle.standards.specs.Cmac.{chain_step, last_block}
use Rattle.standards.specs.Lists.{xor_bytes}
use Rattle.hash_keys.specs.CmacParts.{cmac_from}
use Rattle.hash_keys.proofs.cmac.cmac_from.Goals as goal

-- the chain and the last block, where m is one less than the length, make the tag
whole : (E : List ℕ → List ℕ) (start text chain last mixed out : List ℕ) (m : ℕ) → m ≡ length text - 1
    → chain ≡ over_blocks (chain_step E) start text (m / 16) → last ≡ last_block E (take (length text - 16 * (m / 16)) (drop (16 * (m / 16)) text))
    → mixed ≡ xor_bytes chain last → out ≡ E mixed → out ≡ cmac_from E start text
whole E start text chain last mixed out m m_is chain_is last_is mixed_is out_is =
    let n = m / 16 in
    let rest = drop (16 * n) text in
    let all : length rest ≤ length text - 16 * n = omega (arith, length-drop (16 * n) text) in
    out_is
    ∙ ap E (mixed_is ∙ ap₂ xor_bytes chain_is (last_is ∙ ap (last_block E) (take_all (length text - 16 * n) rest all)))
    ∙ ap (λ k. E (xor_bytes (over_blocks (chain_step E) start text (k / 16)) (last_block E (drop (16 * (k / 16)) text)))) m_is

pub returns : goal.returns
returns g c =
    whole (g.C.BlockCipherEncrypt.encrypts c.args.c.now) c.args.start c.args.text.now c.chain-block.result c.last_block-last.result c.xor_in_place.new.output _ c.saturating_sub-n.result
    c.saturating_sub-n.ensures c.chain-block.ensures c.last_block-last.ensures c.xor_in_place.ensures.value c.encrypt_block.ensures.value
