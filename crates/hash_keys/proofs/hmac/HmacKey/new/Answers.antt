use Rattle.std.proofs.Common.{◌≡◌, ap, ◌∙◌, ℕ, List, [], take, refl, subst}
use Rattle.std.proofs.lemmas.List.{take-map}
use Rattle.standards.specs.Hmac.{block_key, pad}
use Rattle.hash_keys.specs.Hash.{block_size, hash_of}
use Rattle.hash_keys.specs.Hashers.{Holds}
use Rattle.hash_keys.proofs.hmac.HmacKey.new.Goals as goal

-- the prefix of the padded block is the padded key
front_padded : (n size byte : ℕ) (key block padded_block : List ℕ) → n ≡ size → padded_block ≡ pad block byte → take size block ≡ key
    → take n padded_block ≡ pad key byte
front_padded n size byte key block padded_block n_is padded_is block_is =
    ap (λ i. take i padded_block) n_is ∙ ap (take size) padded_is ∙ take-map _ size block ∙ ap (λ xs. pad xs byte) block_is

pub returns : goal.returns
returns c =
    let h = c.args.h in
    let size = block_size h in
    let key = block_key (hash_of h) size c.args.key.now in
    let block = c.key_block-block.result in
    let inner_pad = front_padded c.block_size-size.result size 0x36 key block c.xor_byte-inner_pad.result c.block_size-size.ensures.value c.xor_byte-inner_pad.ensures c.key_block-block.ensures in
    let outer_pad = front_padded c.block_size-size.result size 0x5c key block c.xor_byte-outer_pad.result c.block_size-size.ensures.value c.xor_byte-outer_pad.ensures c.key_block-block.ensures in
    record {
      of_key = record {
        named = refl;
        inner = subst (Holds h c.update.new.self) inner_pad (c.update.ensures h [] c.new-inner.ensures);
        outer = subst (Holds h c.update-2.new.self) outer_pad (c.update-2.ensures h [] c.new-outer.ensures);
      };
    }
