use Rattle.std.proofs.Common.{List, ℕ, ap, ◌∙◌, bit_and, get_or}
use Rattle.std.proofs.Math.ListN.{set}
use Rattle.gcm.specs.Siv.{tag_under}
use Rattle.gcm.proofs.siv.tag_of.Goals as goal

pub returns : goal.returns
unfolding tag_under
returns g c =
    c.encrypt_block.ensures.value
    ∙ ap (λ (s : List ℕ). g.C.BlockCipherEncrypt.encrypts c.args.c.now (set s 15 (bit_and (get_or s 15 0) 0x7f))) c.xor_of-tag.ensures
