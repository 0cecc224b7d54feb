use Rattle.std.proofs.Common.{◌∙◌}
use Rattle.standards.specs.AesInverse.{aes_inverse, inv_cipher}
use Rattle.aes_block.proofs.EachBlock.{map_same}
use Rattle.aes_block.proofs.RoundKeys.{deciphered}
use Rattle.aes_block.proofs.schedule.DecryptionDirection.sixteen.Goals as goal

pub returns : goal.returns
returns c =
    let keys = c.schedule.inside.round_keys in
    let rounds = c.schedule.inside.rounds in
    c.decipher_sixteen.ensures keys c.schedule.invariant.of_keys
    ∙ map_same (inv_cipher rounds keys) (aes_inverse c.args.schedule.now) (λ v. deciphered keys rounds c.args.schedule.now v c.schedule.invariant.schedule c.schedule.view_is) _
