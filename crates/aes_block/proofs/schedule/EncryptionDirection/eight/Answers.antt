use Rattle.std.proofs.Common.{◌∙◌}
use Rattle.standards.specs.Aes.{cipher}
use Rattle.standards.specs.AesKeys.{aes}
use Rattle.aes_block.proofs.EachBlock.{map_same}
use Rattle.aes_block.proofs.RoundKeys.{enciphered}
use Rattle.aes_block.proofs.schedule.EncryptionDirection.eight.Goals as goal

pub returns : goal.returns
returns c =
    let keys = c.schedule.inside.round_keys in
    let rounds = c.schedule.inside.rounds in
    c.encipher_eight.ensures keys c.schedule.invariant.of_keys
    ∙ map_same (cipher rounds keys) (aes c.args.schedule.now) (λ v. enciphered keys rounds c.args.schedule.now v c.schedule.invariant.schedule c.schedule.view_is) _
