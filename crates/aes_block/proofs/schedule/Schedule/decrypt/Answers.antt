use Rattle.std.proofs.Common.{◌∙◌, ap}
use Rattle.standards.specs.AesInverse.{inv_cipher}
use Rattle.aes_block.proofs.RoundKeys.{deciphered}
use Rattle.aes_block.proofs.schedule.Schedule.decrypt.Goals as goal

pub returns : goal.returns
returns c =
    let keys = c.self.inside.round_keys in
    let rounds = c.self.inside.rounds in
    c.decipher.ensures ∙ ap (inv_cipher rounds keys) c.read.ensures ∙ deciphered keys rounds c.args.self.now _ c.self.invariant.schedule c.self.view_is
