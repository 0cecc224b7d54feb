use Rattle.std.proofs.Common.{◌∙◌, ap}
use Rattle.standards.specs.Aes.{cipher}
use Rattle.aes_block.proofs.RoundKeys.{enciphered}
use Rattle.aes_block.proofs.schedule.Schedule.encrypt.Goals as goal

pub returns : goal.returns
returns c =
    let keys = c.self.inside.round_keys in
    let rounds = c.self.inside.rounds in
    c.encipher.ensures ∙ ap (cipher rounds keys) c.read.ensures ∙ enciphered keys rounds c.args.self.now _ c.self.invariant.schedule c.self.view_is
