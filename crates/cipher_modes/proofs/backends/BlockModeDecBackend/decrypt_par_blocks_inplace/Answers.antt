use Rattle.std.proofs.Common.{ap, ◌∙◌, arith}
use Rattle.cipher.proofs.Parts.{pick-nil}
use Rattle.cipher_modes.specs.Steps.{run_of, state_after}
use Rattle.cipher_modes.proofs.backends.BlockModeDecBackend.decrypt_par_blocks_inplace.Goals as goal

pub returns-clause-value : goal.returns-clause-value
returns-clause-value g c =
    let made = c.decrypt_par_blocks.ensures.value ∙ ap (run_of g.Self.BlockModeDecBackend.step c.args.self.now) (pick-nil c.args.blocks.now) in grind (arith, made)

pub returns-clause-stepped : goal.returns-clause-stepped
returns-clause-stepped g c = c.decrypt_par_blocks.ensures.stepped ∙ ap (state_after g.Self.BlockModeDecBackend.step c.args.self.now) (pick-nil c.args.blocks.now)
