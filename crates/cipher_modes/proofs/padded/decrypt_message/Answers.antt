use Rattle.std.proofs.Common.{ap, Some, None, ◌%◌, ◌∙◌}
use Rattle.cipher_modes.proofs.BegunLemmas.{run-written, run-told}
use Rattle.cipher_modes.proofs.padded.decrypt_message.Goals as goal

pub run_bytes-requires : goal.run_bytes-requires
run_bytes-requires g c = ap (λ n. n % g.row.B) c.load.auto.output ∙ c.if-output-ne0.false

pub returns-in-Ok-clause-written : goal.returns-in-Ok-clause-written
returns-in-Ok-clause-written g c = run-written g.M.BlockModeDecrypt.step c.args.mode.now g.row.B c.args.input.now c.args.output.now _ _ c.if-output-ne0.false c.load.ensures.value c.run_bytes.ensures.value

pub returns-in-Err-clause-written : goal.returns-in-Err-clause-written
returns-in-Err-clause-written g c = run-written g.M.BlockModeDecrypt.step c.args.mode.now g.row.B c.args.input.now c.args.output.now _ _ c.if-output-ne0.false c.load.ensures.value c.run_bytes.ensures.value

pub returns-in-Ok-clause-told : goal.returns-in-Ok-clause-told
returns-in-Ok-clause-told g c =
    (c.in-Ok.ensures.front.0, run-told g.M.BlockModeDecrypt.step c.args.mode.now g.row.B g.P.Padding.unpadded c.args.input.now c.args.output.now _ _ _ c.if-output-ne0.false c.load.ensures.value c.run_bytes.ensures.value (c.in-Ok.ensures.told ∙ ap Some c.in-Ok.ensures.front.1))

pub returns-in-Err-clause-told : goal.returns-in-Err-clause-told
returns-in-Err-clause-told g c = run-told g.M.BlockModeDecrypt.step c.args.mode.now g.row.B g.P.Padding.unpadded c.args.input.now c.args.output.now _ _ None c.if-output-ne0.false c.load.ensures.value c.run_bytes.ensures.value c.in-Err.ensures.told
