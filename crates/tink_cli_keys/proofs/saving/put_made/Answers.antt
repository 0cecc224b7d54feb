use Rattle.std.proofs.Common.{◌∙◌, sym, ap}
use Rattle.std.specs.Prelude.{Ok}
use Rattle.tink_cli_keys.proofs.SavingLemmas.{put_behind}
use Rattle.tink_cli_keys.proofs.saving.put_made.Goals as goal

pub returns-in-Ok-clause-done : goal.returns-in-Ok-clause-done
returns-in-Ok-clause-done g c = λ given answers.
    put_behind given c.as_slice.result.now _ _ c.put.result ((rw c.in-Ok.is at answers) ∙ ap (λ b. Ok b) (sym c.as_slice.ensures)) c.put.ensures.done
