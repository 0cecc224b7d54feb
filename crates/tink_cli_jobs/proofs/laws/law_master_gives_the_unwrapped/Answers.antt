use Rattle.tink_cli_jobs.proofs.ElsewhereLemmas.{unwrapped_gives}
use Rattle.tink_cli_jobs.proofs.laws.law_master_gives_the_unwrapped.Goals as goal

pub returns : goal.returns
returns c = λ s wrapped plain keyset h given.
    unwrapped_gives s wrapped plain keyset h (λ made. c.law_json_file_read_again.ensures h.keyset h.unwrapped h.urls made) given
