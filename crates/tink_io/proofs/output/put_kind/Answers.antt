use Rattle.std.proofs.Common.{◌∙◌}
use Rattle.std.proofs.lemmas.Result.{err_from_is_err_and}
use Rattle.tink_io.proofs.WrittenLemmas.{Writes-cut, Writes-then}
use Rattle.tink_io.proofs.output.put_kind.Goals as goal

pub returns-in_err-put-clause-writes : goal.returns-in_err-put-clause-writes
returns-in_err-put-clause-writes g c =
    let handed = err_from_is_err_and c.from_residual.result c.from_residual.ensures.1 in
    Writes-cut _ _ _ _ _ _ _ _ _ (c.as_bytes.ensures.value ∙ c.words.ensures) handed c.in_err-put.ensures.writes

pub returns-clause-writes : goal.returns-clause-writes
returns-clause-writes g c =
    Writes-then _ _ _ _ _ _ _ _ _ _ (c.as_bytes.ensures.value ∙ c.words.ensures) c.in_ok-put.ensures.writes c.put_rest.ensures.writes
