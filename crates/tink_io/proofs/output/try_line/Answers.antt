use Rattle.std.proofs.Common.{refl}
use Rattle.std.proofs.lemmas.Result.{err_from_is_err_and}
use Rattle.tink_io.proofs.WrittenLemmas.{Writes-cut, Writes-then}
use Rattle.tink_io.proofs.output.try_line.Goals as goal

pub returns-in_err-put_kind-clause-writes : goal.returns-in_err-put_kind-clause-writes
returns-in_err-put_kind-clause-writes g c =
    let handed = err_from_is_err_and c.from_residual.result c.from_residual.ensures.1 in
    Writes-cut _ _ _ _ _ _ _ _ _ refl handed c.in_err-put_kind.ensures.writes

pub returns-clause-writes : goal.returns-clause-writes
returns-clause-writes g c = Writes-then _ _ _ _ _ _ _ _ _ _ refl c.in_ok-put_kind.ensures.writes c.put.ensures.writes
