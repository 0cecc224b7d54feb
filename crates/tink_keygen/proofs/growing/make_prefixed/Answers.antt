use Rattle.std.proofs.Common.{refl}
use Rattle.tink_keygen.proofs.growing.make_prefixed.Goals as goal

pub returns-clause-valid : goal.returns-clause-valid
returns-clause-valid c = c.with_new_key.ensures.valid refl (rw c.new.ensures refl)
