use Rattle.std.proofs.Common.{refl}
use Rattle.tink_keygen.proofs.RotatingSteps.{formed_manager}
use Rattle.tink_keygen.proofs.growing.with_like_key.Goals as goal

pub returns-clause-valid : goal.returns-clause-valid
returns-clause-valid c = λ valid. c.with_new_key.ensures.valid refl (formed_manager _ _ valid c.new_from_handle.ensures)
