use Rattle.tink_io.specs.Answering.{Answers}
use Rattle.tink_keysets.specs.Valid.{valid_or_refused}
use Rattle.tink_keyset_io.proofs.key_files.editing.valid_material.Goals as goal
use Rattle.std.proofs.Common.{subst}

pub returns-in-Ok-clause-answer : goal.returns-in-Ok-clause-answer
returns-in-Ok-clause-answer c = subst (λ ks. Answers c.keyset_if_valid.result (valid_or_refused ks)) c.in-Ok.ensures.keyset c.keyset_if_valid.ensures.answer
