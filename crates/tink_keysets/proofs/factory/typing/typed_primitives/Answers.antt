use Rattle.tink_keysets.proofs.TypedSets.{typed-refused}
use Rattle.tink_keysets.proofs.factory.typing.typed_primitives.Goals as goal

pub returns-in-Ok-clause-set : goal.returns-in-Ok-clause-set
returns-in-Ok-clause-set g c = c.lent_as-typed.ensures.set _ _ c.in-Ok.ensures

pub returns-in-Ok-clause-primary : goal.returns-in-Ok-clause-primary
returns-in-Ok-clause-primary g c = c.lent_as-typed.ensures.primary

pub returns-in-Err-clause-set : goal.returns-in-Err-clause-set
returns-in-Err-clause-set g c = typed-refused g.S.Sort.picks c.args.h.now.primary_key_id _ c.in-Err.e.kind c.in-Err.ensures

pub returns-in-Err-clause-primary : goal.returns-in-Err-clause-primary
returns-in-Err-clause-primary g c = tt
