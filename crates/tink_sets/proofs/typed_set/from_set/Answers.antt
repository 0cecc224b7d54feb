use Rattle.std.proofs.Common.{inl, inr, ⊎_elim}
use Rattle.tink_sets.proofs.typed_set.from_set.Goals as goal

pub returns-in-Err : goal.returns-in-Err
returns-in-Err g c = record { primary = tt; entries = tt; cause = ⊎_elim inl (λ refused. inr (refused.0, inl refused.1)) c.in-Err.ensures.cause }

pub returns-in-Ok-typed_groups : goal.returns-in-Ok-typed_groups
returns-in-Ok-typed_groups g c = record { primary = c.in-Ok.ensures.ok; entries = c.in-Ok-typed_groups.ensures.ok; cause = tt }

pub returns-in-Err-typed_groups : goal.returns-in-Err-typed_groups
returns-in-Err-typed_groups g c = record {
  primary = tt;
  entries = tt;
  cause = ⊎_elim inl (λ refused. inr (refused.0, inr refused.1)) c.in-Err-typed_groups.ensures.cause;
}
