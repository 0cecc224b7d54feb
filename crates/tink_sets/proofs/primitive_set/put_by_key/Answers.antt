use Rattle.std.proofs.Common.{◌∙◌, List, ℕ, ap, inl, refl, subst}
use Rattle.tink_io.specs.declared.error.TinkError.{TinkError}
use Rattle.tink_set_groups.specs.Groups.{Adds}
use Rattle.tink_sets.proofs.StandingFacts.{may, may_not}
use Rattle.tink_sets.proofs.primitive_set.put_by_key.Goals as goal

pub returns-in-Err : goal.returns-in-Err
returns-in-Err g c = record { value = tt; stands = tt; cause = may_not c.args.key.now c.in-Err.e c.in-Err.ensures.answer; ok = tt; err = λ _. refl }

pub returns-in-Ok-put_in_group : goal.returns-in-Ok-put_in_group
returns-in-Ok-put_in_group g c = record {
  value = c.in-Ok.ensures.value;
  stands = may c.args.key.now c.in-Ok.prefix c.in-Ok.ensures.answer;
  cause = tt;
  ok = subst (λ (own : List ℕ). Adds own c.args.entry c.args.groups.now c.put_in_group.new.groups) (c.as_slice.ensures ∙ c.in-Ok.ensures.value) c.in-Ok-put_in_group.ensures.ok;
  err = tt;
}

pub returns-in-Err-put_in_group : goal.returns-in-Err-put_in_group
returns-in-Err-put_in_group g c = record { value = tt; stands = tt; cause = inl (ap (λ (e : TinkError). e.kind) c.in-Err-put_in_group.ensures.cause); ok = tt; err = c.in-Err-put_in_group.ensures.err }
