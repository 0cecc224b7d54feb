use Rattle.std.proofs.Common.{inl, inr, ⊎_elim}
use Rattle.tink_sets.proofs.SortFacts.{refused_wrong}
use Rattle.tink_sets.proofs.typed_set.copied_groups.Goals as goal

pub returns-in-Ok : goal.returns-in-Ok
returns-in-Ok g c = record { ok = c.in-Ok.ensures.ok; cause = tt }

pub returns-in-Err : goal.returns-in-Err
returns-in-Err g c = record {
  ok = tt;
  cause = ⊎_elim inl (λ refused. inr (refused_wrong g.S.Sort.picks g.met.S.Sort.one_refusal c.args.groups.now c.in-Err.e.kind refused)) c.in-Err.ensures.cause;
}
