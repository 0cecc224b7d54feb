use Rattle.std.proofs.Common.{◌≡◌, Some, None, Err, inl, inr, ⊎_elim, subst, sym}
use Rattle.tink_io.specs.declared.error.Kind.TheVariants.{WrongPrimitive}
use Rattle.tink_sets.specs.Entries.{typed_by, IsRefusedPrimary, IsTypedPrimary}
use Rattle.tink_sets.proofs.SortFacts.{typed_wrong}
use Rattle.tink_sets.proofs.typed_set.typed_primary.Goals as goal

pub returns-in-Ok : goal.returns-in-Ok
returns-in-Ok g c = record {
  ok = subst (λ primary. IsTypedPrimary g.S.Sort.picks primary (Some c.in-Ok.typed)) (sym c.in-Some.is) c.in-Ok.ensures.answer;
  cause = tt;
}

pub returns-in-None : goal.returns-in-None
returns-in-None g c = record { ok = subst (λ primary. IsTypedPrimary g.S.Sort.picks primary None) (sym c.in-None.is) tt; cause = tt }

pub returns-in-Err : goal.returns-in-Err
returns-in-Err g c =
    record {
      ok = tt;
      cause = ⊎_elim inl
          (λ refused.
          let wrong = typed_wrong g.S.Sort.picks g.met.S.Sort.one_refusal c.in-Some.entry c.in-Err.e.kind refused in
          inr (wrong, subst (λ primary. IsRefusedPrimary g.S.Sort.picks primary WrongPrimitive) (sym c.in-Some.is) (subst (λ k. typed_by g.S.Sort.picks c.in-Some.entry ≡ Err k) wrong refused)))
          c.in-Err.ensures.answer;
    }
