use Rattle.std.proofs.Common.{◌≡◌, refl, rules, subst, sym, true}
use Rattle.keyset_model.specs.Validity.{IsValid, has_a_primary}
use Rattle.tink_keygen.proofs.growing.with_further_key.Goals as goal

pub returns-clause-valid : goal.returns-clause-valid
returns-clause-valid c = λ valid.
    let has : has_a_primary c.args.handle ≡ true = search rules in
    c.with_new_key.ensures.beside refl (subst IsValid (sym c.new_from_handle.ensures) valid) (subst (λ k. has_a_primary k ≡ true) (sym c.new_from_handle.ensures) has)
