use Rattle.std.proofs.Common.{◌≡◌, ◌∙◌, ℕ, Bool, true, false, cond, Option, Some, None, nat_eq, ap, subst, sym, arith}
use Rattle.std.specs.Prelude.{is_some}
use Rattle.std.proofs.lemmas.Bool.Decides.{nat_tests}
use Rattle.tink_sets.specs.Entries.{entry_of}
use Rattle.tink_set_builder.specs.Built.{primary_after}
use Rattle.tink_set_builder.proofs.building.put_primary.Goals as goal

first_of : {E : Type 0} (id_of : E → ℕ) (id : ℕ) (old : Option E) (more : E) → is_some old ≡ false → id_of more ≡ id → primary_after id_of id old more ≡ Some more
first_of id_of id None more none is =
    let same : nat_eq (id_of more) id ≡ true = grind (arith, nat_tests) in
    ap (λ (b : Bool). cond b (Some more) None) same
first_of id_of id (Some e) more none is = absurd (cc)

pub returns-in-Ok-new-clause-primary : goal.returns-in-Ok-new-clause-primary
returns-in-Ok-new-clause-primary g c =
    let of_key = entry_of c.args.p.now c.args.key.now in
    let made = subst (λ p. c.in-Ok-new.entry ≡ entry_of p c.args.key.now) c.in-Ok.ensures.value c.in-Ok-new.ensures.value in
    c.fill.ensures ∙ ap (λ e. Some e) made ∙ sym (first_of (λ e. e.key_id) c.args.id c.args.set.now.primary of_key (sym c.is_some.ensures ∙ c.if-is_some.false) c.if-key-id.false)
