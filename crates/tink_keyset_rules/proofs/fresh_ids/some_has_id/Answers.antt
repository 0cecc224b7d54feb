use Rattle.std.proofs.Common.{rules, ◌≡◌, ◌∙◌, ℤ, Option, ap, is_some, sym}
use Rattle.keyset_model.specs.Keys.{has_id}
use Rattle.tink_proto.specs.declared.messages.keys.Key.{Key}
use Rattle.tink_keyset_rules.proofs.TestFacts.{any-found, mapped}
use Rattle.tink_keyset_rules.proofs.fresh_ids.some_has_id.Goals as goal

pub returns : goal.returns
returns c =
    let said : c.is_some.result ≡ is_some c.place_of.result = search rules in
    said ∙ sym (mapped (λ r. r.1) c.place_of.result) ∙ ap (λ (o : Option ℤ). is_some o) c.place_of.ensures.status ∙ sym (any-found (λ (k : Key). k.status) (has_id c.args.id) c.args.keys.now)
