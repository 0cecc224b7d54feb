use Rattle.std.proofs.Common.{◌∙◌, ◌+◌, List, drop, inl, inr, ap, subst, sym}
use Rattle.std.specs.Prelude.{IsTrue}
use Rattle.std.specs.List.{list_all}
use Rattle.tink_proto.specs.declared.messages.keys.Key.{Key}
use Rattle.keyset_model.specs.Validity.{fits_handle}
use Rattle.keyset_model.proofs.EditLaws.{held_more}
use Rattle.tink_set_builder.specs.Given.{given_each}
use Rattle.tink_set_builder.specs.PublicParts.{public_data, with_data}
use Rattle.tink_set_builder.proofs.GivenEach.{behind, none_more, one_more}
use Rattle.tink_set_builder.proofs.public_parts.public_keys.Goals as goal

pub loop-key-preserved : goal.loop-key-preserved
loop-key-preserved g c =
    let give = λ (k : Key). with_data k (public_data g.M.KeyManager.url g.M.KeyManager.has_public g.M.KeyManager.gives_public c.args.registry.now.managers k.key_data) in (
      c.loop-key.invariant.0
          ∙ one_more give c.args.keys.now c.loop-key.key-index c.key-item.result c.loop-key.public c.in-Ok.more c.loop-key-test.true c.key-item.is c.in-Ok.ensures.answer
          ∙ ap (λ (ks : List Key). behind ks (given_each give (drop (c.loop-key.key-index + 1) c.args.keys.now))) (sym c.in_ok-push-in-Ok.ensures.ok),
      subst (λ (ks : List Key). IsTrue (list_all fits_handle ks)) (sym c.in_ok-push-in-Ok.ensures.ok)
          (held_more c.loop-key.public c.in-Ok.more c.in-Ok.ensures.held c.loop-key.invariant.1),
    )

pub returns-in-Err : goal.returns-in-Err
returns-in-Err g c =
    let give = λ (k : Key). with_data k (public_data g.M.KeyManager.url g.M.KeyManager.has_public g.M.KeyManager.gives_public c.args.registry.now.managers k.key_data) in
    record {
      answer = elim c.in-Err.ensures.answer [
        | inl memory ↦ inl memory
        | inr refused ↦ inr (c.loop-key.invariant.0
            ∙ none_more give c.args.keys.now c.loop-key.key-index c.key-item.result c.loop-key.public c.in-Err.e.kind c.loop-key-test.true c.key-item.is refused)
      ];
      held = tt;
    }
