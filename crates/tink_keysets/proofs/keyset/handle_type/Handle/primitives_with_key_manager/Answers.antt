use Rattle.std.proofs.Common.{◌≡◌, ◌∙◌, true, false, inr, option_copied, rules, ap, sym}
use Rattle.tink_proto.specs.declared.messages.keys.Keyset.{Keyset}
use Rattle.tink_sets.specs.Entries.{entry_of}
use Rattle.keyset_model.specs.Validity.{is_validated}
use Rattle.tink_set_builder.specs.Built.{built_entry, IsSetOf}
use Rattle.tink_set_builder.proofs.BuildingFacts.{none_given, set_given}
use Rattle.tink_keysets.proofs.keyset.handle_type.Handle.primitives_with_key_manager.Goals as goal

pub returns-then-not-is_validated : goal.returns-then-not-is_validated
returns-then-not-is_validated g c =
    let refused : c.is_validated.result ≡ false = search rules in
    let broken : is_validated c.args.self.now ≡ false = ap is_validated (sym c.self.view_is) ∙ sym c.is_validated.ensures ∙ refused in
    inr (none_given _ c.args.self.now c.new.result broken c.new.ensures)

pub returns : goal.returns
returns g c =
    let passed : c.is_validated.result ≡ true = search rules in
    let valid : is_validated c.args.self.now ≡ true = ap is_validated (sym c.self.view_is) ∙ sym c.is_validated.ensures ∙ passed in
    set_given IsSetOf c.build_set.result
    (built_entry g.M.KeyManager.url g.M.KeyManager.supports g.M.KeyManager.builds entry_of c.args.registry.now.managers (option_copied c.args.km))
    c.args.self.now c.keys.result.now c.self.inside.ks.primary_key_id valid c.keys.ensures
    (ap (λ (ks : Keyset). ks.primary_key_id) c.self.view_is) c.build_set.ensures
