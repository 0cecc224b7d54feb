use Rattle.std.proofs.Common.{rules, ◌≡◌, true}
use Rattle.keyset_model.specs.Validity.{is_validated}
use Rattle.tink_keysets.proofs.ValidFacts.{validated_answers}
use Rattle.tink_keysets.proofs.keyset.insecure.handle_if_valid.Goals as goal

pub returns : goal.returns
returns c =
    let valid : is_validated c.args.keyset ≡ true = search rules in
    validated_answers c.args.keyset c.new_handle.result valid c.new_handle.ensures
