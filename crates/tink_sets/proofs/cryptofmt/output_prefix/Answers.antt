use Rattle.std.proofs.Common.{◌≡◌, Ok, rules, subst, sym}
use Rattle.keyset_model.specs.Entries.{byte_and_id}
use Rattle.tink_io.specs.Answering.{Answers}
use Rattle.tink_sets.specs.Prefixes.{told_prefix}
use Rattle.tink_sets.proofs.cryptofmt.output_prefix.Goals as goal

pub returns-in-Some-Legacy : goal.returns-in-Some-Legacy
returns-in-Some-Legacy c =
    let told : told_prefix c.args.key.now ≡ Ok (byte_and_id 0 c.args.key.now.key_id) = search rules in
    record { answer = subst (λ t. Answers c.start_byte_and_id-in-Some-Legacy.result t) (sym told) c.start_byte_and_id-in-Some-Legacy.ensures.answer }
