use Rattle.std.proofs.Common.{◌≡◌, Bool, true, cond, Err, rules, subst, sym}
use Rattle.keyset_model.specs.Keys.{is_enabled}
use Rattle.tink_io.specs.declared.error.Kind.TheVariants.{NotEnabled}
use Rattle.tink_io.specs.Answering.{Answers}
use Rattle.tink_sets.specs.Prefixes.{told_prefix}
use Rattle.tink_sets.proofs.entry.standing_prefix.Goals as goal

pub returns-clause-answer : goal.returns-clause-answer
returns-clause-answer c =
    let live : is_enabled c.args.key.now ≡ true = search rules in
    subst (λ (b : Bool). Answers c.output_prefix.result (cond b (told_prefix c.args.key.now) (Err NotEnabled))) (sym live) c.output_prefix.ensures.answer
