use Rattle.std.proofs.Common.{[], ◌∷◌}
use Rattle.std.proofs.lemmas.Result.{on_ok_weaker}
use Rattle.tink_sets.specs.Groups.{AreGroupsOf}
use Rattle.tink_sets.specs.Entries.{entry_of, prefix_of}
use Rattle.test_tink_sets.proofs.KeptFacts.{kept_is}
use Rattle.test_tink_sets.proofs.set_tests.set_of_one.Goals as goal

pub returns : goal.returns
returns g c =
    let adds = on_ok_weaker c.put-put.result (λ adds. adds [] c.new-set.ensures.entries) c.put-put.ensures.entries in
    kept_is c.put-put.result c.value_if_ok.result c.put-put.new.self (λ set. AreGroupsOf prefix_of (entry_of c.args.p c.args.key.now ∷ []) set.entries) c.value_if_ok.ensures adds
