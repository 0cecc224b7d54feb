use Rattle.std.proofs.Common.{◌≡◌, ◌<◌, ◌-◌, length, take, drop, arith}
use Rattle.std.proofs.lemmas.Result.{IfOk-weaker}
use Rattle.std.proofs.lemmas.Grind.{common_steps}
use Rattle.tink_set_groups.specs.Groups.{group_of}
use Rattle.tink_sets.specs.Accepting.{prefixed_value}
use Rattle.tink_sets.proofs.AcceptingFacts.{prefixed-long}
use Rattle.tink_sets.proofs.asking.ask_prefixed.Goals as goal

pub returns-clause-value : goal.returns-clause-value
returns-clause-value g c =
    let answers = g.Q.Question.answers c.args.question.now in
    let groups = group_of c.args.set.now.entries in
    let input = c.args.input.now in
    let long : 5 < length input = omega arith in
    let rest : take (length input - 5) (drop 5 input) ≡ drop 5 input = grind (arith, common_steps) in
    IfOk-weaker c.first_answer.result _ (λ v. v ≡ prefixed_value answers groups input)
    (λ v is. prefixed-long answers groups input c.group-entries.result.now (take (length input - 5) (drop 5 input)) v long c.group-entries.ensures.value rest is)
    c.first_answer.ensures.value
