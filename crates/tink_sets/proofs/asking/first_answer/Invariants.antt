use Rattle.std.proofs.Common.{◌≡◌, drop}
use Rattle.tink_sets.specs.Accepting.{first_value}
use Rattle.tink_sets.proofs.asking.first_answer.Given as goal

-- the entries asked so far did not accept
abbrev pub invariant-loop-entry : goal.invariant-loop-entry
invariant-loop-entry g l =
    first_value (λ e. g.Q.Question.answers l.question e l.input) l.entries ≡ first_value (λ e. g.Q.Question.answers l.question e l.input) (drop l.entry-index l.entries)
