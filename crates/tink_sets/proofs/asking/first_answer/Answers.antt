use Rattle.std.proofs.Common.{inl, inr}
use Rattle.std.proofs.lemmas.Bool.{false≢true}
use Rattle.tink_sets.proofs.AcceptingFacts.{first_accepts, first_of_none, first_refuses}
use Rattle.tink_sets.proofs.asking.first_answer.Goals as goal

pub returns-in-Ok-clause-value : goal.returns-in-Ok-clause-value
returns-in-Ok-clause-value g c =
    first_accepts (g.Q.Question.answers c.args.question.now) c.args.input.now c.args.entries.now c.loop-entry.entry-index c.entry-item.result c.loop-entry.invariant
    c.loop-entry-test.true c.entry-item.is c.in-Ok.answer c.in-Ok.ensures.answer

pub loop-entry-preserved : goal.loop-entry-preserved
loop-entry-preserved g c =
    elim c.in-Err.ensures.answer [
      | inl memory ↦ absurd (false≢true (rw memory at c.if-eq.ensures))
      | inr refused ↦ first_refuses (g.Q.Question.answers c.args.question.now) c.args.input.now c.args.entries.now c.loop-entry.entry-index c.entry-item.result c.loop-entry.invariant
          c.loop-entry-test.true c.entry-item.is c.in-Err.e.kind refused
    ]

pub returns-clause-value : goal.returns-clause-value
returns-clause-value g c =
    first_of_none (g.Q.Question.answers c.args.question.now) c.args.input.now c.args.entries.now c.loop-entry.entry-index c.loop-entry.invariant c.loop-entry-test.false
