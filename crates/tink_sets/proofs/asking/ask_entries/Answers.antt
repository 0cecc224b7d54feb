use Rattle.std.proofs.Common.{◌∙◌, Err, ap, inr, sym}
use Rattle.tink_io.specs.declared.error.TinkError.{TinkError}
use Rattle.tink_set_groups.specs.Groups.{group_of}
use Rattle.tink_sets.specs.Accepting.{value_or}
use Rattle.tink_sets.proofs.AcceptingFacts.{accepted-prefixed, accepted-raw, not_prefixed}
use Rattle.tink_sets.proofs.asking.ask_entries.Goals as goal

pub returns-in-Some : goal.returns-in-Some
returns-in-Some g c =
    record {
      answer =
          accepted-prefixed (g.Q.Question.answers c.args.question.now) (group_of c.args.set.now.entries) c.args.input.now c.args.none c.in_ok-answer.field-0 c.in-Some.answer
          c.in_ok-answer.ensures.value c.in-Some.is;
    }

pub returns-in-Some-2 : goal.returns-in-Some-2
returns-in-Some-2 g c =
    let answers = g.Q.Question.answers c.args.question.now in
    let groups = group_of c.args.set.now.entries in
    let before = not_prefixed answers groups c.args.input.now c.in_ok-answer.field-0 c.in_default.not-Some c.in_ok-answer.ensures.value in
    record {
      answer =
          accepted-raw answers groups c.args.input.now c.args.none c.group.result.now c.in_ok-answer-2.field-0 before c.group.ensures.value c.in_ok-answer-2.ensures.value
          ∙ ap (value_or c.args.none) c.in-Some-2.is;
    }

pub returns-in-None : goal.returns-in-None
returns-in-None g c =
    let answers = g.Q.Question.answers c.args.question.now in
    let groups = group_of c.args.set.now.entries in
    let before = not_prefixed answers groups c.args.input.now c.in_ok-answer.field-0 c.in_default.not-Some c.in_ok-answer.ensures.value in
    let refused =
    accepted-raw answers groups c.args.input.now c.args.none c.group.result.now c.in_ok-answer-2.field-0 before c.group.ensures.value c.in_ok-answer-2.ensures.value
    ∙ ap (value_or c.args.none) c.in-None.is in
    record { answer = inr (refused ∙ ap (λ (e : TinkError). Err e.kind) (sym c.new.ensures)) }
