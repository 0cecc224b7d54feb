use Rattle.std.proofs.Common.{rules, ◌≡◌, ◌-◌, List, ℕ, length, take, drop, min, arith, ap, refl, sym, ◌∙◌, length-drop}
use Rattle.std.proofs.lemmas.List.{take_all, drop-drop}
use Rattle.std.proofs.lemmas.Result.{err_from_is_err_and}
use Rattle.tink_streaming_io.specs.Openers.{segment_map, text_moment}
use Rattle.tink_streaming_io.specs.TextReading.{of_segments}
use Rattle.tink_streaming_segment.proofs.HeldFacts.{loses_none}
use Rattle.tink_streaming_io.proofs.TextFacts.{due_room, gives_none, given_ready, told_end, end_told, not_failed, refused_ends_not, refused_read, some_by}
use Rattle.tink_streaming_io.proofs.text_reader.TextReader.read.Goals as goal

pub returns-then-is_empty : goal.returns-then-is_empty
returns-then-is_empty g c =
    let self = c.args.self.now in
    let none : length c.args.buf.now ≡ 0 = search rules in
    record {
      answer = gives_none _ _ _ _ c.args.buf.now (not_failed self.reader.progress c.in_default.not-Failed) none (λ e. told_end _ (c.requires.at_end e));
      within = omega arith;
      at_end = c.requires.at_end;
      idle = λ _. (refl, refl);
      read = loses_none _ _;
      keeps = (refl, refl, refl);
      stays = (omega arith, g.met.S.Source.same_refl _);
    }

pub returns : goal.returns
returns g c =
    let then = c.make_ready.new.self in
    let opened : List ℕ = drop then.given then.reader.opened.items in
    let part_is : take (length c.deref.result.now - then.given) (drop then.given c.deref.result.now) ≡ opened =
    take_all _ (drop then.given c.deref.result.now) (omega (arith, length-drop then.given c.deref.result.now)) ∙ ap (drop then.given) c.deref.ensures.value in
    let some = some_by (length c.args.buf.now) c.if-is_empty.ensures in
    let answer = given_ready _ _ _ _ _ c.args.buf.now c.give-n.new.buf _ c.give-n.result (not_failed c.args.self.now.reader.progress c.in_default.not-Failed) c.in_ok-make_ready.ensures.answer some
    (c.give-n.ensures.count ∙ ap (λ x. min (length c.args.buf.now) (length x)) part_is) (c.give-n.ensures.given ∙ ap (take c.give-n.result) part_is) c.give-n.ensures.behind
    (sym (drop-drop c.give-n.result then.given then.reader.opened.items)) in
    record {
      answer = answer;
      within = omega (arith, c.give-n.ensures.count, c.give-n.auto.buf);
      at_end = λ e. end_told _ (answer.ends e);
      idle = λ none. c.in_ok-make_ready.ensures.idle (λ d. none (due_room _ (length c.args.buf.now) some d));
      read = c.in_ok-make_ready.ensures.read;
      keeps = (c.in_ok-make_ready.ensures.opener, c.in_ok-make_ready.ensures.room, c.in_ok-make_ready.ensures.memory);
      stays = (c.in_ok-make_ready.ensures.later, c.in_ok-make_ready.ensures.same);
    }

pub returns-in-Failed-clause-read : goal.returns-in-Failed-clause-read
returns-in-Failed-clause-read g c = loses_none _ _

pub returns-in_err-make_ready-clause-read : goal.returns-in_err-make_ready-clause-read
returns-in_err-make_ready-clause-read g c = c.in_err-make_ready.ensures.read

pub returns-in_err-make_ready-clause-answer : goal.returns-in_err-make_ready-clause-answer
returns-in_err-make_ready-clause-answer g c =
    let p = err_from_is_err_and c.from_residual.result c.from_residual.ensures.1 in
    let opener = c.args.self.now.reader.opener in
    let some = some_by (length c.args.buf.now) c.if-is_empty.ensures in
    rw (p.1, p.2) (
      refl,
      refused_read (segment_map opener) opener.first opener.size opener.overhead (text_moment g.S.Source.left g.S.Source.faults c.args.self.now c.args.source.now)
          (text_moment g.S.Source.left g.S.Source.faults c.make_ready.new.self c.make_ready.new.source) (length c.args.buf.now) _ some c.in_err-make_ready.ensures.answer,
    )

pub returns-in_err-make_ready-clause-at_end : goal.returns-in_err-make_ready-clause-at_end
returns-in_err-make_ready-clause-at_end g c =
    let opener = c.args.self.now.reader.opener in
    λ ended. absurd (refused_ends_not (segment_map opener) opener.first opener.size opener.overhead (of_segments (text_moment g.S.Source.left g.S.Source.faults c.args.self.now c.args.source.now))
    (of_segments (text_moment g.S.Source.left g.S.Source.faults c.make_ready.new.self c.make_ready.new.source)) _ c.in_err-make_ready.ensures.answer.1 ended)
