use Rattle.std.proofs.Common.{◌<◌, ◌+◌, length, arith, refl}
use Rattle.stream_model.specs.Cut.{room_at}
use Rattle.tink_streaming_segment.proofs.HeldFacts.{loses_none, loses_by_held}
use Rattle.tink_streaming_io.proofs.TextFacts.{ready_held, told_end, not_none, over}
use Rattle.tink_streaming_io.proofs.text_reader.TextReader.make_ready.Goals as goal

pub returns-then-self-len-clause-answer : goal.returns-then-self-len-clause-answer
returns-then-self-len-clause-answer g c =
    let self = c.args.self.now in
    let some : self.given < length self.reader.opened.items = omega (arith, self.reader.opened.ok.0) in
    ready_held _ _ _ _ c.requires.lives (λ d. not_none self.given self.reader.opened.items some d.pending) (λ e. absurd (not_none self.given self.reader.opened.items some e)) (λ e. told_end _ (c.requires.at_end e))

pub returns-in_default : goal.returns-in_default
returns-in_default g c =
    let self = c.args.self.now in
    let ended = over self.reader.progress c.requires.lives c.in_default.not-Running in
    record {
      answer = ready_held _ _ _ _ c.requires.lives (λ d. c.in_default.not-Running d.running)
          (λ e. record { ended = ended; some = self.reader.ended_some ended; pending = e; rest = told_end _ (c.requires.at_end ended) })
          (λ e. told_end _ (c.requires.at_end e));
      idle = λ _. (refl, refl);
      read = loses_none _ _;
      opener = refl;
      room = refl;
      memory = refl;
      later = omega arith;
      same = g.met.S.Source.same_refl _;
    }

pub returns-then-self-len-clause-read : goal.returns-then-self-len-clause-read
returns-then-self-len-clause-read g c = loses_none _ _

pub returns-in-Running-clause-read : goal.returns-in-Running-clause-read
returns-in-Running-clause-read g c =
    let reader = c.args.self.now.reader in
    loses_by_held (room_at reader.opener.first reader.opener.size reader.segments + 1) reader.filled reader.buffer.items _ _ (omega (arith, reader.filled_in, reader.buffer.ok.0)) c.open_next.ensures.read
