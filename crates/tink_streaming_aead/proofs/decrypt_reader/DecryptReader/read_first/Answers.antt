use Rattle.std.proofs.Common.{Ok, Err, ap, map, subst, sym, vec_len, arith, ◌∙◌}
use Rattle.std.proofs.lemmas.List.{length-take}
use Rattle.tink_streaming_keys.specs.StreamKinds.{key_in_set}
use Rattle.tink_streaming_aead.specs.DecryptReaders.{DecryptMeans, DecryptState, KeepsNoMore, TakesAtMost}
use Rattle.tink_streaming_aead.specs.DecryptStages.{state_of}
use Rattle.tink_streaming_aead.specs.declared.decrypt_reader.Stage.{Stage}
use Rattle.tink_streaming_aead.specs.declared.decrypt_reader.Stage.TheVariants.{Chosen, Stopped}
use Rattle.tink_streaming_aead.proofs.DecryptSteps.{first_read}
use Rattle.tink_streaming_aead.proofs.decrypt_reader.DecryptReader.read_first.Goals as goal

pub returns-in-Ok-clause-answer : goal.returns-in-Ok-clause-answer
returns-in-Ok-clause-answer g c =
    let left = g.S.Source.left in
    let faults = g.S.Source.faults in
    let choice = c.in-Unread.choice in
    let new : DecryptState g.row.S.Denot = state_of (Chosen c.in-Ok.text) c.give_first.new.source in
    subst (λ (s : DecryptState g.row.S.Denot). DecryptMeans left faults s new c.args.buf.now c.give_first.new.buf (Ok c.in-Ok.n))
    (ap (λ (st : Stage). state_of st c.self.inside.source) (sym c.in-Unread.is ∙ c.replace-stage.ensures.value) ∙ c.self.view_is)
    (first_read left faults (map key_in_set choice.keys.items) choice.data.items (vec_len choice.trial.kept.buffer) c.self.inside.source new c.args.buf.now c.give_first.new.buf (Ok c.in-Ok.n) c.requires.some c.in-Ok.ensures.answer)

pub returns-in-Err-clause-taken : goal.returns-in-Err-clause-taken
returns-in-Err-clause-taken g c =
    let left = g.S.Source.left in
    let new : DecryptState g.row.S.Denot = state_of (Stopped c.cause_of.result) c.give_first.new.source in
    subst (λ (s : DecryptState g.row.S.Denot). TakesAtMost left s new)
    (ap (λ (st : Stage). state_of st c.self.inside.source) (sym c.in-Unread.is ∙ c.replace-stage.ensures.value) ∙ c.self.view_is) (c.in-Err.ensures.read, c.in-Err.ensures.fronts)

pub returns-in-Ok-clause-taken : goal.returns-in-Ok-clause-taken
returns-in-Ok-clause-taken g c =
    let left = g.S.Source.left in
    let new : DecryptState g.row.S.Denot = state_of (Chosen c.in-Ok.text) c.give_first.new.source in
    subst (λ (s : DecryptState g.row.S.Denot). TakesAtMost left s new)
    (ap (λ (st : Stage). state_of st c.self.inside.source) (sym c.in-Unread.is ∙ c.replace-stage.ensures.value) ∙ c.self.view_is) c.in-Ok.ensures.read

pub returns-in-Ok-clause-room : goal.returns-in-Ok-clause-room
returns-in-Ok-clause-room g c =
    let new : DecryptState g.row.S.Denot = state_of (Chosen c.in-Ok.text) c.give_first.new.source in
    let r = c.in-Ok.text.reader in
    subst (λ (s : DecryptState g.row.S.Denot). KeepsNoMore s new)
    (ap (λ (st : Stage). state_of st c.self.inside.source) (sym c.in-Unread.is ∙ c.replace-stage.ensures.value) ∙ c.self.view_is)
    (record {
      kept = omega (arith, length-take r.filled r.buffer.items);
      room = omega (arith, c.in-Ok.ensures.room);
      memory = omega (arith, c.in-Ok.ensures.memory, c.in-Unread.choice.memory);
    })

pub returns-in-Err-clause-answer : goal.returns-in-Err-clause-answer
returns-in-Err-clause-answer g c =
    let left = g.S.Source.left in
    let faults = g.S.Source.faults in
    let choice = c.in-Unread.choice in
    let new : DecryptState g.row.S.Denot = state_of (Stopped c.cause_of.result) c.give_first.new.source in
    subst (λ (s : DecryptState g.row.S.Denot). DecryptMeans left faults s new c.args.buf.now c.give_first.new.buf (Err c.in-Err.e))
    (ap (λ (st : Stage). state_of st c.self.inside.source) (sym c.in-Unread.is ∙ c.replace-stage.ensures.value) ∙ c.self.view_is)
    (first_read left faults (map key_in_set choice.keys.items) choice.data.items (vec_len choice.trial.kept.buffer) c.self.inside.source new c.args.buf.now c.give_first.new.buf (Err c.in-Err.e) c.requires.some
    (c.in-Err.ensures.answer.0, c.cause_of.ensures, c.in-Err.ensures.answer.1))
