use Rattle.std.proofs.Common.{Err, ap, length, refl, subst, sym, arith, ◌∙◌}
use Rattle.std.proofs.lemmas.List.{length-take}
use Rattle.tink_streaming_segment.specs.declared.segment_traits.SegmentDecrypter.{Ghosts}
use Rattle.tink_streaming_ciphers.specs.declared.stream_segment.StreamSegment.{StreamSegment}
use Rattle.tink_streaming_io.specs.Readers.{SegmentOpening}
use Rattle.tink_streaming_segment.specs.declared.opener.Opener.{Opener}
use Rattle.tink_streaming_aead.specs.DecryptReaders.{DecryptMeans, DecryptState, KeepsNoMore, ReadsNoMore, TakesAtMost}
use Rattle.tink_streaming_aead.specs.DecryptStages.{state_of}
use Rattle.tink_streaming_aead.specs.declared.decrypt_reader.Stage.{Stage}
use Rattle.tink_streaming_aead.specs.declared.decrypt_reader.Stage.TheVariants.{Chosen, Stopped}
use Rattle.tink_streaming_aead.proofs.decrypt_reader.DecryptReader.read.Goals as goal

-- how a reader opens segments, as its state tells it
abbrev opening_of : {g : Ghosts StreamSegment} → Opener StreamSegment g → SegmentOpening StreamSegment
opening_of o = record { decrypter = o.decrypter; prefix = o.prefix.items; nonce_size = o.nonce_size; overhead = o.overhead; first = o.first; size = o.size }

pub returns-in-Chosen-clause-idle : goal.returns-in-Chosen-clause-idle
returns-in-Chosen-clause-idle g c =
    let new : DecryptState g.row.S.Denot = state_of (Chosen c.read.new.self) c.read.new.source in
    subst (λ (s : DecryptState g.row.S.Denot). ReadsNoMore g.S.Source.left g.S.Source.faults s new (length c.args.buf.now))
    (ap (λ (st : Stage). state_of st c.self.inside.source) (sym c.in-Chosen.is) ∙ c.self.view_is) c.read.ensures.idle

pub returns-in-Chosen-clause-taken : goal.returns-in-Chosen-clause-taken
returns-in-Chosen-clause-taken g c =
    let new : DecryptState g.row.S.Denot = state_of (Chosen c.read.new.self) c.read.new.source in
    subst (λ (s : DecryptState g.row.S.Denot). TakesAtMost g.S.Source.left s new)
    (ap (λ (st : Stage). state_of st c.self.inside.source) (sym c.in-Chosen.is) ∙ c.self.view_is) c.read.ensures.read

pub returns-in-Stopped-clause-answer : goal.returns-in-Stopped-clause-answer
returns-in-Stopped-clause-answer g c =
    let new : DecryptState g.row.S.Denot = state_of (Stopped c.in-Stopped.c) c.self.inside.source in
    subst (λ (s : DecryptState g.row.S.Denot). DecryptMeans g.S.Source.left g.S.Source.faults s new c.args.buf.now c.args.buf.now (Err c.new.result))
    (ap (λ (st : Stage). state_of st c.self.inside.source) (sym c.in-Stopped.is) ∙ c.self.view_is) (ap Err c.new.ensures, refl, refl)

pub returns-in-Chosen-clause-answer : goal.returns-in-Chosen-clause-answer
returns-in-Chosen-clause-answer g c =
    let new : DecryptState g.row.S.Denot = state_of (Chosen c.read.new.self) c.read.new.source in
    subst (λ (s : DecryptState g.row.S.Denot). DecryptMeans g.S.Source.left g.S.Source.faults s new c.args.buf.now c.read.new.buf c.read.result)
    (ap (λ (st : Stage). state_of st c.self.inside.source) (sym c.in-Chosen.is) ∙ c.self.view_is) (ap opening_of c.read.ensures.keeps.0, c.read.ensures.answer)

pub returns-in-Chosen-clause-room : goal.returns-in-Chosen-clause-room
returns-in-Chosen-clause-room g c =
    let new : DecryptState g.row.S.Denot = state_of (Chosen c.read.new.self) c.read.new.source in
    let r = c.read.new.self.reader in
    subst (λ (s : DecryptState g.row.S.Denot). KeepsNoMore s new)
    (ap (λ (st : Stage). state_of st c.self.inside.source) (sym c.in-Chosen.is) ∙ c.self.view_is)
    (record { kept = omega (arith, length-take r.filled r.buffer.items); room = omega (arith, c.read.ensures.keeps.1); memory = omega (arith, c.read.ensures.keeps.2) })
