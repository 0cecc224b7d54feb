use Rattle.std.proofs.Common.{◌∙◌, ap, refl, sym}
use Rattle.tink_streaming_io.specs.Writing.{mode_after}
use Rattle.tink_streaming_io.proofs.WriterSteps.{closed_opens_not, few_more, none_fits}
use Rattle.tink_streaming_io.proofs.writing.SegmentWriter.put.Goals as goal

pub returns-in-Err-clause-answer : goal.returns-in-Err-clause-answer
returns-in-Err-clause-answer g c =
    let sent = c.in-Err.ensures in
    record { kind = sent.refused; failed = refl; held = refl; counted = refl; begun = rw c.deref_mut-2.ensures.value at sent.prefix; rose = sent.rose }

pub returns-in-Err-clause-sealer : goal.returns-in-Err-clause-sealer
returns-in-Err-clause-sealer g c = refl

pub returns-in-Err-clause-later : goal.returns-in-Err-clause-later
returns-in-Err-clause-later g c = c.in-Err.ensures.later

pub returns-in-Err-clause-same : goal.returns-in-Err-clause-same
returns-in-Err-clause-same g c = c.in-Err.ensures.same

pub returns-then-last-clause-sealer : goal.returns-then-last-clause-sealer
returns-then-last-clause-sealer g c = refl

pub returns-then-last-clause-later : goal.returns-then-last-clause-later
returns-then-last-clause-later g c = c.in-Ok.ensures.later

pub returns-then-last-clause-same : goal.returns-then-last-clause-same
returns-then-last-clause-same g c = c.in-Ok.ensures.same

pub returns-else-last-clause-sealer : goal.returns-else-last-clause-sealer
returns-else-last-clause-sealer g c = refl

pub returns-else-last-clause-later : goal.returns-else-last-clause-later
returns-else-last-clause-later g c = c.in-Ok.ensures.later

pub returns-else-last-clause-same : goal.returns-else-last-clause-same
returns-else-last-clause-same g c = c.in-Ok.ensures.same

pub returns-then-last-clause-answer : goal.returns-then-last-clause-answer
returns-then-last-clause-answer g c =
    record { appended = rw c.deref_mut-2.ensures.value at c.in-Ok.ensures.ok; held = refl; mode = ap mode_after (sym c.if-last.true); counted = refl }

pub returns-else-last-clause-answer : goal.returns-else-last-clause-answer
returns-else-last-clause-answer g c =
    record { appended = rw c.deref_mut-2.ensures.value at c.in-Ok.ensures.ok; held = refl; mode = c.requires.open ∙ ap mode_after (sym c.if-last.false); counted = refl }

pub invariant_of-self-in-Err : goal.invariant_of-self-in-Err
invariant_of-self-in-Err g c =
    let self = c.args.self.now in
    record { held_fits = none_fits _; segment_fits = self.segment_fits; nonce_fits = self.nonce_fits; few = self.few; open_few = λ _. self.open_few c.requires.open }

pub invariant_of-self : goal.invariant_of-self
invariant_of-self g c =
    let self = c.args.self.now in
    record { held_fits = none_fits _; segment_fits = self.segment_fits; nonce_fits = self.nonce_fits; few = few_more _ (self.open_few c.requires.open); open_few = λ opens. absurd (closed_opens_not opens) }

pub invariant_of-self-else-last : goal.invariant_of-self-else-last
invariant_of-self-else-last g c =
    let self = c.args.self.now in
    record { held_fits = none_fits _; segment_fits = self.segment_fits; nonce_fits = self.nonce_fits; few = few_more _ (self.open_few c.requires.open); open_few = λ _. c.requires.more c.if-last.false }
