use Rattle.std.proofs.Common.{◌≡◌, ◌≤◌, ◌<◌, ◌+◌, ◌-◌, ℕ, Bool, List, length, IfSome, ap, sym, subst, ◌∙◌, arith, le_of_eq}
use Rattle.std.specs.declared.option.Option.{Option}
use Rattle.stream_model.specs.Cut.{room_at}
use Rattle.tink_io.specs.declared.error.Kind.TheVariants.{BadSegment, ReadFault, Truncated}
use Rattle.tink_range.specs.ChunkReading.{OpensAt}
use Rattle.tink_range.specs.RangeCores.{chunk_in, cutting_of}
use Rattle.tink_range.proofs.LastFacts.{last_refusal, told_agrees, told_refused}
use Rattle.tink_range.proofs.ObjectSteps.{ok_leaves, refusal_leaves, within_one}
use Rattle.tink_range.proofs.ReadingFacts.{told_weaker}
use Rattle.tink_range.proofs.chunks.RangeCore.check_last.Goals as goal

pub returns-in-Ok-true-clause-answer : goal.returns-in-Ok-true-clause-answer
returns-in-Ok-true-clause-answer g c =
    let core = c.args.self.now in
    let all : Option (List ℕ) = g.A.ReadAt.bytes c.args.object.now in
    let long : IfSome all (λ S. length S ≡ core.front + core.behind) = told_weaker all (λ S. length S ≡ g.A.ReadAt.length_of c.args.object.now) (λ S. length S ≡ core.front + core.behind) (λ S e. e ∙ sym c.requires.object) (g.met.A.ReadAt.told c.args.object.now) in
    told_agrees (cutting_of core) core.behind c.args.number c.args.start (room_at core.opener.first core.opener.size c.args.number) c.requires.start c.requires.room c.requires.shape all c.open_chunk.new.self.buffers.text.items long
    (subst (λ (b : Bool). OpensAt (cutting_of core).seg (chunk_in core c.args.number c.args.start) all b c.open_chunk.new.self.buffers.text.items) c.in-Ok-true.field-0-test c.in-Ok-true.ensures.answer)

pub returns-then-self-start-clause-answer : goal.returns-then-self-start-clause-answer
returns-then-self-start-clause-answer g c =
    let core = c.args.self.now in
    let all : Option (List ℕ) = g.A.ReadAt.bytes c.args.object.now in
    let long : IfSome all (λ S. length S ≡ core.front + core.behind) = told_weaker all (λ S. length S ≡ g.A.ReadAt.length_of c.args.object.now) (λ S. length S ≡ core.front + core.behind) (λ S e. e ∙ sym c.requires.object) (g.met.A.ReadAt.told c.args.object.now) in
    rw c.new.ensures
    (told_refused (cutting_of core) core.behind c.args.number c.args.start (room_at core.opener.first core.opener.size c.args.number) c.requires.start c.requires.room c.requires.shape all c.open_chunk.new.self.buffers.text.items
    (λ len. len < core.opener.overhead) (omega (arith, c.if-self-start.true, c.in-Ok-false.ensures.core.behind, ap (λ o. o.overhead) c.in-Ok-false.ensures.core.opener)) long
    (subst (λ (b : Bool). OpensAt (cutting_of core).seg (chunk_in core c.args.number c.args.start) all b c.open_chunk.new.self.buffers.text.items) c.in-Ok-false.field-0-test c.in-Ok-false.ensures.answer))

pub returns-else-self-start-clause-answer : goal.returns-else-self-start-clause-answer
returns-else-self-start-clause-answer g c =
    let core = c.args.self.now in
    let all : Option (List ℕ) = g.A.ReadAt.bytes c.args.object.now in
    let long : IfSome all (λ S. length S ≡ core.front + core.behind) = told_weaker all (λ S. length S ≡ g.A.ReadAt.length_of c.args.object.now) (λ S. length S ≡ core.front + core.behind) (λ S e. e ∙ sym c.requires.object) (g.met.A.ReadAt.told c.args.object.now) in
    let same = c.in-Ok-false.ensures.core in
    let size : core.opener.overhead ≤ core.behind - c.args.start = omega (arith, c.if-self-start.false, same.behind, ap (λ o. o.overhead) same.opener) in
    rw c.new-in-Ok-false.ensures
    (told_refused (cutting_of core) core.behind c.args.number c.args.start (room_at core.opener.first core.opener.size c.args.number) c.requires.start c.requires.room c.requires.shape all c.open_chunk.new.self.buffers.text.items
    (λ len. core.opener.overhead ≤ len) size long
    (subst (λ (b : Bool). OpensAt (cutting_of core).seg (chunk_in core c.args.number c.args.start) all b c.open_chunk.new.self.buffers.text.items) c.in-Ok-false.field-0-test c.in-Ok-false.ensures.answer))

pub returns-in-Err-clause-answer : goal.returns-in-Err-clause-answer
returns-in-Err-clause-answer g c =
    let core = c.args.self.now in
    last_refusal (cutting_of core) core.behind (g.A.ReadAt.bytes c.args.object.now) (g.A.ReadAt.faults c.args.object.now) (g.A.ReadAt.faults c.open_chunk.new.object) c.new-in-Err.result ReadFault c.new-in-Err.ensures c.in-Err.ensures.read.count

-- the object has failed as often as before, or once more

pub returns-then-self-start-clause-kept : goal.returns-then-self-start-clause-kept
returns-then-self-start-clause-kept g c =
    refusal_leaves g.A.ReadAt.length_of g.A.ReadAt.bytes g.A.ReadAt.faults c.args.object.now c.open_chunk.new.object c.new.result (Truncated c.args.number) c.new.ensures c.in-Ok-false.ensures.read.kept c.in-Ok-false.ensures.read.count

pub returns-else-self-start-clause-kept : goal.returns-else-self-start-clause-kept
returns-else-self-start-clause-kept g c =
    refusal_leaves g.A.ReadAt.length_of g.A.ReadAt.bytes g.A.ReadAt.faults c.args.object.now c.open_chunk.new.object c.new-in-Ok-false.result (BadSegment c.args.number) c.new-in-Ok-false.ensures c.in-Ok-false.ensures.read.kept c.in-Ok-false.ensures.read.count

pub returns-in-Err-clause-kept : goal.returns-in-Err-clause-kept
returns-in-Err-clause-kept g c =
    refusal_leaves g.A.ReadAt.length_of g.A.ReadAt.bytes g.A.ReadAt.faults c.args.object.now c.open_chunk.new.object c.new-in-Err.result ReadFault c.new-in-Err.ensures c.in-Err.ensures.read.kept c.in-Err.ensures.read.count

-- after a step or none

pub returns-in-Ok-true-clause-ticks : goal.returns-in-Ok-true-clause-ticks
returns-in-Ok-true-clause-ticks g c = c.in-Ok-true.ensures.ticks

pub returns-then-self-start-clause-ticks : goal.returns-then-self-start-clause-ticks
returns-then-self-start-clause-ticks g c = le_of_eq c.in-Ok-false.ensures.ticks

pub returns-else-self-start-clause-ticks : goal.returns-else-self-start-clause-ticks
returns-else-self-start-clause-ticks g c = le_of_eq c.in-Ok-false.ensures.ticks

pub returns-in-Err-clause-ticks : goal.returns-in-Err-clause-ticks
returns-in-Err-clause-ticks g c = within_one c.args.steps.now c.open_chunk.new.steps c.in-Err.ensures.ticks

-- the object and the core are the ones that they were

pub returns-in-Ok-true-clause-same : goal.returns-in-Ok-true-clause-same
returns-in-Ok-true-clause-same g c = c.in-Ok-true.ensures.read.same

pub returns-in-Ok-true-clause-core : goal.returns-in-Ok-true-clause-core
returns-in-Ok-true-clause-core g c = c.in-Ok-true.ensures.core

pub returns-then-self-start-clause-same : goal.returns-then-self-start-clause-same
returns-then-self-start-clause-same g c = c.in-Ok-false.ensures.read.same

pub returns-then-self-start-clause-core : goal.returns-then-self-start-clause-core
returns-then-self-start-clause-core g c = c.in-Ok-false.ensures.core

pub returns-else-self-start-clause-same : goal.returns-else-self-start-clause-same
returns-else-self-start-clause-same g c = c.in-Ok-false.ensures.read.same

pub returns-else-self-start-clause-core : goal.returns-else-self-start-clause-core
returns-else-self-start-clause-core g c = c.in-Ok-false.ensures.core

pub returns-in-Err-clause-same : goal.returns-in-Err-clause-same
returns-in-Err-clause-same g c = c.in-Err.ensures.read.same

pub returns-in-Err-clause-core : goal.returns-in-Err-clause-core
returns-in-Err-clause-core g c = c.in-Err.ensures.core

pub returns-in-Ok-true-clause-kept : goal.returns-in-Ok-true-clause-kept
returns-in-Ok-true-clause-kept g c = let read = c.in-Ok-true.ensures.read in ok_leaves g.A.ReadAt.length_of g.A.ReadAt.bytes g.A.ReadAt.faults c.args.object.now c.open_chunk.new.object tt read.kept read.count

pub returns-in-Ok-true-clause-taken : goal.returns-in-Ok-true-clause-taken
returns-in-Ok-true-clause-taken g c = c.in-Ok-true.ensures.taken

pub returns-then-self-start-clause-taken : goal.returns-then-self-start-clause-taken
returns-then-self-start-clause-taken g c = c.in-Ok-false.ensures.taken

pub returns-else-self-start-clause-taken : goal.returns-else-self-start-clause-taken
returns-else-self-start-clause-taken g c = c.in-Ok-false.ensures.taken

pub returns-in-Err-clause-taken : goal.returns-in-Err-clause-taken
returns-in-Err-clause-taken g c = c.in-Err.ensures.taken
