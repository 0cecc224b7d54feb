use Rattle.std.proofs.Common.{◌≡◌, ◌≤◌, ◌+◌, ◌-◌, ◌*◌, ◌/◌, ℕ, List, length, IfSome, ap, subst, sym, ◌∙◌}
use Rattle.std.specs.declared.option.Option.{Option}
use Rattle.tink_range.specs.ChunkReading.{ends_of}
use Rattle.tink_range.specs.Objects.{LeavesObject}
use Rattle.tink_range.specs.RangeCores.{cutting_of}
use Rattle.tink_range.specs.RangeReaders.{RangeState, cut_by}
use Rattle.tink_range.specs.RangeReading.{IsGivenExactly, RangeMeans, range_end, range_start}
use Rattle.tink_range.specs.StepCounts.{TakesTouched}
use Rattle.tink_range.proofs.CanGiveFacts.{is_given}
use Rattle.tink_range.proofs.ReadingFacts.{told_weaker}
use Rattle.tink_range.proofs.range_reader.RangeReader.read_range.Goals as goal

pub returns-clause-given : goal.returns-clause-given
returns-clause-given g c =
    let core = c.self.inside.core in
    let object = c.self.inside.object in
    let all : Option (List ℕ) = g.A.ReadAt.bytes object in
    let long : IfSome all (λ S. length S ≡ core.front + core.behind) = told_weaker all (λ S. length S ≡ g.A.ReadAt.length_of object) (λ S. length S ≡ core.front + core.behind) (λ S e. e ∙ sym c.self.invariant) (g.met.A.ReadAt.told object) in
    subst (λ (r : RangeState (g.row.A.Denot)). IsGivenExactly g.K.Sink.faults (cut_by r) r.behind c.args.start c.args.len
    (ends_of g.A.ReadAt.bytes g.A.ReadAt.faults r.object c.read_range.new.object c.args.sink.now c.read_range.new.sink) c.read_range.result)
    c.self.view_is
    (is_given g.K.Sink.got g.K.Sink.faults (cutting_of core) core.behind c.args.start c.args.len
    (ends_of g.A.ReadAt.bytes g.A.ReadAt.faults object c.read_range.new.object c.args.sink.now c.read_range.new.sink)
    core.opener.some core.opener.first_fits long c.read_range.result c.read_range.ensures.answer)

pub returns-clause-sizes : goal.returns-clause-sizes
returns-clause-sizes g c =
    (c.read_range.ensures.core.front ∙ ap (λ (r : RangeState (g.row.A.Denot)). r.front) c.self.view_is, c.read_range.ensures.core.behind ∙ ap (λ (r : RangeState (g.row.A.Denot)). r.behind) c.self.view_is, c.read_range.ensures.core.memory ∙ ap (λ (r : RangeState (g.row.A.Denot)). r.memory) c.self.view_is)

pub returns-clause-answer : goal.returns-clause-answer
returns-clause-answer g c =
    subst (λ (r : RangeState (g.row.A.Denot)). RangeMeans g.K.Sink.got g.K.Sink.faults (cut_by r) r.behind c.args.start c.args.len
    (ends_of g.A.ReadAt.bytes g.A.ReadAt.faults r.object c.read_range.new.object c.args.sink.now c.read_range.new.sink) c.read_range.result)
    c.self.view_is c.read_range.ensures.answer

pub returns-clause-ticks : goal.returns-clause-ticks
returns-clause-ticks g c = (
  (subst (λ (r : RangeState (g.row.A.Denot)). c.read_range.new.steps ≤ c.args.steps.now + (range_end (cut_by r) r.behind c.args.start c.args.len - range_start (cut_by r) r.behind c.args.start
      + (r.opening.size - r.opening.overhead) - 1) / (r.opening.size - r.opening.overhead) + 2)
      c.self.view_is c.read_range.ensures.ticks),
  (subst (λ (r : RangeState (g.row.A.Denot)). TakesTouched (cut_by r) (range_start (cut_by r) r.behind c.args.start) (range_end (cut_by r) r.behind c.args.start c.args.len) 1 c.args.steps.now c.read_range.new.steps c.read_range.result)
      c.self.view_is c.read_range.ensures.touched),
)

pub returns-clause-kept : goal.returns-clause-kept
returns-clause-kept g c =
    subst (λ (r : RangeState (g.row.A.Denot)). LeavesObject g.A.ReadAt.length_of g.A.ReadAt.bytes g.A.ReadAt.faults r.object c.read_range.new.object c.read_range.result)
    c.self.view_is c.read_range.ensures.kept

pub returns-clause-stays : goal.returns-clause-stays
returns-clause-stays g c = ((subst (λ (r : RangeState (g.row.A.Denot)). g.A.ReadAt.same r.object c.read_range.new.object) c.self.view_is c.read_range.ensures.object), c.read_range.ensures.later, c.read_range.ensures.sink)

pub returns-clause-taken : goal.returns-clause-taken
returns-clause-taken g c =
    subst (λ (r : RangeState (g.row.A.Denot)). g.A.ReadAt.taken c.read_range.new.object ≤ g.A.ReadAt.taken r.object + ((range_end (cut_by r) r.behind c.args.start c.args.len - range_start (cut_by r) r.behind c.args.start
    + (r.opening.size - r.opening.overhead) - 1) / (r.opening.size - r.opening.overhead) + 2) * r.opening.size)
    c.self.view_is c.read_range.ensures.taken
