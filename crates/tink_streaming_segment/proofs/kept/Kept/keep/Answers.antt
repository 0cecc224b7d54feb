use Rattle.tink_streaming_segment.proofs.kept.Kept.keep.Goals as goal

pub returns-clause-held : goal.returns-clause-held
returns-clause-held g c = c.hold.ensures.held
