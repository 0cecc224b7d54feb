use Rattle.tink_rewrap.proofs.ranges.of_set.range_within.Goals as goal

pub returns : goal.returns
returns g c = record {
  answer = c.range_under.ensures.answer;
  ticks = c.range_under.ensures.ticks;
  taken = c.range_under.ensures.taken;
  kept = c.range_under.ensures.kept;
  later = c.range_under.ensures.later;
  object = c.range_under.ensures.object;
  sink = c.range_under.ensures.sink;
}

pub range_under-requires : goal.range_under-requires
range_under-requires g c = record { room = c.requires.room }
