use Rattle.tink_rewrap.specs.Rewrapping.{Sides}
use Rattle.tink_rewrap.proofs.PromiseSteps.{complete, succeeds, unended}
use Rattle.tink_rewrap.proofs.ReadsOnly.{reads_no_further}
use Rattle.tink_rewrap.proofs.rewrap.rewrapping.rewrap.Goals as goal

pub returns : goal.returns
returns g c = record {
  answer = c.answer.ensures.answer;
  rewrapped = (let s : Sides = record { from = c.args.from.now; from_aad = c.args.from_aad.now; to = c.args.to.now; to_aad = c.args.to_aad.now } in
      succeeds s c.args.draws.now c.answer.new.draws _ _ c.answer.result c.answer.ensures.answer);
  unended = (let s : Sides = record { from = c.args.from.now; from_aad = c.args.from_aad.now; to = c.args.to.now; to_aad = c.args.to_aad.now } in
      unended s c.args.draws.now c.answer.new.draws _ _ c.answer.result c.answer.ensures.answer);
  succeeds = (let s : Sides = record { from = c.args.from.now; from_aad = c.args.from_aad.now; to = c.args.to.now; to_aad = c.args.to_aad.now } in
      complete s c.args.draws.now c.answer.new.draws _ _ c.answer.result c.answer.ensures.answer);
  read = (let s : Sides = record { from = c.args.from.now; from_aad = c.args.from_aad.now; to = c.args.to.now; to_aad = c.args.to_aad.now } in
      reads_no_further s c.args.draws.now c.answer.new.draws _ _ c.answer.result c.answer.ensures.answer);
  early = c.answer.ensures.early;
  unwritten = (c.answer.ensures.unwritten, c.answer.ensures.begun);
  stays = (c.answer.ensures.later, c.answer.ensures.source, c.answer.ensures.sink);
}
