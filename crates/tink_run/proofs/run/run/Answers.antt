use Rattle.tink_run.proofs.Promises.{succeeds, only_agreeing, complete}
use Rattle.tink_run.proofs.run.run.Goals as goal

pub returns : goal.returns
returns g c = record {
  answer = c.answer.ensures.answer;
  ok = succeeds c.args.command c.args.keyset.now c.args.aad.now c.args.draws.now c.answer.new.draws _ _ c.answer.result c.answer.ensures.answer;
  written = only_agreeing c.args.command c.args.keyset.now c.args.aad.now c.args.draws.now c.answer.new.draws _ _ c.answer.result c.answer.ensures.answer;
  succeeds = complete c.args.command c.args.keyset.now c.args.aad.now c.args.draws.now c.answer.new.draws _ _ c.answer.result c.answer.ensures.answer;
  read = c.answer.ensures.read;
  early = c.answer.ensures.early;
  unwritten = c.answer.ensures.unwritten;
  stays = (c.answer.ensures.later, c.answer.ensures.source, c.answer.ensures.sink);
}
