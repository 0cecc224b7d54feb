use Rattle.std.proofs.Common.{refl}
use Rattle.keyset_model.specs.Secrets.{key_info}
use Rattle.tink_keyset_rules.specs.ShownTexts.{further_text}
use Rattle.tink_keyset_rules.proofs.ShownLemmas.{next_written}
use Rattle.tink_keyset_rules.proofs.shown.write_further.Goals as goal

pub loop-key-preserved : goal.loop-key-preserved
loop-key-preserved g c = λ plain.
    let so_far = c.loop-key.invariant plain in
    next_written g.W.Write.write_str_gives c.args.f.now c.loop-key.f c.write_next.new.f (λ k. further_text (key_info k)) c.args.keys.now c.loop-key.key-index
    c.key-item.result c.loop-key-test.true c.key-item.is so_far (c.in_ok-write_next.ensures so_far.plain refl)
