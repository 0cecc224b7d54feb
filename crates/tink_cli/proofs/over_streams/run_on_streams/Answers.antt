use Rattle.std.proofs.Common.{◌≡◌, ℕ, List, subst}
use Rattle.std.specs.Prelude.{Option, Some, String, Vec}
use Rattle.tink_cli_words.specs.Forms.{words_of}
use Rattle.tink_cli_words.specs.Words.{byte_words}
use Rattle.tink_cli.specs.Claims.{AreTexts, EndedOverStreams}
use Rattle.tink_cli.proofs.over_streams.run_on_streams.Goals as goal

are_texts : {A G : Type 0} (words : List (List ℕ)) (o : Option (Vec (String A) G)) (texts : Vec (String A) G) → o ≡ Some texts → AreTexts words o → words_of texts ≡ words
are_texts words o texts is are = rw is at are

pub returns-in-Ok-Some-clause-ended : goal.returns-in-Ok-Some-clause-ended
returns-in-Ok-Some-clause-ended g c =
    subst (λ (words : List (List ℕ)). EndedOverStreams words (g.Y.System.state c.args.system.now) (g.Y.System.faults c.args.system.now)
    (g.Y.System.faults c.run_texts.new.system) (g.K.Sink.got c.args.sink.now) (g.K.Sink.got c.run_texts.new.sink) c.run_texts.result)
    (are_texts (byte_words c.args.words.now) c.in-Ok-Some.field-0 c.in-Ok-Some.texts c.in-Ok-Some.field-0-is c.in-Ok-Some.ensures.texts) c.run_texts.ensures.ended
