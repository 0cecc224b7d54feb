use Rattle.std.proofs.Common.{ap, inl, inr}
use Rattle.tink_cli_keys.proofs.MasterLemmas.{not_loaded}
use Rattle.tink_cli_keys.proofs.wrapping.spared_master.Goals as goal

pub returns-in-Ok-clause-refused : goal.returns-in-Ok-clause-refused
returns-in-Ok-clause-refused g c =
    not_loaded c.args.words (g.Y.System.state c.args.system.now) (g.Y.System.state c.spare_words.new.system) (g.Y.System.faults c.args.system.now)
    (g.Y.System.faults c.spare_words.new.system) (g.Y.System.faults c.master_in.new.system) c.master_in.result (ap (λ s. g.Y.System.state s) c.spare_words.ensures.still)
    (ap (λ s. g.Y.System.faults s) c.spare_words.ensures.still) c.master_in.ensures.refused

pub returns-in-Err-clause-refused : goal.returns-in-Err-clause-refused
returns-in-Err-clause-refused g c = λ known. inl (inr (c.in-Err.ensures.refused, c.in-Err.ensures.cause known))
