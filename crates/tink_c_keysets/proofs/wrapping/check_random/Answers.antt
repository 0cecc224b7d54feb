use Rattle.tink_c_keysets.proofs.Given.{asked}
use Rattle.tink_c_keysets.proofs.wrapping.check_random.Goals as goal

pub returns : goal.returns
returns c = λ m is.
    asked m c.args.master.now c.args.associated_data.now _ c.args.random.now _ c.encrypt.result c.unless_short.result is c.in_ok-draws.ensures.ok c.encrypt.ensures.replies c.unless_short.ensures
