use Rattle.std.proofs.Common.{◌∙◌}
use Rattle.tink_aead_subtle.proofs.gcm_key.keyed_by.Goals as goal

pub returns-in-Some : goal.returns-in-Some
returns-in-Some c = (c.new-in-Some.ensures ∙ c.new.ensures.value ∙ c.in-Some.ensures.0, c.in-Some.ensures.1)
