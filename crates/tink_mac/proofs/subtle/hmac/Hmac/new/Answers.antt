use Rattle.std.proofs.Common.{inr}
use Rattle.tink_core_subtle.specs.Hashes.{hash_named}
use Rattle.tink_mac.proofs.TagFacts.{hmac_tags_refused}
use Rattle.tink_mac.proofs.subtle.hmac.Hmac.new.Goals as goal

pub returns-in-Err : goal.returns-in-Err
returns-in-Err c = inr (hmac_tags_refused (hash_named c.args.hash) c.args.key.now c.args.tag_size c.in-Err.e.kind c.in-Err.ensures)
