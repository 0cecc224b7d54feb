use Rattle.tink_mac.specs.MacKinds.{kind_tag}
use Rattle.tink_mac.specs.TagLaws.{own_tag_own}
use Rattle.tink_mac.proofs.laws.law_own_tags_accepted.Goals as goal

pub returns : goal.returns
returns c m message = own_tag_own (kind_tag m message)
