-- The MACs of the two kinds.
use Rattle.std.specs.Prelude.{◌≡◌, ℕ, List, Result, Ok}
use Rattle.tink_io.specs.declared.error.Kind.{Kind}
use Rattle.tink_primitives.specs.Meaning.{IsMatch}
use Rattle.tink_mac.specs.declared.mac_kind.MacKind.{MacKind}
use Rattle.tink_mac.specs.declared.mac_kind.MacKind.TheVariants.{AesCmac, Hmac}
use Rattle.tink_mac.specs.Tags.{cmac_tag, hmac_tag, own_tag}
use Rattle.tink_mac.specs.TagLaws.{own_tag_match}

abbrev pub kind_tag : MacKind → List ℕ → List ℕ
kind_tag (AesCmac m) = cmac_tag m
kind_tag (Hmac m) = hmac_tag m

abbrev pub kind_computes : MacKind → List ℕ → Result (List ℕ) Kind
kind_computes m message = Ok (kind_tag m message)

-- exactly its own tag is accepted
abbrev pub kind_verifies : MacKind → List ℕ → List ℕ → Result (Unit {0}) Kind
kind_verifies m tag message = own_tag (kind_tag m message) tag

pub kind_verifies_told : (m : MacKind) (tag message : List ℕ) → IsMatch (kind_verifies m tag message)
kind_verifies_told m tag message = own_tag_match (kind_tag m message) tag

-- each of the two accepts the tag that it gives
abbrev pub AcceptsOwnTags : Type 0
AcceptsOwnTags = (m : MacKind) (message : List ℕ) → kind_verifies m (kind_tag m message) message ≡ Ok tt
