-- What MACs with tags tell.
use Rattle.std.specs.Prelude.{◌≡◌, ℕ, List, Ok, Err, cond}
use Rattle.std.proofs.Common.{ap, refl}
use Rattle.std.specs.Str.{bytes_eq}
use Rattle.std.specs.Cmp.Lexicographic.{bytes_decides}
use Rattle.tink_io.specs.declared.error.Kind.TheVariants.{MacMismatch}
use Rattle.tink_primitives.specs.Meaning.{IsMatch}
use Rattle.tink_mac.specs.Tags.{own_tag}
use Rattle.tink_mac.specs.WrappedLaws.{match_if}

pub own_tag_match : (own tag : List ℕ) → IsMatch (own_tag own tag)
own_tag_match own tag = match_if (bytes_eq own tag) (Ok tt) (Err MacMismatch) tt tt

-- its own tag is accepted
pub own_tag_own : (own : List ℕ) → own_tag own own ≡ Ok tt
own_tag_own own = ap (λ b. cond b (Ok tt) (Err MacMismatch)) ((bytes_decides own own).1 refl)
