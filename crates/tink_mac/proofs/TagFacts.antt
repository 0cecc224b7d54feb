-- The refusals of HMAC's sizes.
use Rattle.std.proofs.Common.{◌≡◌, ℕ, List, Bool, true, false, Option, Some, None, Result, Ok, Err, ap, length}
use Rattle.std.specs.Prelude.{cond, nat_lt}
use Rattle.hash_keys.specs.declared.Hash.{Hash}
use Rattle.hash_keys.specs.Hash.{digest_size}
use Rattle.tink_io.specs.declared.error.Kind.{Kind}
use Rattle.tink_io.specs.declared.error.Kind.TheVariants.{BadKeySize, BadTagSize, UnknownHash}
use Rattle.tink_mac.specs.Tags.{hmac_params, hmac_tags, is_outside}

abbrev of_sizes : {T : Type 0} → Bool → Bool → T → Result T Kind
of_sizes tag key v = cond tag (Err BadTagSize) (cond key (Err BadKeySize) (Ok v))

by_size : {S T : Type 0} (tag key : Bool) (u : S) (v : T) (k : Kind) → of_sizes tag key u ≡ Err k → of_sizes tag key v ≡ Err k
by_size true key u v k e = let same : BadTagSize ≡ k = cc in ap Err same
by_size false true u v k e = let same : BadKeySize ≡ k = cc in ap Err same
by_size false false u v k e = absurd (cc)

pub hmac_tags_refused : (h : Option Hash) (key : List ℕ) (tag_size : ℕ) (k : Kind) → hmac_params h (length key) tag_size ≡ Err k → hmac_tags h key tag_size ≡ Err k
hmac_tags_refused None key tag_size k e = let same : UnknownHash ≡ k = cc in ap Err same
hmac_tags_refused (Some h) key tag_size k e =
    by_size (is_outside 10 (digest_size h) tag_size) (nat_lt (length key) 16) tt (record { hmac = record { hash = h; key = key }; tag_size = tag_size }) k e
