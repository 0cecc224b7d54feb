-- The key that is chosen for a stream is by itself a keyset that loads.
use Rattle.std.proofs.Common.{◌≡◌, ℕ, zero, suc, List, [], ◌∷◌, Bool, true, false, cond, Some, refl, subst, arith, ◌&&◌, ◌||◌}
use Rattle.std.specs.Prelude.{Result, Ok, Err, nat_eq, slice_get}
use Rattle.std.specs.List.{list_all}
use Rattle.std.proofs.lemmas.Bool.Decides.{nat_tests}
use Rattle.tink_io.specs.declared.error.Kind.{Kind}
use Rattle.tink_io.specs.declared.error.Kind.TheVariants.{InvalidKeyset}
use Rattle.tink_proto.specs.declared.messages.keys.Key.{Key}
use Rattle.tink_proto.specs.declared.messages.keys.Keyset.{Keyset}
use Rattle.keyset_model.specs.Keys.{is_enabled}
use Rattle.keyset_model.specs.Validity.{are_well_formed, has_a_key, has_an_enabled_key, has_at_most_one_primary, has_a_primary, is_all_public, fits_handle, is_held_keyset, is_valid, is_validated, is_well_formed}
use Rattle.keyset_model.proofs.EditLaws.{both}
use Rattle.stream_model.specs.Key.{StreamKey}
use Rattle.stream_model.specs.Opening.{opening_key}
use Rattle.loading_model.specs.Loading.{Loaded, LoadedKey, LoadingRow, load_keys, load_keyset, opening_keys}
use Rattle.loading_model.specs.Rotation.{BuildsKey, IsChosenAt, LoadsAlone, alone}

same_some : (a b : Key) → Some a ≡ Some b → a ≡ b
same_some a b e = cc

-- what passes each key's test passes the chosen one's
passes_at : (test : Key → Bool) (keys : List Key) (place : ℕ) (k : Key) → list_all test keys ≡ true
    → slice_get keys place ≡ Some k → test k ≡ true
passes_at test [] place k all at = absurd (cc)
passes_at test (j ∷ keys) zero k all at =
    subst (λ x. test x ≡ true) (same_some j k at) (both (test j) (list_all test keys) all).0
passes_at test (j ∷ keys) (suc place) k all at =
    passes_at test keys place k (both (test j) (list_all test keys) all).1 at

module _ (rows : List LoadingRow) (aad S : List ℕ) where
  builds_at : (keys : List Key) (place id : ℕ) (key : StreamKey) (k : Key) → IsChosenAt rows aad S keys place id key
      → slice_get keys place ≡ Some k → BuildsKey rows k key
  builds_at [] place id key k chosen at = absurd chosen
  builds_at (j ∷ keys) zero id key k chosen at = subst (λ x. BuildsKey rows x key) (same_some j k at) chosen.1
  builds_at (j ∷ keys) (suc place) id key k chosen at = builds_at keys place id key k chosen.1 at

same_id : (id : ℕ) → nat_eq id id ≡ true
same_id id = grind (arith, nat_tests)

-- an enabled key that is held and well formed is valid by itself
valid_alone : (k : Key) → fits_handle k ≡ true → is_well_formed k ≡ true → is_enabled k ≡ true → is_valid (alone k) ≡ true
valid_alone k held formed on = rw (held, formed, on, same_id k.key_id) refl

valid_parts : (ks : Keyset) → is_valid ks ≡ true → (list_all fits_handle ks.key ≡ true) × (list_all is_well_formed ks.key ≡ true)
valid_parts ks valid =
    let parts = both (is_held_keyset ks) (is_validated ks) valid in
    let keys = both (has_a_key ks) (are_well_formed ks) (both (has_a_key ks && are_well_formed ks) (has_at_most_one_primary ks)
    (both (has_a_key ks && are_well_formed ks && has_at_most_one_primary ks) (has_an_enabled_key ks)
    (both (has_a_key ks && are_well_formed ks && has_at_most_one_primary ks && has_an_enabled_key ks)
    (has_a_primary ks || is_all_public ks) parts.1).0).0).0 in
    (parts.0, keys.1)

module _ (rows : List LoadingRow) (aad : List ℕ) (k : Key) (key : StreamKey) where
  abbrev one : LoadedKey
  one = record { id = k.key_id; prefix_type = k.output_prefix_type; key = key }

  abbrev by_itself : Loaded
  by_itself = record { keys = one ∷ []; primary = key }

  loads : BuildsKey rows k key → load_keys rows (alone k) ≡ Ok by_itself
  loads b = rw (b.is) (rw (b.enabled, b.built, same_id k.key_id) refl)

  opens : opening_keys aad by_itself ≡ opening_key aad key ∷ []
  opens = refl

if_ok : (v : Bool) (r : Result Loaded Kind) (l : Loaded) → cond v r (Err InvalidKeyset) ≡ Ok l → v ≡ true
if_ok true r l e = refl
if_ok false r l e = absurd (cc)

tested : (ks : Keyset) (rows : List LoadingRow) (l : Loaded) → load_keyset rows ks ≡ Ok l → is_valid ks ≡ true
tested ks rows l e = if_ok (is_valid ks) (load_keys rows ks) l e

pub loads_alone : LoadsAlone
loads_alone rows ks l aad S place id key k e chosen at =
    let parts = valid_parts ks (tested ks rows l e) in
    let b = builds_at rows aad S ks.key place id key k chosen at in
    let valid = valid_alone k (passes_at fits_handle ks.key place k parts.0 at)
    (passes_at is_well_formed ks.key place k parts.1 at) b.enabled in
    (by_itself rows aad k key, rw valid (loads rows aad k key b), opens rows aad k key)
