-- Tokens that were signed before a keyset was edited.
use Rattle.std.specs.Prelude.{◌≡◌, ℕ, List, All, Bool, Option, Some, Result, Ok, Vec}
use Rattle.std.specs.BTreeMap.{BTreeMap}
use Rattle.std.specs.declared.alloc.Global.{Global}
use Rattle.std.specs.List.{Contains}
use Rattle.tink_io.specs.declared.error.Kind.{Kind}
use Rattle.tink_proto.specs.declared.messages.keys.Key.{Key}
use Rattle.tink_proto.specs.declared.messages.keys.Keyset.{Keyset}
use Rattle.tink_primitives.specs.declared.primitive.Primitive.{Primitive}
use Rattle.tink_sets.specs.Groups.{group_of}
use Rattle.tink_sets.specs.declared.entry.TypedEntry.{TypedEntry}
use Rattle.keyset_model.specs.Operations.{Operation, Maker, Managed, after_all}
use Rattle.keyset_model.specs.Keys.{enabled}
use Rattle.keyset_model.specs.Spared.{Spares}
use Rattle.tink_mac.specs.Rotation.{mac_entries, mac_entry, BuildsSound, IsMacBy}
use Rattle.tink_mac.specs.Wrapped.{Computes, IsMacOf, Verifies}
use Rattle.tink_mac.specs.Tokens.{spelled, IsAccepted, IsSigned, IsTokenOf}

-- An entry signed the token of this payload, its primitive accepts its own tag of it, and the MAC has more than five
-- bytes.
pub record IsSignedBy {P : Type 0} (computes : Computes P) (verifies : Verifies P) (e : TypedEntry P)
    (payload token : List ℕ) : Type 0 where
  pub mac : List ℕ
  pub is : IsTokenOf token payload mac
  pub by : IsMacBy computes verifies e (spelled payload) mac

module _ {M K A D HD HE P F S St V : Type 0} (url : M → List ℕ) (supports : M → List ℕ → Bool)
    (builds : M → List ℕ → Result (Primitive K A D HD HE P F S St V) Kind) (computes : Computes P)
    (verifies : Verifies P) where
  -- the primary entry and the groups are those of the MACs of a keyset
  abbrev pub AreMacsOf : List M → Keyset → Option (TypedEntry P) → BTreeMap (Vec ℕ Global) (List (TypedEntry P))
      → Type 0
  AreMacsOf managers ks primary groups =
      (es : List (TypedEntry P)) × (mac_entries url supports builds managers ks ≡ Ok es)
      × IsMacOf computes verifies ks.primary_key_id es primary groups

  -- What a key's entry signed is verified by the MACs of every keyset in which the key is enabled.
  abbrev pub OldTokensVerify : Type 0
  OldTokensVerify =
      (managers : List M) (ks : Keyset) (k : Key) (e : TypedEntry P) (primary : Option (TypedEntry P))
      (groups : BTreeMap (Vec ℕ Global) (List (TypedEntry P))) (payload token : List ℕ)
      → mac_entry url supports builds managers k ≡ Ok e → Contains (enabled ks) k
      → AreMacsOf managers ks primary groups → IsSignedBy computes verifies e payload token
      → IsAccepted verifies (group_of groups) token payload

  -- What the MACs of a keyset signed is verified by those of the keyset after each list of commands that disables,
  -- destroys and deletes no key of the id that was primary.
  abbrev pub TokensOutlive : Type 0
  TokensOutlive =
      BuildsSound builds computes verifies
      → (managers : List M) (makes : Maker) (m : Managed) (commands : List Operation)
      (primary later : Option (TypedEntry P)) (groups edited : BTreeMap (Vec ℕ Global) (List (TypedEntry P)))
      (payload token : List ℕ)
      → All (Spares m.keyset.primary_key_id) commands
      → AreMacsOf managers m.keyset primary groups → AreMacsOf managers (after_all makes m commands).keyset later edited
      → IsSigned computes primary payload token → IsAccepted verifies (group_of edited) token payload

  -- What the MACs of a keyset signed is verified by them.
  abbrev pub SignedVerify : Type 0
  SignedVerify =
      BuildsSound builds computes verifies
      → (managers : List M) (ks : Keyset) (primary : Option (TypedEntry P))
      (groups : BTreeMap (Vec ℕ Global) (List (TypedEntry P))) (payload token : List ℕ)
      → AreMacsOf managers ks primary groups → IsSigned computes primary payload token
      → IsAccepted verifies (group_of groups) token payload
