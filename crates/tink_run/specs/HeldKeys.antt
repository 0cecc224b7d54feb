-- The keys of streams of a set.
use Rattle.std.specs.Prelude.{◌≡◌, ◌⊎◌, ℤ, List, Some, Result, Ok, Err, IfSome, map, unwrap_or}
use Rattle.tink_io.specs.declared.error.Kind.{Kind}
use Rattle.tink_io.specs.declared.error.Kind.TheVariants.{OutOfMemory}
use Rattle.tink_io.specs.declared.error.TinkError.{TinkError}
use Rattle.tink_proto.specs.declared.enums.OutputPrefixType.{OutputPrefixType}
use Rattle.tink_proto.specs.declared.enums.OutputPrefixType.TheVariants.{UnknownPrefix}
use Rattle.tink_sets.specs.Entries.{entry_of_id, typed_prefix_of}
use Rattle.tink_sets.specs.Groups.{AreGroupsOf}
use Rattle.tink_sets.specs.Prefixes.{known_type}
use Rattle.tink_sets.specs.declared.entry.TypedEntry.{TypedEntry}
use Rattle.tink_sets.specs.declared.typed_set.TypedPrimitiveSet.{TypedPrimitiveSet}
use Rattle.tink_streaming_keys.specs.declared.stream_kind.StreamKind.{StreamKind}
use Rattle.tink_streaming_aead.specs.Wrapped.{key_in, keys_in}
use Rattle.loading_model.specs.Loading.{Loaded}

-- the output prefix type of a number
abbrev pub type_of : ℤ → OutputPrefixType
type_of number = unwrap_or (known_type number) UnknownPrefix

-- A set has what was loaded: the primary key, and all keys with their ids and prefix types, those of one prefix in their order.
-- The primary entry is the first of its id.
pub record HoldsLoaded (l : Loaded) (set : TypedPrimitiveSet StreamKind) : Type 0 where
  pub primary : key_in set.primary ≡ Some l.primary
  pub entries : List (TypedEntry StreamKind)
  pub groups : AreGroupsOf typed_prefix_of entries set.entries
  pub keys : keys_in entries ≡ map (λ k. k.key) l.keys
  pub ids : map (λ e. e.key_id) entries ≡ map (λ k. k.id) l.keys
  pub types : map (λ e. e.prefix_type) entries ≡ map (λ k. type_of k.prefix_type) l.keys
  pub first : IfSome set.primary (λ e. entry_of_id e.key_id entries ≡ Some e)

-- the set of what is told to load, or its refusal, or there is no memory
abbrev pub GivesLoaded : Result (TypedPrimitiveSet StreamKind) TinkError → Result Loaded Kind → Type 0
GivesLoaded (Ok set) told = (l : Loaded) × (told ≡ Ok l) × HoldsLoaded l set
GivesLoaded (Err e) told = (e.kind ≡ OutOfMemory) ⊎ (told ≡ Err e.kind)
