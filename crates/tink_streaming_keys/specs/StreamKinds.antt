-- A key of streams of one of two kinds.
use Rattle.stream_model.specs.Key.{StreamKey, fronted}
use Rattle.tink_sets.specs.declared.entry.TypedEntry.{TypedEntry}
use Rattle.tink_streaming_keys.specs.declared.stream_kind.StreamKind.{StreamKind}
use Rattle.tink_streaming_keys.specs.declared.stream_kind.StreamKind.TheVariants.{CtrHmac, GcmHkdf}

-- the key as streams see it
abbrev pub key_of : StreamKind → StreamKey
key_of (CtrHmac key) = key
key_of (GcmHkdf key) = key

-- the key of an entry of a set, which has the entry's prefix before the header of its streams
abbrev pub key_in_set : TypedEntry StreamKind → StreamKey
key_in_set e = fronted e.prefix (key_of e.primitive)
