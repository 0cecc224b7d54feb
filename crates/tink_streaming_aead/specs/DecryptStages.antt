-- The stage of a reader of a keyset's streams, as a contract sees it.
use Rattle.std.specs.Prelude.{ℕ, List, map, vec_len}
use Rattle.std.specs.declared.option.Option.{Option}
use Rattle.tink_streaming_aead.specs.DecryptReaders.{DecryptState}
use Rattle.tink_streaming_aead.specs.DecryptReaders.DecryptState.{Chosen, Stopped, Unread}
use Rattle.tink_streaming_keys.specs.StreamKinds.{key_in_set}
use Rattle.tink_streaming_aead.specs.declared.decrypt_reader.Stage.{Stage}
use Rattle.tink_streaming_aead.specs.declared.decrypt_reader.Stage.TheVariants as stage
use Rattle.tink_streaming_io.specs.Openers.{EndsEmpty, pending_text, reader_state}

abbrev pub state_of : {S : Type 0} → Stage → S → DecryptState S
state_of (stage.Unread w) source = Unread (map key_in_set w.keys.items) w.data.items (vec_len w.trial.kept.buffer) source
state_of (stage.Chosen t) source = Chosen (reader_state t.reader (pending_text t) source)
state_of (stage.Stopped c) source = Stopped c source

-- a chosen key's reader has nothing left once the last segment was opened
abbrev pub StageEndsEmpty : {S : Type 0} → (S → Option (List ℕ)) → Stage → S → Type 0
StageEndsEmpty left (stage.Unread w) source = Unit {0}
StageEndsEmpty left (stage.Chosen t) source = EndsEmpty left t.reader source
StageEndsEmpty left (stage.Stopped c) source = Unit {0}
