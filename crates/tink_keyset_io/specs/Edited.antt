-- What an edit makes of a keyset and of a file.
use Rattle.std.specs.Prelude.{ℕ, List, Result}
use Rattle.tink_io.specs.declared.error.Kind.{Kind}
use Rattle.tink_io.specs.declared.error.Kind.TheVariants.{BadKeyset}
use Rattle.tink_io.specs.Answering.{or_refused}
use Rattle.tink_proto.specs.Messages.{keyset}
use Rattle.wire_format.specs.Message.{decoded}
use Rattle.tink_proto.specs.declared.messages.keys.Keyset.{Keyset}
use Rattle.keyset_model.specs.Edits as edits
use Rattle.tink_keysets.specs.Encrypted.{chained}
use Rattle.tink_keysets.specs.Handles.{handle_of_keys}
use Rattle.tink_keysets.specs.Valid.{valid_keyset, valid_or_refused}
use Rattle.tink_keyset_io.specs.Files.{filed, format_of, wire_of}
use Rattle.tink_keyset_io.specs.declared.key_files.editing.Edit.{Edit}
use Rattle.tink_keyset_io.specs.declared.key_files.editing.Edit.TheVariants.{Promote, Enable, Disable, Destroy, Delete}

-- the keyset with the first key of an id changed
abbrev pub edited_by : Edit → ℕ → Keyset → Result Keyset Kind
edited_by Promote id ks = edits.set_primary ks id
edited_by Enable id ks = edits.enable ks id
edited_by Disable id ks = edits.disable ks id
edited_by Destroy id ks = edits.destroy ks id
edited_by Delete id ks = edits.delete ks id

-- the keyset that bytes spell, whatever its keys are
abbrev pub fitting_keyset : List ℕ → Result Keyset Kind
fitting_keyset bytes = chained handle_of_keys (or_refused BadKeyset (decoded keyset.read bytes))

-- the keyset that is edited: a key that is promoted or enabled may repair it, so it need not be valid before
abbrev pub start_of : Edit → List ℕ → Result Keyset Kind
start_of Promote bytes = fitting_keyset bytes
start_of Enable bytes = fitting_keyset bytes
start_of Disable bytes = valid_keyset bytes
start_of Destroy bytes = valid_keyset bytes
start_of Delete bytes = valid_keyset bytes

-- the keyset that bytes spell, edited, if it is valid afterwards
abbrev pub edited : List ℕ → Edit → ℕ → Result Keyset Kind
edited bytes edit id = chained valid_or_refused (chained (edited_by edit id) (start_of edit bytes))

-- a file of the same format with its keyset edited
abbrev pub edited_file : List ℕ → Edit → ℕ → Result (List ℕ) Kind
edited_file file edit id =
    chained (filed (format_of file)) (chained (λ bytes. edited bytes edit id) (wire_of file))
