-- What `run` opens under the encoding of a keyset that a manager's commands made.
use Rattle.std.specs.Prelude.{◌≡◌, ◌↔◌, ◌++◌, ℕ, List, All, Some, Ok, IsTrue}
use Rattle.tink_proto.specs.declared.messages.keys.Keyset.{Keyset}
use Rattle.tink_proto.specs.Messages.{keyset}
use Rattle.wire_format.specs.Message.{encoded}
use Rattle.keyset_model.specs.Operations.{Maker, Operation, Managed, after_all}
use Rattle.keyset_model.specs.Spared.{Spares}
use Rattle.stream_model.specs.Key.{StreamKey}
use Rattle.loading_model.specs.Loading.{Loaded, load_keyset}
use Rattle.loading_model.specs.Rotation.{AllLeavePlace, EnablesNone, IsChosenAt, LeavesKeys, OpensTo}
use Rattle.tink.specs.LoadingRows.{rows}
use Rattle.tink_run.specs.AllKeys.{load}
use Rattle.tink_io.specs.Outside.{Outside}
use Rattle.tink_run.specs.Run.{CanOpen, IsWholeText}
use Rattle.tink_run.specs.declared.report.Report.{Report}

-- the keyset loads, and its keys of streams open the stream to the text
abbrev pub Opens : Keyset → List ℕ → List ℕ → List ℕ → Type 0
Opens ks aad S text = (l : Loaded) × (load_keyset rows ks ≡ Ok l) × OpensTo l aad S text

-- what `run` says of an open under the keyset's encoding is what the keyset opens
pub record OpensAs (ks : Keyset) (aad S : List ℕ) : Type 0 where
  -- the encoding loads as the keyset, or is refused as it
  pub loads : load (encoded keyset.write ks) ≡ load_keyset rows ks
  -- an open can succeed exactly where the keyset opens the stream to some text
  pub can : CanOpen (encoded keyset.write ks) aad S ↔ ((text : List ℕ) × Opens ks aad S text)
  -- there is one such text
  pub one : (text other : List ℕ) → Opens ks aad S text → Opens ks aad S other → other ≡ text
  -- and it is what an open has written
  pub writes : (text G : List ℕ) (new : Outside) (report : Report) → Opens ks aad S text
      → IsWholeText (encoded keyset.write ks) aad S G new report → new.got ≡ Some (G ++ text)

-- so it is of the keyset that any commands make, where it fits the wire format
abbrev pub RunOpensEdited : Type 0
RunOpensEdited =
    (makes : Maker) (m : Managed) (commands : List Operation) (aad S : List ℕ)
    → IsTrue (keyset.fits (after_all makes m commands).keyset)
    → OpensAs (after_all makes m commands).keyset aad S

-- an open under the keyset's encoding can succeed, and has then written this text
pub record RunsTo (ks : Keyset) (aad S text : List ℕ) : Type 0 where
  pub can : CanOpen (encoded keyset.write ks) aad S
  pub writes : (G : List ℕ) (new : Outside) (report : Report)
      → IsWholeText (encoded keyset.write ks) aad S G new report → new.got ≡ Some (G ++ text)

-- the keyset that the commands make fits the wire format, and loads
pub record IsUsed (makes : Maker) (m : Managed) (commands : List Operation) : Type 0 where
  pub fits : IsTrue (keyset.fits (after_all makes m commands).keyset)
  pub loaded : Loaded
  pub loads : load_keyset rows (after_all makes m commands).keyset ≡ Ok loaded

-- what a keyset opened, `run` opens under the encoding of the edited one, where commands only add keys or choose the
-- primary one
abbrev pub RunOpensAfterAdding : Type 0
RunOpensAfterAdding =
    (makes : Maker) (m : Managed) (commands : List Operation) (aad S text : List ℕ)
    → All LeavesKeys commands → IsUsed makes m commands
    → Opens m.keyset aad S text → RunsTo (after_all makes m commands).keyset aad S text

-- or where they leave the place of the key that is chosen for the stream
abbrev pub RunOpensAfterAll : Type 0
RunOpensAfterAll =
    (makes : Maker) (m : Managed) (commands : List Operation) (aad S text : List ℕ) (place id : ℕ) (key : StreamKey)
    → IsChosenAt rows aad S m.keyset.key place id key → AllLeavePlace makes m place commands → IsUsed makes m commands
    → Opens m.keyset aad S text → RunsTo (after_all makes m commands).keyset aad S text

-- or enable none, and disable, destroy or delete no key of its id
abbrev pub RunOpensById : Type 0
RunOpensById =
    (makes : Maker) (m : Managed) (commands : List Operation) (aad S text : List ℕ) (place id : ℕ) (key : StreamKey)
    → IsChosenAt rows aad S m.keyset.key place id key → All (λ c. Spares id c × EnablesNone c) commands
    → IsUsed makes m commands → Opens m.keyset aad S text → RunsTo (after_all makes m commands).keyset aad S text
