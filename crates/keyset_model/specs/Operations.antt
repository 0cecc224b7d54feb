-- The commands of a manager, one after another: what each makes of a keyset and of the draws, or by which kind it is refused.
use Rattle.std.specs.Prelude.{ℕ, List, Result, Ok, Err, fold, true, false}
use Rattle.tink_io.specs.declared.error.Kind.{Kind}
use Rattle.tink_proto.specs.declared.messages.keys.KeyData.{KeyData}
use Rattle.tink_proto.specs.declared.messages.keys.KeyTemplate.{KeyTemplate}
use Rattle.tink_proto.specs.declared.messages.keys.Keyset.{Keyset}
use Rattle.keyset_model.specs.Adding.{added, keyset_reply}
use Rattle.keyset_model.specs.Edits.{enable, disable, destroy, delete, set_primary}

-- what key managers make of a template and the draws: the data of a new key, or a refusal, and the draws that are left
abbrev pub Maker : Type 0
Maker = KeyTemplate → List ℕ → Result KeyData Kind × List ℕ

-- a command: adding a key, as the primary one where it rotates, or an edit of the key that has an id
pub data Operation : Type 0 where
  Add : KeyTemplate → Operation
  Rotate : KeyTemplate → Operation
  Enable : ℕ → Operation
  Disable : ℕ → Operation
  Destroy : ℕ → Operation
  Delete : ℕ → Operation
  SetPrimary : ℕ → Operation

-- the edited keyset or the refusal, and the draws that are left
abbrev pub edit : Maker → Keyset → Operation → List ℕ → Result Keyset Kind × List ℕ
edit makes ks (Add kt) draws = keyset_reply (added ks kt false (makes kt draws))
edit makes ks (Rotate kt) draws = keyset_reply (added ks kt true (makes kt draws))
edit makes ks (Enable id) draws = (enable ks id, draws)
edit makes ks (Disable id) draws = (disable ks id, draws)
edit makes ks (Destroy id) draws = (destroy ks id, draws)
edit makes ks (Delete id) draws = (delete ks id, draws)
edit makes ks (SetPrimary id) draws = (set_primary ks id, draws)

-- the keyset after a command: a refused one leaves it
abbrev pub keyset_after : Keyset → Result Keyset Kind → Keyset
keyset_after ks (Ok edited) = edited
keyset_after ks (Err _) = ks

-- a keyset and the draws that are left
pub record Managed : Type 0 where
  pub keyset : Keyset
  pub draws : List ℕ

-- after a command
abbrev pub after : Maker → Managed → Operation → Managed
after makes m command = record {
  keyset = keyset_after m.keyset (edit makes m.keyset command m.draws).0;
  draws = (edit makes m.keyset command m.draws).1;
}

-- after all commands of a list, in order
abbrev pub after_all : Maker → Managed → List Operation → Managed
after_all makes m commands = fold (after makes) m commands
