-- Commands that leave a key enabled.
use Rattle.std.specs.Prelude.{◌≡◌, ⊤, ℕ, List, All, Contains}
use Rattle.tink_proto.specs.declared.messages.keys.Key.{Key}
use Rattle.keyset_model.specs.Operations.{Maker, Operation, Add, Rotate, Enable, Disable, Destroy, Delete, SetPrimary, Managed, after_all}
use Rattle.keyset_model.specs.Keys.{enabled}

-- the command disables, destroys or deletes no key of the id
abbrev pub Spares : ℕ → Operation → Type 0
Spares id (Add _) = ⊤
Spares id (Rotate _) = ⊤
Spares id (Enable _) = ⊤
Spares id (Disable n) = n ≡ id → ⊥
Spares id (Destroy n) = n ≡ id → ⊥
Spares id (Delete n) = n ≡ id → ⊥
Spares id (SetPrimary _) = ⊤

-- an enabled key whose id all commands spare is enabled after them, as it was
abbrev pub KeepsEnabled : Type 0
KeepsEnabled =
    (makes : Maker) (m : Managed) (commands : List Operation) (k : Key) → Contains (enabled m.keyset) k → All (Spares k.key_id) commands
    → Contains (enabled (after_all makes m commands).keyset) k
