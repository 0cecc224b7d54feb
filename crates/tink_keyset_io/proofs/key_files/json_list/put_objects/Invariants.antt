use Rattle.std.proofs.Common.{◌≡◌, ◌++◌, drop}
use Rattle.tink_keyset_io.specs.ListedJson.{first_start, objects_from}
use Rattle.tink_keyset_io.proofs.key_files.json_list.put_objects.Given as goal

-- the objects so far, and those of the keys that are left
abbrev pub invariant-keys : goal.invariant-keys
invariant-keys l = l.text.items ++ objects_from l.start l.primary (drop l.key-index l.keys) ≡ l.initial.text.items ++ objects_from first_start l.primary l.keys
