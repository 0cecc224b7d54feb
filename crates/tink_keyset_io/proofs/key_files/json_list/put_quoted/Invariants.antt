use Rattle.std.proofs.Common.{◌≡◌, ◌++◌, drop}
use Rattle.tink_keyset_io.specs.ListedJson.{quoted}
use Rattle.tink_keyset_io.proofs.key_files.json_list.put_quoted.Given as goal

-- the bytes so far, and those that are left
abbrev pub invariant-bytes : goal.invariant-bytes
invariant-bytes l = l.text.items ++ quoted (drop l.byte-index l.bytes) ≡ l.initial.text.items ++ quoted l.bytes
