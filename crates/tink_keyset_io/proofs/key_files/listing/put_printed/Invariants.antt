use Rattle.std.proofs.Common.{◌≡◌, ◌++◌, drop}
use Rattle.tink_keyset_io.specs.Listed.{printed}
use Rattle.tink_keyset_io.proofs.key_files.listing.put_printed.Given as goal

-- the bytes so far, and those that are left
abbrev pub invariant-bytes : goal.invariant-bytes
invariant-bytes l = l.text.items ++ printed (drop l.byte-index l.bytes) ≡ l.initial.text.items ++ printed l.bytes
