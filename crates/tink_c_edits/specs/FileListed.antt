-- The keys of a file as a text.
use Rattle.std.specs.Prelude.{ℕ, List, Result}
use Rattle.tink_io.specs.declared.error.Kind.{Kind}
use Rattle.tink_keysets.specs.Encrypted.{chained}
use Rattle.tink_keyset_io.specs.Files.{wire_of}
use Rattle.tink_keyset_io.specs.Listed.{listed}
use Rattle.tink_keyset_io.specs.ListedJson.{listed_json}

-- one line a key
abbrev pub listed_file : List ℕ → Result (List ℕ) Kind
listed_file file = chained listed (wire_of file)

-- an array in JSON
abbrev pub listed_file_json : List ℕ → Result (List ℕ) Kind
listed_file_json file = chained listed_json (wire_of file)
