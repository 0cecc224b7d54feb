-- The format of a file, and files under a master.
use Rattle.std.specs.Prelude.{◌≡◌, ℕ, List, [], Bool, Result, Ok, Err, if◌then◌else◌}
use Rattle.tink_io.specs.declared.error.Kind.{Kind}
use Rattle.tink_io.specs.declared.error.Kind.TheVariants.{OutOfMemory, RandomFault}
use Rattle.tink_io.specs.declared.error.TinkError.{TinkError}
use Rattle.tink_keysets.specs.Encrypted.{chained}
use Rattle.tink_keyset_io.specs.declared.key_files.formats.Format.{Format}
use Rattle.tink_keyset_io.specs.declared.key_files.formats.Format.TheVariants.{Binary, Json}
use Rattle.tink_cli_files.specs.Masters.{MasterKeys, master_encrypts, master_of}
use Rattle.tink_cli_files.specs.Wrapping.{unwrapped_file, wrapped_file}

-- JSON, or else the wire format
abbrev pub format_by : Bool → Format
format_by json = if json then Json else Binary

-- what an error of an encryption says of the random bytes
abbrev pub lacks : Kind → Result (Unit {0}) Kind
lacks RandomFault = Err RandomFault
lacks kind = Ok tt

-- an encryption was not refused for want of random bytes
abbrev pub had_random : Result (List ℕ) Kind → Result (Unit {0}) Kind
had_random (Ok ciphertext) = Ok tt
had_random (Err kind) = lacks kind

-- the same as the answer of a call: an error for want of memory stays
abbrev pub Lacks : Kind → Result (Unit {0}) TinkError → Type 0
Lacks OutOfMemory result = result ≡ Err (record { kind = OutOfMemory })
Lacks RandomFault result = result ≡ Err (record { kind = RandomFault })
Lacks kind result = result ≡ Ok tt

-- the random bytes suffice for the primary key of a master: they do for an empty plaintext, and a longer one takes no more
abbrev pub has_random : MasterKeys → List ℕ → List ℕ → Result (Unit {0}) Kind
has_random m aad random = had_random (master_encrypts m [] aad random).0

-- the keyset of a file, encrypted by a master, if the random bytes suffice
abbrev pub wrapped_with : List ℕ → List ℕ → Bool → List ℕ → MasterKeys → Result (List ℕ) Kind
wrapped_with file aad json random m = chained (λ _. wrapped_file m file aad (format_by json) random) (has_random m aad random)

-- and by the primary key of the master that a file loads as
abbrev pub wrapped_under : List ℕ → List ℕ → List ℕ → Bool → List ℕ → Result (List ℕ) Kind
wrapped_under master file aad json random = chained (wrapped_with file aad json random) (master_of master)

-- the keyset that a key of that master decrypts of a file
abbrev pub unwrapped_under : List ℕ → List ℕ → List ℕ → Bool → Result (List ℕ) Kind
unwrapped_under master wrapped aad json = chained (λ m. unwrapped_file m wrapped aad (format_by json)) (master_of master)
