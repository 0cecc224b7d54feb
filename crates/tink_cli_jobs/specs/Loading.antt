-- The keyset that a command is given.
use Rattle.std.specs.Prelude.{◌≡◌, ◌⊎◌, ◌^◌, ℕ, List, Option, Some, None, Result, Ok, Err, true, codes, length, nat_lt, option_map, if◌then◌else◌}
use Rattle.tink_cli_words.specs.Lines.{is}
use Rattle.tink_io.specs.Faults.{Rose}
use Rattle.tink_io.specs.declared.error.Kind.{Kind}
use Rattle.tink_io.specs.declared.error.Kind.TheVariants.{KeysetTooLong, ReadFault}
use Rattle.tink_keysets.specs.Encrypted.{chained}
use Rattle.tink_keyset_io.specs.Files.{wire_of}
use Rattle.tink_keyset_io.specs.declared.key_files.formats.Format.TheVariants.{Binary}
use Rattle.tink_aead.specs.declared.aead_kind.AeadKind.{AeadKind}
use Rattle.tink_aead.specs.declared.factory.WrappedAead.{WrappedAead}
use Rattle.tink_cli_files.specs.Masters.{IsMaster, MasterKeys, master_of}
use Rattle.tink_cli_files.specs.Wrapping.{unwrapped_file}
use Rattle.tink_system.specs.States.{SystemState, content}
use Rattle.tink_system.specs.Statuses.{refusal_status, trouble_status}
use Rattle.tink_system.specs.declared.trouble.Trouble.{Trouble}
use Rattle.tink_cli_jobs.specs.declared.keys.KeyWords.{KeyWords}

-- a name of a file: a dash is none
abbrev pub named : Option (List ℕ) → Option (List ℕ)
named None = None
named (Some word) = if is word (codes "-") then None else Some word

-- the bytes of a file of keys, or why they are not read
abbrev pub fitting : Option (List ℕ) → Result (List ℕ) Kind
fitting None = Err ReadFault
fitting (Some bytes) = if nat_lt (2 ^ 24) (length bytes) then Err KeysetTooLong else Ok bytes

abbrev pub whole_of : SystemState → Option (List ℕ) → Result (List ℕ) Kind
whole_of s name = fitting (content s name)

-- the AEADs of a file of keys
abbrev pub master_of_file : SystemState → List ℕ → Result MasterKeys Kind
master_of_file s name = chained master_of (whole_of s (named (Some name)))

-- the keyset of a file of keys that is not wrapped, in the wire format
abbrev pub plain_keyset : SystemState → List ℕ → Result (List ℕ) Kind
plain_keyset s keys = chained wire_of (whole_of s (named (Some keys)))

-- that of a wrapped file under a master
abbrev pub unwrapped_keyset : SystemState → KeyWords → MasterKeys → Result (List ℕ) Kind
unwrapped_keyset s words m = chained (λ file. unwrapped_file m file words.master_aad.now Binary) (whole_of s (named (Some words.keys.now)))

abbrev pub wrapped_keyset : SystemState → KeyWords → List ℕ → Result (List ℕ) Kind
wrapped_keyset s words master = chained (unwrapped_keyset s words) (master_of_file s master)

abbrev pub keyset_by : SystemState → KeyWords → Option (List ℕ) → Result (List ℕ) Kind
keyset_by s words None = plain_keyset s words.keys.now
keyset_by s words (Some master) = wrapped_keyset s words master

-- the keyset that a command is given
abbrev pub keyset_of : SystemState → KeyWords → Result (List ℕ) Kind
keyset_of s words = keyset_by s words (option_map (λ n. n.now) words.master)

-- if the bytes are known, this is the given value
abbrev pub Gives : {T : Type 0} → SystemState → Result T Kind → T → Type 0
Gives s given v = s.is_known ≡ true → given ≡ Ok v

-- the AEADs are those of a file of keys
abbrev pub IsMasterOf : SystemState → List ℕ → WrappedAead AeadKind → Type 0
IsMasterOf s name master = s.is_known ≡ true → (m : MasterKeys) × (master_of_file s name ≡ Ok m) × IsMaster m master

-- the status is that of the given error
abbrev pub HasStatusOf : {T : Type 0} → Result T Kind → ℕ → Type 0
HasStatusOf (Ok v) status = ⊥
HasStatusOf (Err kind) status = status ≡ refusal_status kind

-- there is no memory, or the status is that of the given error
abbrev pub RefusesBy : {T : Type 0} → Result T Kind → Trouble → Type 0
RefusesBy given trouble = (trouble_status trouble ≡ 10) ⊎ HasStatusOf given (trouble_status trouble)

-- a call of the system failed, there is no memory, or the status is that of the given error, if the bytes are known
abbrev pub Fails : {T : Type 0} → SystemState → ℕ → ℕ → Result T Kind → Trouble → Type 0
Fails s before now given trouble = Rose before now ⊎ (s.is_known ≡ true → RefusesBy given trouble)
