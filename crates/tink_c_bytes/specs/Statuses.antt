-- The status that C gets of each error: those of the program `tink`, and above 40 those that it does not have.
use Rattle.std.specs.Prelude.{ℕ}
use Rattle.tink_io.specs.declared.error.Kind.{Kind}
use Rattle.tink_io.specs.declared.error.Kind.TheVariants.{BadJson, Closed, DataTooLong, DecryptFailed, FailedBefore, IsPrimary, KeyNotFound, KeysetTooLong, LengthOverU32, MasterFailed, NotEnabled, NotRawOnly, OutputTooLong, RandomFault, TagTooSmall, TextTooLong, WrongStatus}
use Rattle.tink_io.specs.Statuses.{kind_status}

-- the call did what it says
abbrev pub ok : ℕ
ok = 0

-- there is no memory
abbrev pub out_of_memory : ℕ
out_of_memory = 10

-- the object is empty
abbrev pub empty_object : ℕ
empty_object = 41

-- the caller's buffer is too short for the output
abbrev pub too_little_room : ℕ
too_little_room = 42

-- an error's status. 255 is that of an error which no call of C answers.
abbrev pub c_status : Kind → ℕ
c_status BadJson = 30
c_status KeyNotFound = 31
c_status IsPrimary = 32
c_status (WrongStatus status) = 33
c_status NotEnabled = 33
c_status MasterFailed = 34
c_status RandomFault = 35
c_status KeysetTooLong = 13
c_status Closed = 43
c_status DecryptFailed = 44
c_status (FailedBefore cause) = 45
c_status TextTooLong = 46
c_status LengthOverU32 = 46
c_status DataTooLong = 47
c_status NotRawOnly = 48
c_status OutputTooLong = 49
c_status TagTooSmall = 49
c_status kind = kind_status kind
