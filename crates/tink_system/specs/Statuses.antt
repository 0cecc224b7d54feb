-- The status of what a command ended by.
use Rattle.std.specs.Prelude.{ℕ}
use Rattle.tink_io.specs.declared.error.Kind.{Kind}
use Rattle.tink_io.specs.declared.error.Kind.TheVariants.{BadJson, IsPrimary, KeyNotFound, KeysetTooLong, MasterFailed, NotEnabled, RandomFault, WrongStatus}
use Rattle.tink_io.specs.Statuses.{kind_status}
use Rattle.tink_system.specs.declared.trouble.Trouble.{Trouble}
use Rattle.tink_system.specs.declared.trouble.Trouble.TheVariants.{NoMatch, Refused, Unusable, Usage}

-- an error's: that of the program over streams, and 30 to 35 for those that it has not
abbrev pub refusal_status : Kind → ℕ
refusal_status BadJson = 30
refusal_status KeyNotFound = 31
refusal_status IsPrimary = 32
refusal_status (WrongStatus _) = 33
refusal_status NotEnabled = 33
refusal_status MasterFailed = 34
refusal_status RandomFault = 35
refusal_status KeysetTooLong = 13
refusal_status kind = kind_status kind

abbrev pub trouble_status : Trouble → ℕ
trouble_status Usage = 2
trouble_status (Refused file kind) = refusal_status kind
trouble_status (NoMatch file keys) = 21
trouble_status (Unusable file why status) = status
