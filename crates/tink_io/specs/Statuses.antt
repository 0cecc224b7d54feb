-- The status by which a program ends on a refusal.
use Rattle.std.specs.Prelude.{ℕ}
use Rattle.tink_io.specs.declared.error.Kind.{Kind}
use Rattle.tink_io.specs.declared.error.Kind.TheVariants.{BadKeyset, BadSegment, BadToken, InputTooLong, InvalidKey, InvalidKeyset, MacMismatch, NoFreshId, NoMatchingKey, NoPrimary, OutOfMemory, ReadFault, TooManySegments, Truncated, UnknownTemplate, UnsupportedHash, UnsupportedKeyType, WriteFault, WrongPrimitive}

-- a refusal's status. A kind of the last line never ends the program over the standard streams.
abbrev pub kind_status : Kind → ℕ
kind_status OutOfMemory = 10
kind_status ReadFault = 11
kind_status WriteFault = 12
kind_status BadKeyset = 13
kind_status InvalidKeyset = 14
kind_status UnsupportedKeyType = 15
kind_status InvalidKey = 16
kind_status NoPrimary = 17
kind_status WrongPrimitive = 18
kind_status UnsupportedHash = 19
kind_status TooManySegments = 20
kind_status NoMatchingKey = 21
kind_status (BadSegment number) = 22
kind_status (Truncated number) = 23
kind_status UnknownTemplate = 24
kind_status NoFreshId = 25
kind_status InputTooLong = 26
kind_status BadToken = 27
kind_status MacMismatch = 28
kind_status _ = 255
