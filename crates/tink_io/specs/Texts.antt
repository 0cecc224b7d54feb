-- The texts of kinds and causes.
use Rattle.std.specs.Prelude.{ℕ, List, [], ◌∷◌, ◌++◌, codes, decimal}
use Rattle.std.specs.Fmt.{signed_decimal}
use Rattle.tink_io.specs.declared.error.Kind.{Kind}
use Rattle.tink_io.specs.declared.error.Kind.TheVariants.{OutOfMemory, ReadFault, WriteFault, RandomFault, BadKeyset, BadJson, KeysetTooLong, NoKeyset, InvalidKeyset, UnsupportedKeyType, InvalidKey, InvalidFormat, NoPrimary, WrongPrimitive, NotRawOnly, UnsupportedHash, UnknownHash, UnknownPrefix, BadVersion, HasSecrets, NotPrivate, NoPrivateKeys, MasterFailed, KeyNotFound, IsPrimary, WrongStatus, NotEnabled, NoFreshId, AlreadyRegistered, TagTooSmall, OutputTooLong, BadKeySize, BadTagSize, MacMismatch, TooShort, TextTooLong, DataTooLong, BadIvSize, DecryptFailed, LengthOverU32, NonceTooShort, OffsetTooBig, SegmentTooSmall, Closed, FailedBefore, TooManySegments, NoMatchingKey, BadSegment, Truncated, UnknownTemplate, BadToken, InputTooLong}
use Rattle.tink_io.specs.declared.error.Cause as cause
use Rattle.tink_io.specs.declared.error.Cause.TheVariants as causes

-- a cause's name in lower-case words
abbrev pub cause_words : cause.Cause → List ℕ
cause_words causes.ReadFault = codes "read fault"
cause_words causes.WriteFault = codes "write fault"
cause_words causes.TooManySegments = codes "too many segments"
cause_words causes.NoMatchingKey = codes "no matching key"
cause_words (causes.BadSegment _) = codes "bad segment "
cause_words (causes.Truncated _) = codes "truncated "

-- a cause's number in decimal digits
abbrev pub cause_number : cause.Cause → List ℕ
cause_number (causes.BadSegment number) = decimal number
cause_number (causes.Truncated number) = decimal number
cause_number _ = []

-- what a cause prints
abbrev pub cause_text : cause.Cause → List ℕ
cause_text c = cause_words c ++ cause_number c

-- a kind's name in lower-case words
abbrev pub kind_words : Kind → List ℕ
kind_words OutOfMemory = codes "out of memory"
kind_words ReadFault = codes "read fault"
kind_words WriteFault = codes "write fault"
kind_words RandomFault = codes "random fault"
kind_words BadKeyset = codes "bad keyset"
kind_words BadJson = codes "bad json"
kind_words KeysetTooLong = codes "keyset too long"
kind_words NoKeyset = codes "no keyset"
kind_words InvalidKeyset = codes "invalid keyset"
kind_words UnsupportedKeyType = codes "unsupported key type"
kind_words InvalidKey = codes "invalid key"
kind_words InvalidFormat = codes "invalid format"
kind_words NoPrimary = codes "no primary"
kind_words WrongPrimitive = codes "wrong primitive"
kind_words NotRawOnly = codes "not raw only"
kind_words UnsupportedHash = codes "unsupported hash"
kind_words UnknownHash = codes "unknown hash"
kind_words UnknownPrefix = codes "unknown prefix"
kind_words BadVersion = codes "bad version"
kind_words HasSecrets = codes "has secrets"
kind_words NotPrivate = codes "not private"
kind_words NoPrivateKeys = codes "no private keys"
kind_words MasterFailed = codes "master failed"
kind_words KeyNotFound = codes "key not found"
kind_words IsPrimary = codes "is primary"
kind_words (WrongStatus _) = codes "wrong status "
kind_words NotEnabled = codes "not enabled"
kind_words NoFreshId = codes "no fresh id"
kind_words AlreadyRegistered = codes "already registered"
kind_words TagTooSmall = codes "tag too small"
kind_words OutputTooLong = codes "output too long"
kind_words BadKeySize = codes "bad key size"
kind_words BadTagSize = codes "bad tag size"
kind_words MacMismatch = codes "mac mismatch"
kind_words TooShort = codes "too short"
kind_words TextTooLong = codes "text too long"
kind_words DataTooLong = codes "data too long"
kind_words BadIvSize = codes "bad iv size"
kind_words DecryptFailed = codes "decrypt failed"
kind_words LengthOverU32 = codes "length over u32"
kind_words NonceTooShort = codes "nonce too short"
kind_words OffsetTooBig = codes "offset too big"
kind_words SegmentTooSmall = codes "segment too small"
kind_words Closed = codes "closed"
kind_words (FailedBefore _) = codes "failed before: "
kind_words TooManySegments = codes "too many segments"
kind_words NoMatchingKey = codes "no matching key"
kind_words (BadSegment _) = codes "bad segment "
kind_words (Truncated _) = codes "truncated "
kind_words UnknownTemplate = codes "unknown template"
kind_words BadToken = codes "bad token"
kind_words InputTooLong = codes "input too long"

-- a kind's number in decimal digits, or the text of its cause
abbrev pub kind_rest : Kind → List ℕ
kind_rest (WrongStatus status) = signed_decimal status
kind_rest (FailedBefore c) = cause_text c
kind_rest (BadSegment number) = decimal number
kind_rest (Truncated number) = decimal number
kind_rest _ = []

-- what a kind prints
abbrev pub kind_text : Kind → List ℕ
kind_text k = kind_words k ++ kind_rest k

-- the line that tells of a kind: its text and a newline
abbrev pub kind_line : Kind → List ℕ
kind_line k = kind_text k ++ 10 ∷ []
