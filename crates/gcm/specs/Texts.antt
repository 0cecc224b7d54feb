-- The printed texts of the refusals.
use Rattle.std.specs.Prelude.{ℕ, List, codes}
use Rattle.gcm.specs.declared.errors.GcmError.{GcmError}
use Rattle.gcm.specs.declared.errors.GcmError.TheVariants.{DataTooLong, TextTooLong, DecryptFailed}

abbrev pub text_of : GcmError → List ℕ
text_of DataTooLong = codes "the associated data is too long"
text_of TextTooLong = codes "the text is too long"
text_of DecryptFailed = codes "the input was not sealed under this key, nonce and data"
