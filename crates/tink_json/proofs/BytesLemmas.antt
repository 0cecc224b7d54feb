-- Bytes in base 64.
use Rattle.std.proofs.Common.{◌≡◌, ℕ, List, Some, None, Ok, Err, refl, sym, subst}
use Rattle.base64.specs.Engines.{standard}
use Rattle.base64.specs.GeneralPurpose.{decode_of, decoded_of}
use Rattle.base64.specs.declared.decode.DecodeError.{DecodeError}
use Rattle.serde_json.specs.Data.{Data}
use Rattle.serde_json.specs.Find.{as_str}
use Rattle.tink_json.specs.Fields.{bytes_field, member_of}

pub bytes_field-is : (camel snake : List ℕ) (d m : Data) (text given b : List ℕ) → given ≡ text → Some m ≡ member_of camel snake d → Some text ≡ as_str m
    → decode_of standard given ≡ Ok b → bytes_field camel snake d ≡ Some b
unfolding bytes_field decoded_of
bytes_field-is camel snake d m text given b same member is decoded = rw (sym member, sym is, subst (λ s. decode_of standard s ≡ Ok b) same decoded) refl

pub bytes_field-bad : (camel snake : List ℕ) (d m : Data) (text given : List ℕ) (e : DecodeError) → given ≡ text → Some m ≡ member_of camel snake d → Some text ≡ as_str m
    → decode_of standard given ≡ Err e → bytes_field camel snake d ≡ None
unfolding bytes_field decoded_of
bytes_field-bad camel snake d m text given e same member is decoded = rw (sym member, sym is, subst (λ s. decode_of standard s ≡ Err e) same decoded) refl
