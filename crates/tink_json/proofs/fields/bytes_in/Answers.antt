use Rattle.std.proofs.Common.{Some, sym, ap, subst, ◌∙◌}
use Rattle.base64.specs.Engines.{standard}
use Rattle.base64.specs.GeneralPurpose.{IsDecodeFailure}
use Rattle.tink_json.proofs.BytesLemmas.{bytes_field-bad, bytes_field-is}
use Rattle.tink_json.proofs.fields.bytes_in.Goals as goal

pub returns-in-Ok : goal.returns-in-Ok
returns-in-Ok c =
    bytes_field-is _ _ _ _ _ _ _ c.as_bytes.ensures.value c.in-Some.ensures c.in-Some-as_str.ensures c.in-Ok.ensures.ok ∙ ap Some (sym c.from_vec.ensures)

pub returns-in-Err-DecodeError : goal.returns-in-Err-DecodeError
returns-in-Err-DecodeError c =
    let failed = subst (IsDecodeFailure standard c.as_bytes.result.now) c.in-Err-DecodeError.field-0-is c.in-Err-DecodeError.ensures.err in
    bytes_field-bad _ _ _ _ _ _ _ c.as_bytes.ensures.value c.in-Some.ensures c.in-Some-as_str.ensures failed
