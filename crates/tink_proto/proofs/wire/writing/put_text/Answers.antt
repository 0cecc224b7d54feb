use Rattle.std.proofs.lemmas.Str.{is_utf8-from_IsUtf8}
use Rattle.tink_proto.proofs.wire.writing.put_text.Goals as goal

pub returns-clause-fits : goal.returns-clause-fits
returns-clause-fits c = rw (is_utf8-from_IsUtf8 c.args.text.now c.utf8.text) (rw c.as_bytes.ensures.value at c.in_ok-put_bytes.ensures.fits)
