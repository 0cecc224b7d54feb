use Rattle.std.proofs.Common.{◌≡◌, List, ℕ, Option, Some, Result, Ok, Err, subst}
use Rattle.std.specs.Prelude.{IfOk}
use Rattle.wire_format.specs.Grammar.{Field, AreFields}
use Rattle.wire_format.specs.Message.{decoded}
use Rattle.wire_format.proofs.ReadingLaws.{spelled_by, spelled_so}
use Rattle.tink_proto.specs.declared.error.ProtoError.{ProtoError}
use Rattle.tink_proto.specs.declared.error.ProtoError.TheVariants.{BadMessage}
use Rattle.tink_proto.specs.Outcome.{Reads, ReadsAs}
use Rattle.tink_proto.proofs.wire.Message.decode.Goals as goal

found : {M : Type 0} (read : List Field → Option M) (bytes : List ℕ) (r : Result M ProtoError) → Reads BadMessage r (decoded read bytes) → IfOk r (λ m. (fs : List Field) × AreFields bytes fs × (read fs ≡ Some m))
found read bytes (Ok m) e = spelled_by read bytes m e
found read bytes (Err e) d = tt

pub returns-clause-found : goal.returns-clause-found
returns-clause-found g c = found g.Self.Message.table.read c.args.bytes.now c.from_bytes.result c.from_bytes.ensures

pub returns-clause-only : goal.returns-clause-only
returns-clause-only g c = λ fs h. subst (ReadsAs BadMessage (λ m. m) c.from_bytes.result) (spelled_so g.Self.Message.table.read c.args.bytes.now fs h) c.from_bytes.ensures
