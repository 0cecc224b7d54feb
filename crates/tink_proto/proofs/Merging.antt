-- What a loop over fields keeps.
use Rattle.std.proofs.Common.{◌≡◌, List, ℕ, Option, Some, sym, ◌∙◌}
use Rattle.wire_format.specs.Grammar.{Field}
use Rattle.wire_format.specs.GrammarLaws.{Next}
use Rattle.wire_format.specs.Reading.{field_at}
use Rattle.wire_format.specs.Columns.{read_into}
use Rattle.wire_format.proofs.ReadingLaws.{refuses}
use Rattle.tink_proto.specs.declared.error.ProtoError.{ProtoError}
use Rattle.tink_proto.specs.declared.error.ProtoError.TheVariants.{BadMessage, BadJson, OutOfMemory}
use Rattle.tink_proto.specs.Outcome.{Fails}

pub fails_on : {S : Type 0} (e : ProtoError) (step : S → Field → Option S) (s : S) (bytes : List ℕ) (x : Next) (total : Option S) → field_at bytes ≡ Some x → Fails BadMessage e (step s x.0) → read_into step s bytes ≡ total → Fails BadMessage e total
fails_on BadMessage step s bytes x total e d so_far = sym so_far ∙ refuses step s bytes x e d
fails_on BadJson step s bytes x total e d so_far = absurd d
fails_on OutOfMemory step s bytes x total e d so_far = tt
