-- What it means that a source was poured into a writer.
use Rattle.std.specs.Prelude.{◌≡◌, ℕ, Bool, List, length, Result, Ok, Err}
use Rattle.std.specs.declared.option.Option.{Option}
use Rattle.std.specs.Io.KnownBytes.{Consumes, IsAtEnd}
use Rattle.tink_io.specs.Faults.{Rose}
use Rattle.tink_io.specs.declared.error.Kind.{Kind}
use Rattle.tink_io.specs.declared.error.Kind.TheVariants.{ReadFault, WriteFault, TooManySegments}
use Rattle.tink_io.specs.declared.error.TinkError.{TinkError}
use Rattle.tink_streaming_io.specs.Writing.{WriterMoment, Wrote, WrotePrefixOf, WroteAll}

-- all that the source had left was read and written by a writer
pub record IsPoured (seg : ℕ → Bool → List ℕ → List ℕ) (first room : ℕ) (before after : Option (List ℕ)) (old new : WriterMoment) (bytes : ℕ) : Type 0 where
  pub text : List ℕ
  pub read : Consumes before after text
  pub wrote : Wrote seg first room old new text
  pub bytes_are : bytes ≡ length text

-- a writer's refusal of the text read so far
pub record IsRefusedBy (before after : Option (List ℕ)) (P : List ℕ → Type 0) : Type 0 where
  pub text : List ℕ
  pub read : Consumes before after text
  pub refused : P text

abbrev pub PourRefused : (ℕ → Bool → List ℕ → List ℕ) → ℕ → ℕ → Option (List ℕ) → Option (List ℕ) → ℕ → ℕ → WriterMoment → WriterMoment → Kind → Type 0
PourRefused seg first room before after reads read_again old new ReadFault = IsRefusedBy before after (λ text. Wrote seg first room old new text) × Rose reads read_again
PourRefused seg first room before after reads read_again old new WriteFault = IsRefusedBy before after (λ text. WrotePrefixOf seg first room old new text)
PourRefused seg first room before after reads read_again old new TooManySegments = IsRefusedBy before after (λ text. WroteAll seg first room old new text)
PourRefused seg first room before after reads read_again old new _ = ⊥

abbrev pub PourMeans : (ℕ → Bool → List ℕ → List ℕ) → ℕ → ℕ → Option (List ℕ) → Option (List ℕ) → ℕ → ℕ → WriterMoment → WriterMoment → Result ℕ TinkError → Type 0
PourMeans seg first room before after reads read_again old new (Ok bytes) = IsPoured seg first room before after old new bytes × IsAtEnd after
PourMeans seg first room before after reads read_again old new (Err e) = PourRefused seg first room before after reads read_again old new e.kind
