-- From the table of a rewrap's answers to how far its source was read.
use Rattle.std.proofs.Common.{◌≡◌, inl, inr, ◌<◌, ◌^◌, ℕ, List, [], length, refl, sym, subst}
use Rattle.std.specs.declared.option.Option.{Option}
use Rattle.std.specs.Prelude.{Result, Ok, Err}
use Rattle.std.specs.Io.KnownBytes.{Appends}
use Rattle.tink_io.specs.Written.{AppendsPrefix}
use Rattle.tink_io.specs.declared.error.Kind.{Kind}
use Rattle.tink_io.specs.declared.error.Kind.TheVariants.{OutOfMemory, ReadFault, WriteFault, RandomFault, BadKeyset, InvalidKeyset, UnsupportedKeyType, InvalidKey, NoPrimary, WrongPrimitive, UnsupportedHash, TooManySegments, NoMatchingKey, BadSegment, Truncated}
use Rattle.tink_io.specs.declared.error.TinkError.{TinkError}
use Rattle.stream_model.specs.Opening.{OpeningKey, chunks_of}
use Rattle.loading_model.specs.Loading.{Loaded, opening_keys}
use Rattle.tink_run.specs.declared.report.Report.{Report}
use Rattle.tink_run.specs.OpenAnswers.{AgreesUntil, Lead}
use Rattle.tink_run.specs.OpenReads.{ReadsInChunk, ReadsNear, StopsBehind, room_under}
use Rattle.tink_io.specs.Outside.{Outside}
use Rattle.tink_run.proofs.EndingSteps.{if_told, leads_agreed}
use Rattle.tink_run.proofs.OpenLemmas.{same_loaded}
use Rattle.tink_rewrap.specs.Passing.{LeadsUnder, NewBytes, OpensWithin, PassRefused, bytes_under, into}
use Rattle.tink_rewrap.specs.RewrapReads.{ReadsPast, RewrapReadsBy, RewrapReadsNoFurther, RewrapReadsWithin}
use Rattle.tink_rewrap.specs.Rewrapping.{HasKey, PassesUnder, RewrapMeans, RewrapRefused, RewrapsLoaded, RewrapsUnderRefused, Sides}

-- under some keys
module _ (keys : List OpeningKey) (b : NewBytes) (old new : Outside) where
  abbrev room : ℕ
  room = room_under keys

  -- whatever was written of the texts
  past : (Wrote : Option (List ℕ) → Option (List ℕ) → List ℕ → Type 0) (Near : ℕ → Option (List ℕ) → Option (List ℕ) → Type 0) (text : List ℕ) → StopsBehind Wrote Near room keys (into [] old) (into text new) → ReadsPast Near room keys old.left new.left
  past Wrote Near text x = record { texts = x.texts; lead = x.lead; read = x.read }

  pass_reads : (kind : Kind) → PassRefused (OpensWithin room keys) (LeadsUnder room keys) (HasKey keys) b old new kind → RewrapReadsBy room keys old.left new.left kind
  pass_reads NoMatchingKey x = x.opened.1
  pass_reads (Truncated n) x = x.opened.1
  pass_reads (BadSegment n) x = x.opened.1
  pass_reads TooManySegments (inl x) = past AppendsPrefix (ReadsNear room keys) x.text x.opened
  -- the 2^32 texts that agree lead
  pass_reads TooManySegments (inr x) =
      let o = x.opened.0 in
      record {
        texts = o.texts;
        lead = if_told old.left (λ S. AgreesUntil keys S o.texts (λ k. 2 ^ 32 < length (chunks_of k S))) (λ S. Lead keys S o.texts) (λ S a. leads_agreed keys S o.texts (λ k. 2 ^ 32 < length (chunks_of k S)) a) o.stream;
        read = inl (subst (λ (n : ℕ). ReadsNear room keys n old.left new.left) (sym o.number) x.opened.1);
      }
  pass_reads ReadFault x = past Appends (ReadsInChunk keys) x.text x.opened.1
  pass_reads WriteFault x = past AppendsPrefix (ReadsNear room keys) x.text x.opened.1
  pass_reads _ x = tt

-- under those of a keyset that was loaded
loaded_reads : (s : Sides) (draws left_draws : List ℕ) (old new : Outside) (e : TinkError) → RewrapsLoaded s draws left_draws old new (Err e) → RewrapReadsNoFurther s old new (Err e)
loaded_reads s draws left_draws old new e r = λ l loads.
    subst (λ (x : Loaded). RewrapReadsWithin (room_under (opening_keys s.from_aad x)) (opening_keys s.from_aad x) old.left new.left (Err e)) (same_loaded s.from r.from_loaded l r.from_loads loads) (go e.kind refl r.means)
  where
    keys : List OpeningKey
    keys = opening_keys s.from_aad r.from_loaded

    none : (kind : Kind) → e.kind ≡ kind → RewrapReadsBy (room_under keys) keys old.left new.left kind → RewrapReadsBy (room_under keys) keys old.left new.left e.kind
    none kind same m = subst (RewrapReadsBy (room_under keys) keys old.left new.left) (sym same) m

    some : PassesUnder keys (bytes_under r.to_loaded.primary s.to_aad draws) old new (Err e) → RewrapReadsBy (room_under keys) keys old.left new.left e.kind
    some m = pass_reads keys (bytes_under r.to_loaded.primary s.to_aad draws) old new e.kind m

    go : (kind : Kind) → e.kind ≡ kind → RewrapsUnderRefused keys r.to_loaded.primary s.to_aad draws left_draws old new e kind → RewrapReadsBy (room_under keys) keys old.left new.left e.kind
    go OutOfMemory same m = none OutOfMemory same tt
    go RandomFault same m = none RandomFault same tt
    go UnsupportedHash same m = none UnsupportedHash same tt
    go NoMatchingKey same m = some m.means
    go TooManySegments same m = some m.means
    go (Truncated n) same m = some m.means
    go (BadSegment n) same m = some m.means
    go ReadFault same m = some m.means
    go WriteFault same m = some m.means
    go _ same m = absurd m

pub reads_no_further : (s : Sides) (draws left_draws : List ℕ) (old new : Outside) (answer : Result Report TinkError) → RewrapMeans s draws left_draws old new answer → RewrapReadsNoFurther s old new answer
reads_no_further s draws left_draws old new (Ok report) r = λ l loads. tt
reads_no_further s draws left_draws old new (Err e) r = go e.kind refl r
  where
    none : (kind : Kind) → e.kind ≡ kind → ((l : Loaded) → RewrapReadsBy (room_under (opening_keys s.from_aad l)) (opening_keys s.from_aad l) old.left new.left kind) → RewrapReadsNoFurther s old new (Err e)
    none kind same m = λ l loads. subst (RewrapReadsBy (room_under (opening_keys s.from_aad l)) (opening_keys s.from_aad l) old.left new.left) (sym same) (m l)

    go : (kind : Kind) → e.kind ≡ kind → RewrapRefused s draws left_draws old new e kind → RewrapReadsNoFurther s old new (Err e)
    go OutOfMemory same m = none OutOfMemory same (λ l. tt)
    go BadKeyset same m = none BadKeyset same (λ l. tt)
    go InvalidKeyset same m = none InvalidKeyset same (λ l. tt)
    go UnsupportedKeyType same m = none UnsupportedKeyType same (λ l. tt)
    go InvalidKey same m = none InvalidKey same (λ l. tt)
    go NoPrimary same m = none NoPrimary same (λ l. tt)
    go WrongPrimitive same m = none WrongPrimitive same (λ l. tt)
    go RandomFault same m = loaded_reads s draws left_draws old new e m
    go UnsupportedHash same m = loaded_reads s draws left_draws old new e m
    go NoMatchingKey same m = loaded_reads s draws left_draws old new e m
    go TooManySegments same m = loaded_reads s draws left_draws old new e m
    go (Truncated n) same m = loaded_reads s draws left_draws old new e m
    go (BadSegment n) same m = loaded_reads s draws left_draws old new e m
    go ReadFault same m = loaded_reads s draws left_draws old new e m
    go WriteFault same m = loaded_reads s draws left_draws old new e m
    go _ same m = absurd m
