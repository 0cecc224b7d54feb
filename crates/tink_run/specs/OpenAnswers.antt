-- What an open says by each of its answers.
use Rattle.std.specs.Prelude.{◌≡◌, ℕ, ◌<◌, ◌≤◌, ◌^◌, Bool, List, [], ◌∷◌, length, slice_index_or, Option, Result, Ok, Err, Some, None, IfSome, IsSome}
use Rattle.std.specs.Io.KnownBytes.{Appends, Keeps, IsAtEnd}
use Rattle.tink_io.specs.Faults.{Rose}
use Rattle.tink_io.specs.Written.{AppendsPrefix}
use Rattle.tink_io.specs.declared.error.Kind.{Kind}
use Rattle.tink_io.specs.declared.error.Kind.TheVariants.{OutOfMemory, ReadFault, WriteFault, BadKeyset, InvalidKeyset, UnsupportedKeyType, InvalidKey, NoPrimary, WrongPrimitive, TooManySegments, NoMatchingKey, BadSegment, Truncated}
use Rattle.tink_io.specs.declared.error.TinkError.{TinkError}
use Rattle.stream_model.specs.Agree.{AreTexts, joined}
use Rattle.stream_model.specs.Opening.{OpeningKey, chunks_of, header_of, IsAgreed, IsChosen, IsStream}
use Rattle.loading_model.specs.Loading.{Loaded, opening_keys}
use Rattle.tink_run.specs.AllKeys.{load}
use Rattle.tink_run.specs.declared.report.Report.{Report}
use Rattle.tink_io.specs.Outside.{Outside}
use Rattle.tink_run.specs.SealAnswers.{IsRefused, WantsMemory}

-- chunk n of the stream behind its front
abbrev pub chunk_of : OpeningKey → List ℕ → ℕ → List ℕ
chunk_of k S n = slice_index_or (chunks_of k S) n []

-- the stream is one of the chosen key, of these texts
pub record IsOfChosen (keys : List OpeningKey) (S : List ℕ) (texts : List (List ℕ)) : Type 0 where
  pub key : OpeningKey
  pub chosen : IsChosen keys S (Some key)
  pub stream : IsStream key S texts

-- under the chosen key these are the texts that agree, and P holds of it
pub record AgreesUntil (keys : List OpeningKey) (S : List ℕ) (texts : List (List ℕ)) (P : OpeningKey → Type 0) : Type 0 where
  pub key : OpeningKey
  pub chosen : IsChosen keys S (Some key)
  pub agreed : IsAgreed key S texts
  pub then : P key

abbrev pub AreTextsBy : Option (ℕ → Bool → List ℕ → List ℕ) → List (List ℕ) → List (List ℕ) → Type 0
AreTextsBy None chunks texts = ⊥
AreTextsBy (Some seg) chunks texts = AreTexts seg 0 chunks texts

-- no text, or texts whose segments lead the chunks under the chosen key
abbrev pub Lead : List OpeningKey → List ℕ → List (List ℕ) → Type 0
Lead keys S [] = Unit {0}
Lead keys S (t ∷ ts) = (k : OpeningKey) × IsChosen keys S (Some k) × AreTextsBy (k.seg (header_of k S)) (chunks_of k S) (t ∷ ts)

-- the whole text was written
pub record IsOpenedWhole (keys : List OpeningKey) (old new : Outside) (report : Report) : Type 0 where
  pub texts : List (List ℕ)
  pub stream : IfSome old.left (λ S. IsOfChosen keys S texts)
  pub stays_told : IfSome old.left (λ _. IsSome new.left)
  pub at_end : IsAtEnd new.left
  pub written : Appends old.got new.got (joined texts)
  pub segments : report.segments ≡ length texts
  pub bytes : report.bytes ≡ length (joined texts)

-- the stream begins under no key
pub record HasNoKey (keys : List OpeningKey) (old new : Outside) : Type 0 where
  pub none : IfSome old.left (λ S. IsChosen keys S None)
  pub written : Keeps old.got new.got

-- chunk n, which is there, is shorter than a tag; the texts before it were written
pub record IsTruncated (keys : List OpeningKey) (n : ℕ) (old new : Outside) : Type 0 where
  pub texts : List (List ℕ)
  pub number : n ≡ length texts
  pub some : 0 < n
  pub stream : IfSome old.left (λ S. AgreesUntil keys S texts (λ k. (0 < length (chunk_of k S n)) × (length (chunk_of k S n) < k.overhead)))
  pub written : Appends old.got new.got (joined texts)

-- chunk n is the segment of no text; the texts before it were written
pub record HasBadSegment (keys : List OpeningKey) (n : ℕ) (old new : Outside) : Type 0 where
  pub texts : List (List ℕ)
  pub number : n ≡ length texts
  pub some : 0 < n
  pub stream : IfSome old.left (λ S. AgreesUntil keys S texts (λ k. k.overhead ≤ length (chunk_of k S n)))
  pub written : Appends old.got new.got (joined texts)

-- 2^32 chunks agree, and more follow
pub record GoesOn (keys : List OpeningKey) (old new : Outside) : Type 0 where
  pub texts : List (List ℕ)
  pub number : length texts ≡ 2 ^ 32
  pub stream : IfSome old.left (λ S. AgreesUntil keys S texts (λ k. 2 ^ 32 < length (chunks_of k S)))
  pub written : Appends old.got new.got (joined texts)

-- the source failed: the texts of leading segments were written whole
pub record IsCutOff (keys : List OpeningKey) (old new : Outside) : Type 0 where
  pub texts : List (List ℕ)
  pub lead : IfSome old.left (λ S. Lead keys S texts)
  pub written : Appends old.got new.got (joined texts)

-- the sink failed: a prefix of the texts of leading segments was written
pub record IsBroken (keys : List OpeningKey) (old new : Outside) : Type 0 where
  pub texts : List (List ℕ)
  pub lead : IfSome old.left (λ S. Lead keys S texts)
  pub written : AppendsPrefix old.got new.got (joined texts)

abbrev pub OpeningRefused : List OpeningKey → Outside → Outside → Kind → Type 0
OpeningRefused keys old new NoMatchingKey = HasNoKey keys old new
OpeningRefused keys old new (Truncated n) = IsTruncated keys n old new
OpeningRefused keys old new (BadSegment n) = HasBadSegment keys n old new
OpeningRefused keys old new TooManySegments = GoesOn keys old new
OpeningRefused keys old new ReadFault = IsCutOff keys old new × Rose old.read_faults new.read_faults
OpeningRefused keys old new WriteFault = IsBroken keys old new × Rose old.write_faults new.write_faults
OpeningRefused keys old new _ = ⊥

abbrev pub OpeningMeans : List OpeningKey → Outside → Outside → Result Report TinkError → Type 0
OpeningMeans keys old new (Ok report) = IsOpenedWhole keys old new report
OpeningMeans keys old new (Err e) = OpeningRefused keys old new e.kind

-- keys were loaded, and this is what opening under them says
pub record OpensLoaded (keyset aad : List ℕ) (old new : Outside) (answer : Result Report TinkError) : Type 0 where
  pub loaded : Loaded
  pub loads : load keyset ≡ Ok loaded
  pub means : OpeningMeans (opening_keys aad loaded) old new answer

-- each refusal has its cause, and says what stands after it. No other refusal is given.
abbrev pub OpenRefused : List ℕ → List ℕ → List ℕ → List ℕ → Outside → Outside → TinkError → Kind → Type 0
OpenRefused keyset aad draws left_draws old new e OutOfMemory = WantsMemory draws left_draws old new
OpenRefused keyset aad draws left_draws old new e BadKeyset = IsRefused keyset BadKeyset draws left_draws old new
OpenRefused keyset aad draws left_draws old new e InvalidKeyset = IsRefused keyset InvalidKeyset draws left_draws old new
OpenRefused keyset aad draws left_draws old new e UnsupportedKeyType = IsRefused keyset UnsupportedKeyType draws left_draws old new
OpenRefused keyset aad draws left_draws old new e InvalidKey = IsRefused keyset InvalidKey draws left_draws old new
OpenRefused keyset aad draws left_draws old new e NoPrimary = IsRefused keyset NoPrimary draws left_draws old new
OpenRefused keyset aad draws left_draws old new e WrongPrimitive = IsRefused keyset WrongPrimitive draws left_draws old new
OpenRefused keyset aad draws left_draws old new e ReadFault = OpensLoaded keyset aad old new (Err e)
OpenRefused keyset aad draws left_draws old new e WriteFault = OpensLoaded keyset aad old new (Err e)
OpenRefused keyset aad draws left_draws old new e TooManySegments = OpensLoaded keyset aad old new (Err e)
OpenRefused keyset aad draws left_draws old new e NoMatchingKey = OpensLoaded keyset aad old new (Err e)
OpenRefused keyset aad draws left_draws old new e (BadSegment n) = OpensLoaded keyset aad old new (Err e)
OpenRefused keyset aad draws left_draws old new e (Truncated n) = OpensLoaded keyset aad old new (Err e)
OpenRefused keyset aad draws left_draws old new e _ = ⊥

abbrev pub OpenMeans : List ℕ → List ℕ → List ℕ → List ℕ → Outside → Outside → Result Report TinkError → Type 0
OpenMeans keyset aad draws left_draws old new (Ok report) = OpensLoaded keyset aad old new (Ok report)
OpenMeans keyset aad draws left_draws old new (Err e) = OpenRefused keyset aad draws left_draws old new e e.kind
