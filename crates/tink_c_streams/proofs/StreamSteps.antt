-- From what a sink in memory got to the bytes that are given.
use Rattle.std.proofs.Common.{◌≡◌, ◌⊎◌, inl, inr, ℕ, List, [], Some, Result, Ok, Err, ap, refl, sym, subst, ◌∙◌}
use Rattle.std.specs.Prelude.{IfOk, length}
use Rattle.tink_rewrap.specs.KeysetRanges.{GivesSlice, KeysetRangeMeans}
use Rattle.tink_io.specs.Outside.{Outside, AreKnown}
use Rattle.tink_io.specs.Answering.{Answers}
use Rattle.tink_io.specs.declared.error.Kind.{Kind}
use Rattle.tink_io.specs.declared.error.TinkError.{TinkError}
use Rattle.tink_keyset_io.specs.Files.{wire_of}
use Rattle.tink_run.specs.declared.report.Report.{Report}
use Rattle.tink_c_bytes.specs.Delivered.{MadeBy}
use Rattle.tink_c_bytes.specs.Taken.{IsTaken}
use Rattle.tink_c_streams.specs.Streams.{InFile, IsNoRange, IsRange, Writes, WritesNot, faults_of, got_of, moments, start_of}
use Rattle.tink_c_bytes.specs.declared.growing.Growing.{Growing}

-- the outside of a source and a sink in memory
abbrev pub here : List ℕ → Growing → Outside
here source sink = record { left = Some source; read_faults = 0; got = Some sink.bytes.items; write_faults = sink.faults }

-- at first nothing was written
pub begins : (source input : List ℕ) (sink : Growing) → source ≡ input → sink.bytes.items ≡ [] → sink.faults ≡ 0 → here source sink ≡ start_of input
begins source input sink s b f = λ i. record { left = Some (s i); read_faults = 0; got = Some (b i); write_faults = f i }

pub tells : (source input : List ℕ) (sink : Growing) → source ≡ input → sink.bytes.items ≡ [] → AreKnown (here source sink) input []
tells source input sink s b = record { left = ap (λ (x : List ℕ). Some x) s; got = ap (λ (x : List ℕ). Some x) b }

module _ (Whole : List ℕ → List ℕ → List ℕ → List ℕ → Outside → Report → Type 0) (Means : List ℕ → List ℕ → Outside → Outside → Result Report TinkError → Type 0) where
  -- `Whole random left T G end report` says that of the input T all was written behind G
  abbrev Gives : List ℕ → List ℕ → List ℕ → Type 0
  Gives random input = Writes (λ left end report. Whole random left input [] end report)

  abbrev Refuses : List ℕ → List ℕ → Kind → Type 0
  Refuses random input = WritesNot (λ left end answer. Means random left (start_of input) end answer)

  pub given : (random input draws left source source' : List ℕ) (sink sink' : Growing) (answer : Result Report TinkError) (result : Result (List ℕ) TinkError)
      → draws ≡ random → source ≡ input → sink.bytes.items ≡ [] → sink.faults ≡ 0 → Means draws left (here source sink) (here source' sink') answer
      → IfOk answer (λ report. (T G : List ℕ) → AreKnown (here source sink) T G → Whole draws left T G (here source' sink') report)
      → IsTaken answer sink' result → MadeBy (Gives random input) (Refuses random input) result
  given random input draws left source source' sink sink' (Ok report) (Ok output) d s b f means whole taken =
      record {
        left_random = left;
        end = here source' sink';
        report = report;
        got = ap (λ (x : List ℕ). Some x) (sym taken.1);
        whole = subst (λ (x : List ℕ). Whole x left input [] (here source' sink') report) d (whole input [] (tells source input sink s b));
      }
  given random input draws left source source' sink sink' (Ok report) (Err e) d s b f means whole taken = inl taken
  given random input draws left source source' sink sink' (Err e) (Ok output) d s b f means whole taken = absurd taken
  given random input draws left source source' sink sink' (Err e) (Err g) d s b f means whole (inl want) = inl want
  given random input draws left source source' sink sink' (Err e) (Err g) d s b f means whole (inr same) =
      let start = subst (λ (o : Outside). Means draws left o (here source' sink') (Err e)) (begins source input sink s b f) means in
      let drawn = subst (λ (x : List ℕ). Means x left (start_of input) (here source' sink') (Err e)) d start in
      inr (record { left_random = left; end = here source' sink'; reads = refl; writes = same.0; cause = subst (λ (x : TinkError). Means random left (start_of input) (here source' sink') (Err x)) (sym same.1) drawn })

pub some_is : {x y : List ℕ} → Some x ≡ Some y → x ≡ y
some_is same = cc

-- ---- the keyset of a file

module _ (file : List ℕ) (Gives : List ℕ → List ℕ → Type 0) (Refuses : List ℕ → Kind → Type 0) where
  abbrev pub FileGives : List ℕ → Type 0
  FileGives output = InFile file (λ wire. Gives wire output)

  abbrev pub FileRefuses : Kind → Type 0
  FileRefuses kind = (wire_of file ≡ Err kind) ⊎ InFile file (λ wire. Refuses wire kind)

  -- a file that is no keyset
  pub unread : (e : TinkError) → Answers {T = List ℕ} (Err e) (wire_of file) → MadeBy FileGives FileRefuses (Err e)
  unread e (inl want) = inl want
  unread e (inr is) = inr (inl is)

  -- one that is
  pub read : (wire : List ℕ) (result : Result (List ℕ) TinkError) → wire_of file ≡ Ok wire → MadeBy (Gives wire) (Refuses wire) result
      → MadeBy FileGives FileRefuses result
  read wire (Ok output) is gives = record { wire = wire; reads = is; holds = gives }
  read wire (Err e) is (inl want) = inl want
  read wire (Err e) is (inr refuses) = inr (inr (record { wire = wire; reads = is; holds = refuses }))

-- the keysets of two files

module _ (file to : List ℕ) (Gives : List ℕ → List ℕ → List ℕ → Type 0) (Refuses : List ℕ → List ℕ → Kind → Type 0) where
  abbrev BothGive : List ℕ → Type 0
  BothGive = FileGives file (λ wire. FileGives to (Gives wire) (Refuses wire)) (λ wire. FileRefuses to (Gives wire) (Refuses wire))

  abbrev BothRefuse : Kind → Type 0
  BothRefuse = FileRefuses file (λ wire. FileGives to (Gives wire) (Refuses wire)) (λ wire. FileRefuses to (Gives wire) (Refuses wire))

  pub first_unread : (e : TinkError) → Answers {T = List ℕ} (Err e) (wire_of file) → MadeBy BothGive BothRefuse (Err e)
  first_unread e answers = unread file (λ wire. FileGives to (Gives wire) (Refuses wire)) (λ wire. FileRefuses to (Gives wire) (Refuses wire)) e answers

  pub second_unread : (wire : List ℕ) (e : TinkError) → wire_of file ≡ Ok wire → Answers {T = List ℕ} (Err e) (wire_of to) → MadeBy BothGive BothRefuse (Err e)
  second_unread wire e is answers =
      read file (λ wire. FileGives to (Gives wire) (Refuses wire)) (λ wire. FileRefuses to (Gives wire) (Refuses wire)) wire (Err e) is
      (unread to (Gives wire) (Refuses wire) e answers)

  pub read_both : (wire into : List ℕ) (result : Result (List ℕ) TinkError) → wire_of file ≡ Ok wire → wire_of to ≡ Ok into
      → MadeBy (Gives wire into) (Refuses wire into) result → MadeBy BothGive BothRefuse result
  read_both wire into result is also gives =
      read file (λ wire. FileGives to (Gives wire) (Refuses wire)) (λ wire. FileRefuses to (Gives wire) (Refuses wire)) wire result is
      (read to (Gives wire) (Refuses wire) into result also gives)

-- ---- ranges

-- a range of an object in memory
pub ranged : (wire aad input : List ℕ) (start len : ℕ) (object object' : List ℕ) (sink sink' : Growing) (answer : Result ℕ TinkError) (result : Result (List ℕ) TinkError)
    → object ≡ input → object' ≡ object → sink.bytes.items ≡ []
    → KeysetRangeMeans got_of faults_of wire aad (length object) start len object object' (moments object sink sink') answer
    → IfOk answer (λ n. GivesSlice got_of wire aad start len (moments object sink sink') n)
    → IsTaken answer sink' result → MadeBy (IsRange wire aad input start len) (IsNoRange wire aad input start len) result
ranged wire aad input start len object object' sink sink' answer result same kept fresh means slice taken =
    at_input answer result
    (subst (λ (x : List ℕ). KeysetRangeMeans got_of faults_of wire aad (length x) start len x x (moments x sink sink') answer) same
    (subst (λ (x : List ℕ). KeysetRangeMeans got_of faults_of wire aad (length object) start len object x (moments object sink sink') answer) kept means))
    (subst (λ (x : List ℕ). IfOk answer (λ n. GivesSlice got_of wire aad start len (moments x sink sink') n)) same slice) taken
  where
    at_input : (answer : Result ℕ TinkError) (result : Result (List ℕ) TinkError)
        → KeysetRangeMeans got_of faults_of wire aad (length input) start len input input (moments input sink sink') answer
        → IfOk answer (λ n. GivesSlice got_of wire aad start len (moments input sink sink') n)
        → IsTaken answer sink' result → MadeBy (IsRange wire aad input start len) (IsNoRange wire aad input start len) result
    at_input (Ok n) (Ok output) means slice taken =
        record {
          old = sink;
          new = sink';
          fresh = fresh;
          got = sym taken.1;
          count = n;
          means = means;
          slice = λ l key texts loads chosen stream.
              taken.1 ∙ some_is (slice input [] l key texts refl (ap (λ (x : List ℕ). Some x) fresh) loads chosen stream).written;
        }
    at_input (Ok n) (Err e) means slice taken = inl taken
    at_input (Err e) (Ok output) means slice taken = absurd taken
    at_input (Err e) (Err g) means slice (inl want) = inl want
    at_input (Err e) (Err g) means slice (inr same) =
        inr (record {
          old = sink;
          new = sink';
          unfailed = same.0;
          means = subst (λ (x : TinkError). KeysetRangeMeans got_of faults_of wire aad (length input) start len input input (moments input sink sink') (Err x)) (sym same.1) means;
        })
