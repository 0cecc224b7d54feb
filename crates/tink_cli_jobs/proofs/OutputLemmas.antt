-- What was made, where it was put.
use Rattle.std.proofs.Common.{◌≡◌, ℕ, List, [], Bool, true, false, refl, sym, ◌∙◌, subst, ap}
use Rattle.std.proofs.lemmas.Bool.{true≢false}
use Rattle.std.specs.Prelude.{Option, Some, None, Result, Ok, Err, IfErr, IfOk, IfSome, IsErrAnd, IsSome, OnOk}
use Rattle.tink_io.specs.declared.error.TinkError.{TinkError}
use Rattle.tink_cli_files.specs.Streams.{IsShownWhole}
use Rattle.tink_system.specs.States.{HasBegun, KeepsSystem, SystemState, known_if, replaces_by}
use Rattle.tink_system.specs.declared.system.How.{How}
use Rattle.tink_system.specs.declared.trouble.Trouble.{Trouble}
use Rattle.tink_cli_jobs.specs.Outputs.{IsFresh, IsInFile, IsPut, KeepsFiles, KeepsOtherFiles, how_by}

-- what is made of an input, behind what was there
abbrev pub Makings : Type 1
Makings = List ℕ → List ℕ → Option (List ℕ) → Type 0

-- the bytes that are there
pub some_of : (o : Option (List ℕ)) → IsSome o → (v : List ℕ) × (o ≡ Some v)
some_of (Some v) is = (v, refl)
some_of None is = absurd (true≢false (sym is))

-- a draft that was shown replaced no file, if it was to replace none
pub shown_fresh : {D V : Type 0} (got : D → Option (List ℕ)) (is_whole : D → V → Type 0) (replaces : Bool) (before shown : Option (Option (List ℕ)))
    (answer : Result V TinkError) (P : TinkError → Trouble → Type 0) (result : Result (Unit {0}) Trouble)
    → IfOk answer (λ v. IsShownWhole got is_whole replaces before shown v) → IfErr answer (λ e. IsErrAnd result (P e))
    → OnOk result (replaces ≡ false → IfSome before (λ file. file ≡ None))
shown_fresh got is_whole replaces before shown (Ok v) P (Ok done) ok refused = ok.shown.fresh
shown_fresh got is_whole replaces before shown (Ok v) P (Err t) ok refused = tt
shown_fresh got is_whole replaces before shown (Err e) P (Ok done) ok refused = absurd refused
shown_fresh got is_whole replaces before shown (Err e) P (Err t) ok refused = tt

-- so there was none
pub fresh_file : (keeps : Bool) (how : How) (replaces : Bool) (s : SystemState) (output : List ℕ) (before : Option (Option (List ℕ)))
    → s.is_known ≡ true → how ≡ how_by keeps → replaces ≡ replaces_by how → before ≡ known_if s.is_known (s.file output)
    → (replaces ≡ false → IfSome before (λ file. file ≡ None)) → IsFresh keeps s output
fresh_file true how replaces s output before known how_is replaces_is before_is fresh =
    subst (λ (x : Option (Option (List ℕ))). IfSome x (λ file. file ≡ None)) (before_is ∙ ap (λ (b : Bool). known_if b (s.file output)) known)
    (fresh (replaces_is ∙ ap (λ (h : How). replaces_by h) how_is))
fresh_file false how replaces s output before known how_is replaces_is before_is fresh = tt

-- written to a draft of no bytes
pub drafted : (makes : Makings) (A : List ℕ → Type 0) (keeps : Bool) (how : How) (old begun new : SystemState) (output : List ℕ) (has_draft replaces : Bool)
    (got : Option (List ℕ)) (before : Option (Option (List ℕ))) (result : Result (Unit {0}) Trouble)
    → how ≡ how_by keeps → begun ≡ old → HasBegun old output how has_draft replaces got before → KeepsOtherFiles begun new output
    → OnOk result (replaces ≡ false → IfSome before (λ file. file ≡ None))
    → OnOk result ((X had : List ℕ) → A X → got ≡ Some had → makes X had (new.file output))
    → OnOk result (old.is_known ≡ true → (X : List ℕ) → A X → IsInFile (λ had after. makes X had after) keeps old new output)
drafted makes A keeps how old begun new output has_draft replaces got before (Ok done) how_is same has others fresh made = λ known X is. record {
  made = λ no. made X [] is (has.empty ∙ ap (λ (b : Bool). known_if b []) known);
  fresh = λ no. fresh_file keeps how replaces old output before known how_is has.replacing has.shows fresh;
  others = subst (λ (s : SystemState). KeepsOtherFiles s new output) same others;
}
drafted makes A keeps how old begun new output has_draft replaces got before (Err t) how_is same has others fresh made = tt

-- written to a pipe or a device, of which nothing is said
pub streamed : (makes : Makings) (A : List ℕ → Type 0) (keeps : Bool) (old new : SystemState) (output : List ℕ) (result : Result (Unit {0}) Trouble)
    → (old.is_known ≡ true → old.is_stream output ≡ true) → new ≡ old
    → OnOk result (old.is_known ≡ true → (X : List ℕ) → A X → IsInFile (λ had after. makes X had after) keeps old new output)
streamed makes A keeps old new output (Ok done) stream same = λ known X is. record {
  made = λ no. absurd (true≢false (sym (stream known) ∙ no));
  fresh = λ no. absurd (true≢false (sym (stream known) ∙ no));
  others = λ name other. ap (λ (s : SystemState). s.file name) same;
}
streamed makes A keeps old new output (Err t) stream same = tt

-- written to a file after a call that changed nothing
pub filed : (makes : Makings) (A : List ℕ → Type 0) (keeps : Bool) (old asked new : SystemState) (output : List ℕ) (result : Result (Unit {0}) Trouble)
    → asked ≡ old → OnOk result (asked.is_known ≡ true → (X : List ℕ) → A X → IsInFile (λ had after. makes X had after) keeps asked new output)
    → OnOk result (old.is_known ≡ true → (X : List ℕ) → A X → IsInFile (λ had after. makes X had after) keeps old new output)
filed makes A keeps old asked new output result same made =
    subst (λ (s : SystemState). OnOk result (s.is_known ≡ true → (X : List ℕ) → A X → IsInFile (λ had after. makes X had after) keeps s new output)) same made

-- standard output stays
pub put_in_file : (makes : Makings) (A : List ℕ → Type 0) (keeps : Bool) (old new : SystemState) (output : List ℕ) (got : Option (List ℕ)) (result : Result (Unit {0}) Trouble)
    → OnOk result (old.is_known ≡ true → (X : List ℕ) → A X → IsInFile (λ had after. makes X had after) keeps old new output)
    → OnOk result (old.is_known ≡ true → (X : List ℕ) → A X → IsPut (λ had after. makes X had after) keeps old new (Some output) got got)
put_in_file makes A keeps old new output got (Ok done) made = λ known X is. (made known X is, refl)
put_in_file makes A keeps old new output got (Err t) made = tt

-- written to standard output
pub put_out : (makes : Makings) (A : List ℕ → Type 0) (keeps : Bool) (old new : SystemState) (got got_after : Option (List ℕ)) (result : Result (Unit {0}) Trouble)
    → new ≡ old → OnOk result ((X before : List ℕ) → A X → got ≡ Some before → makes X before got_after)
    → OnOk result (old.is_known ≡ true → (X : List ℕ) → A X → IsPut (λ had after. makes X had after) keeps old new None got got_after)
put_out makes A keeps old new got got_after (Ok done) same made = λ known X is. (
  λ before has. made X before is has,
  λ name. ap (λ (s : SystemState). s.file name) same,
)
put_out makes A keeps old new got got_after (Err t) same made = tt

fresh_earlier : (keeps : Bool) (old middle : SystemState) (output : List ℕ) → middle.file output ≡ old.file output → IsFresh keeps middle output → IsFresh keeps old output
fresh_earlier true old middle output same fresh = sym same ∙ fresh
fresh_earlier false old middle output same fresh = tt

-- what was put after a call that changed no file
pub put_earlier : (makes : List ℕ → Option (List ℕ) → Type 0) (keeps : Bool) (old middle new : SystemState) (output : Option (List ℕ)) (got got_after : Option (List ℕ))
    → KeepsFiles old middle → KeepsSystem old middle → IsPut makes keeps middle new output got got_after → IsPut makes keeps old new output got got_after
put_earlier makes keeps old middle new (Some output) got got_after files system put = (
  record {
    made = λ file. put.0.made (rw system.streams file);
    fresh = λ file. fresh_earlier keeps old middle output (files output) (put.0.fresh (rw system.streams file));
    others = λ name other. put.0.others name (rw system.names other) ∙ files name;
  },
  put.1,
)
put_earlier makes keeps old middle new None got got_after files system put = (put.0, λ name. put.1 name ∙ files name)
