-- Why a task ended by an error.
use Rattle.std.proofs.Common.{◌≡◌, ◌≤◌, inl, inr, ℕ, List, true, sym, ◌∙◌, subst, ap}
use Rattle.std.specs.Prelude.{Bool, Option, Some, None, Result, Ok, Err, IfErr, IsErrAnd, IsSome, OnOk, option_map}
use Rattle.tink_io.proofs.FaultLemmas.{Rose-earlier}
use Rattle.tink_io.proofs.OutsideFacts.{told_whole}
use Rattle.tink_io.specs.Faults.{Rose}
use Rattle.tink_io.specs.Outside.{Outside}
use Rattle.tink_io.specs.Places.{Ends}
use Rattle.tink_io.specs.declared.error.Kind.{Kind}
use Rattle.tink_io.specs.declared.error.TinkError.{TinkError}
use Rattle.tink_run.specs.declared.report.Report.{Report}
use Rattle.tink_cli_files.specs.Streams.{RanAndEnded}
use Rattle.tink_cli_files.specs.declared.tasks.Task.{Task}
use Rattle.tink_system.specs.States.{IsOfCause, IsUnopened, KeepsSystem, SystemState, content, known_bytes, known_content}
use Rattle.tink_system.specs.Statuses.{refusal_status, trouble_status}
use Rattle.tink_system.specs.declared.trouble.Trouble.{Trouble}
use Rattle.tink_cli_jobs.specs.Outputs.{KeepsFiles}
use Rattle.tink_cli_jobs.proofs.OutputLemmas.{some_of}
use Rattle.tink_cli_streams.specs.Breaking.{drawn_by}
use Rattle.tink_cli_streams.specs.Causes.{HasTaskCause, IsOfTask, MayEnd}
use Rattle.tink_cli_streams.specs.Fitting.{FittingMeans, IsTooLong}
use Rattle.tink_cli_streams.specs.Performing.{Spends, takes_random, text_for}
use Rattle.tink_cli_streams.proofs.BreakingLemmas.{spent}
use Rattle.tink_cli_streams.proofs.PerformingLemmas.{content_earlier}

some_none : (text : List ℕ) → Some text ≡ None → ⊥
some_none text is = absurd (cc)

-- a task that ended by an error, or whose result is too long
of_error : (task : Task) (keyset aad drawn rest : List ℕ) (old new : Outside) (e : TinkError) (status : ℕ)
    → FittingMeans task keyset aad drawn rest old new (Err e) → status ≡ refusal_status e.kind
    → ((old.left ≡ None → ⊥) → Rose old.read_faults new.read_faults → ⊥) → MayEnd task keyset aad drawn old.left status
of_error task keyset aad drawn rest old new e status (inl means) is sure = inr (inr (λ text left. inl (record {
  rest = rest;
  old = old;
  new = new;
  e = e;
  reads = left;
  sure = sure (λ none. some_none text (sym left ∙ none));
  means = means;
  status_is = is;
})))
of_error task keyset aad drawn rest old new e status (inr x) is sure = inr (inr (λ text left. inr (
  is ∙ ap (λ (kind : Kind). refusal_status kind) x.kind,
  subst (λ (t : List ℕ). IsTooLong task keyset t) (sym (told_whole old.left new.left text x.text left x.has.read x.has.at_end).0) x.long,
)))

-- a task that wrote to a sink
pub written_ends : (task : Task) (keyset aad drawn rest : List ℕ) (old new : Outside) (answer : Result (Option Report) TinkError) (result : Result (Unit {0}) Trouble)
    → FittingMeans task keyset aad drawn rest old new answer → OnOk answer (result ≡ Ok tt)
    → IfErr answer (λ e. IsErrAnd result (λ t. trouble_status t ≡ refusal_status e.kind))
    → ((old.left ≡ None → ⊥) → Rose old.read_faults new.read_faults → ⊥)
    → IfErr result (λ t. MayEnd task keyset aad drawn old.left (trouble_status t))
written_ends task keyset aad drawn rest old new (Ok report) (Ok done) means ok refused sure = tt
written_ends task keyset aad drawn rest old new (Ok report) (Err t) means ok refused sure = absurd (cc)
written_ends task keyset aad drawn rest old new (Err e) (Ok done) means ok refused sure = tt
written_ends task keyset aad drawn rest old new (Err e) (Err t) means ok refused sure = of_error task keyset aad drawn rest old new e (trouble_status t) means refused sure

-- a pipe or a device that is not opened
pub unopened_ends : (task : Task) (keyset aad drawn : List ℕ) (left : Option (List ℕ)) (cause : Type 0) (t : Trouble)
    → IsOfCause 12 cause t → MayEnd task keyset aad drawn left (trouble_status t)
unopened_ends task keyset aad drawn left cause t (inl want) = inl want
unopened_ends task keyset aad drawn left cause t (inr is) = inr (inl is.0)

-- a task that wrote a draft: by its own answer and that of the draft's end
drafted_by : (task : Task) (keyset aad drawn rest : List ℕ) (old new : Outside) (draft : Option (List ℕ)) (replaces : Bool) (before after : Option (Option (List ℕ)))
    (i j : ℕ) (answer : Result (Option Report) TinkError) (e : TinkError) (status : ℕ)
    → FittingMeans task keyset aad drawn rest old new answer → Ends draft replaces before after i j answer (Err e) → status ≡ refusal_status e.kind
    → ((old.left ≡ None → ⊥) → Rose old.read_faults new.read_faults → ⊥)
    → MayEnd task keyset aad drawn old.left status
drafted_by task keyset aad drawn rest old new draft replaces before after i j (Ok report) e status means ends is sure =
    inr (inl (is ∙ ap (λ (x : TinkError). refusal_status x.kind) ends.refusal))
drafted_by task keyset aad drawn rest old new draft replaces before after i j (Err f) e status means ends is sure =
    of_error task keyset aad drawn rest old new f status means (is ∙ ap (λ (x : TinkError). refusal_status x.kind) ends.0) sure

pub drafted_ends : {P : Type 0} (got : P → Option (List ℕ)) (counted : P → ℕ) (task : Task) (keyset aad drawn rest : List ℕ) (old : Outside) (new : P → Outside)
    (replaces : Bool) (before after : Option (Option (List ℕ))) (faults : ℕ) (answer : Result (Option Report) TinkError) (result : Result (Unit {0}) Trouble)
    → RanAndEnded got counted (λ draft a. FittingMeans task keyset aad drawn rest old (new draft) a) replaces before after faults answer
    → OnOk answer (result ≡ Ok tt) → IfErr answer (λ e. IsErrAnd result (λ t. trouble_status t ≡ refusal_status e.kind))
    → ((draft : P) → (old.left ≡ None → ⊥) → Rose old.read_faults (new draft).read_faults → ⊥)
    → IfErr result (λ t. MayEnd task keyset aad drawn old.left (trouble_status t))
drafted_ends got counted task keyset aad drawn rest old new replaces before after faults (Ok report) (Ok done) ran ok refused sure = tt
drafted_ends got counted task keyset aad drawn rest old new replaces before after faults (Ok report) (Err t) ran ok refused sure = absurd (cc)
drafted_ends got counted task keyset aad drawn rest old new replaces before after faults (Err e) (Ok done) ran ok refused sure = tt
drafted_ends got counted task keyset aad drawn rest old new replaces before after faults (Err e) (Err t) ran ok refused sure =
    drafted_by task keyset aad drawn rest old (new ran.draft) (got ran.draft) replaces before after (counted ran.draft) faults ran.answer e (trouble_status t) ran.ran ran.ended refused
    (sure ran.draft)

-- an input that is not opened
pub unopened_cause : (task : Task) (keyset aad drawn : List ℕ) (s : SystemState) (input : Option (List ℕ)) (before now : ℕ) (t : Trouble)
    → IsUnopened s input before now t → s.is_known ≡ true → HasTaskCause task keyset aad drawn s input before now (trouble_status t)
unopened_cause task keyset aad drawn s input before now t (inl want) known = inl want
unopened_cause task keyset aad drawn s input before now t (inr (status, inl absent)) known = inr (inr (inr (inl (status, absent known))))
unopened_cause task keyset aad drawn s input before now t (inr (status, inr rose)) known = inr (inr (inl rose))

-- of an input that was opened
pub opened_cause : (task : Task) (keyset aad drawn : List ℕ) (s : SystemState) (input left : Option (List ℕ)) (before now : ℕ) (result : Result (Unit {0}) Trouble)
    → left ≡ option_map (text_for task) (known_content s input) → (s.is_known ≡ true → IsSome (content s input))
    → IfErr result (λ t. MayEnd task keyset aad drawn left (trouble_status t))
    → IfErr result (λ t. s.is_known ≡ true → HasTaskCause task keyset aad drawn s input before now (trouble_status t))
opened_cause task keyset aad drawn s input left before now (Ok done) given there may = tt
opened_cause task keyset aad drawn s input left before now (Err t) given there may = λ known. by (there known) known may
  where
    by : IsSome (content s input) → s.is_known ≡ true → MayEnd task keyset aad drawn left (trouble_status t) → HasTaskCause task keyset aad drawn s input before now (trouble_status t)
    by is known (inl want) = inl want
    by is known (inr (inl unwritten)) = inr (inl unwritten)
    by is known (inr (inr over)) =
        let found = some_of (content s input) is in
        let read : known_content s input ≡ Some found.0 = ap (λ (b : Bool). known_bytes b (content s input)) known ∙ found.1 in
        inr (inr (inr (inr (record {
          text = found.0;
          read = found.1;
          ends = over (text_for task found.0) (given ∙ ap (λ (l : Option (List ℕ)). option_map (text_for task) l) read);
        }))))

cause_earlier : (task : Task) (keyset aad drawn : List ℕ) (s : SystemState) (input : Option (List ℕ)) (before then now status : ℕ) → before ≤ then
    → HasTaskCause task keyset aad drawn s input then now status → HasTaskCause task keyset aad drawn s input before now status
cause_earlier task keyset aad drawn s input before then now status le (inl want) = inl want
cause_earlier task keyset aad drawn s input before then now status le (inr (inl unwritten)) = inr (inl unwritten)
cause_earlier task keyset aad drawn s input before then now status le (inr (inr (inl rose))) = inr (inr (inl (Rose-earlier before then now le rose)))
cause_earlier task keyset aad drawn s input before then now status le (inr (inr (inr of))) = inr (inr (inr of))

of_content : (task : Task) (keyset aad drawn : List ℕ) (old middle : SystemState) (input : Option (List ℕ)) (status : ℕ) → content middle input ≡ content old input
    → IsOfTask task keyset aad drawn middle input status → IsOfTask task keyset aad drawn old input status
of_content task keyset aad drawn old middle input status same (inl absent) = inl (absent.0, sym same ∙ absent.1)
of_content task keyset aad drawn old middle input status same (inr of) = inr (record { text = of.text; read = sym same ∙ of.read; ends = of.ends })

cause_of : (task : Task) (keyset aad drawn : List ℕ) (old middle : SystemState) (input : Option (List ℕ)) (before now status : ℕ) → content middle input ≡ content old input
    → HasTaskCause task keyset aad drawn middle input before now status → HasTaskCause task keyset aad drawn old input before now status
cause_of task keyset aad drawn old middle input before now status same (inl want) = inl want
cause_of task keyset aad drawn old middle input before now status same (inr (inl unwritten)) = inr (inl unwritten)
cause_of task keyset aad drawn old middle input before now status same (inr (inr (inl rose))) = inr (inr (inl rose))
cause_of task keyset aad drawn old middle input before now status same (inr (inr (inr of))) = inr (inr (inr (of_content task keyset aad drawn old middle input status same of)))

-- by random bytes that were taken before
pub drawn_cause : (task : Task) (keyset aad drawn : List ℕ) (input : Option (List ℕ)) (old middle : SystemState) (before then now : ℕ) (result : Result (Unit {0}) Trouble)
    → KeepsFiles old middle → KeepsSystem old middle → (old.is_known ≡ true → Spends (takes_random task) old middle drawn) → before ≤ then
    → IfErr result (λ t. middle.is_known ≡ true → HasTaskCause task keyset aad drawn middle input then now (trouble_status t))
    → IfErr result (λ t. old.is_known ≡ true → HasTaskCause task keyset aad (drawn_by (takes_random task) old) old input before now (trouble_status t))
drawn_cause task keyset aad drawn input old middle before then now (Ok done) files system spends le cause = tt
drawn_cause task keyset aad drawn input old middle before then now (Err t) files system spends le cause = λ known.
    subst (λ (d : List ℕ). HasTaskCause task keyset aad d old input before now (trouble_status t)) (spent (takes_random task) old middle drawn (spends known))
    (cause_of task keyset aad drawn old middle input before now (trouble_status t) (content_earlier old middle input files system)
    (cause_earlier task keyset aad drawn middle input before then now (trouble_status t) le (cause (system.known ∙ known))))

-- without random bytes
pub undrawn_cause : (task : Task) (keyset aad drawn : List ℕ) (input : Option (List ℕ)) (s : SystemState) (before now : ℕ) (t : Trouble)
    → IsOfCause 35 (Rose before now) t → HasTaskCause task keyset aad drawn s input before now (trouble_status t)
undrawn_cause task keyset aad drawn input s before now t (inl want) = inl want
undrawn_cause task keyset aad drawn input s before now t (inr is) = inr (inr (inl is.1))
