-- What is on standard output after an error.
use Rattle.std.proofs.Common.{◌≡◌, inl, inr, ℕ, List, Bool, true, false, refl, ◌∙◌, subst, ap}
use Rattle.std.specs.Prelude.{Option, Some, None, Result, Ok, Err, IfErr, IsErrAnd, OnOk, option_map}
use Rattle.tink_cli_words.specs.LineRead.{LineRead}
use Rattle.tink_cli_words.specs.declared.form.Action.{Action}
use Rattle.tink_io.specs.Faults.{Rose}
use Rattle.tink_io.specs.Outside.{Outside}
use Rattle.tink_io.specs.declared.error.TinkError.{TinkError}
use Rattle.tink_run.specs.declared.report.Report.{Report}
use Rattle.tink_cli_files.specs.declared.tasks.Task.{Task}
use Rattle.tink_system.specs.States.{KeepsSystem, SystemState, content, known_bytes, known_content}
use Rattle.tink_system.specs.Statuses.{refusal_status, trouble_status}
use Rattle.tink_system.specs.declared.trouble.Trouble.{Trouble}
use Rattle.tink_cli_jobs.specs.Jobs.{IsJob}
use Rattle.tink_cli_jobs.specs.Loading.{keyset_of}
use Rattle.tink_cli_jobs.specs.Outputs.{KeepsFiles}
use Rattle.tink_cli_jobs.specs.declared.job.Job.{Job}
use Rattle.tink_cli_streams.specs.Breaking.{Breaks, BreaksLine, BreaksOn, IsUnmade, IsUnperformed, MayBreak, StaysOr, drawn_by}
use Rattle.tink_cli_streams.specs.Fitting.{FittingMeans}
use Rattle.tink_cli_streams.specs.Performing.{Spends, takes_random, text_for}
use Rattle.tink_cli_streams.specs.Streams.{own_task}
use Rattle.tink_cli_streams.proofs.PerformingLemmas.{content_earlier}

-- a task that wrote to a sink
pub may_break : (task : Task) (keyset aad drawn rest : List ℕ) (old new : Outside) (answer : Result (Option Report) TinkError) (result : Result (Unit {0}) Trouble)
    → FittingMeans task keyset aad drawn rest old new answer → OnOk answer (result ≡ Ok tt)
    → IfErr answer (λ e. IsErrAnd result (λ t. trouble_status t ≡ refusal_status e.kind))
    → ((old.left ≡ None → ⊥) → Rose old.read_faults new.read_faults → ⊥)
    → IfErr result (λ t. MayBreak None task keyset aad drawn old.left old.got new.got (trouble_status t))
may_break task keyset aad drawn rest old new (Ok report) (Ok done) means ok refused sure = tt
may_break task keyset aad drawn rest old new (Ok report) (Err t) means ok refused sure = absurd (cc)
may_break task keyset aad drawn rest old new (Err e) (Ok done) means ok refused sure = tt
may_break task keyset aad drawn rest old new (Err e) (Err t) (inl means) ok refused sure =
    inr (record { rest = rest; old = old; new = new; e = e; reads = refl; before = refl; after = refl; sure = sure; means = means; status_is = refused })
may_break task keyset aad drawn rest old new (Err e) (Err t) (inr long) ok refused sure = inl long.sink.got

-- nothing was written there
pub quiet : (output : List ℕ) (task : Task) (keyset aad drawn : List ℕ) (left got : Option (List ℕ)) (result : Result (Unit {0}) Trouble)
    → IfErr result (λ t. MayBreak (Some output) task keyset aad drawn left got got (trouble_status t))
quiet output task keyset aad drawn left got (Ok done) = tt
quiet output task keyset aad drawn left got (Err t) = refl

-- what is said of standard output, by something else
or_weaker : (output got got_after : Option (List ℕ)) (A B : Type 0) → (A → B) → StaysOr output got got_after A → StaysOr output got got_after B
or_weaker (Some name) got got_after A B f stays = stays
or_weaker None got got_after A B f (inl stays) = inl stays
or_weaker None got got_after A B f (inr broke) = inr (f broke)

pub spent : (takes : Bool) (old middle : SystemState) (drawn : List ℕ) → Spends takes old middle drawn → drawn ≡ drawn_by takes old
spent true old middle drawn spends = spends.0
spent false old middle drawn spends = spends.0

-- by random bytes that were taken before
pub unperformed : (output : Option (List ℕ)) (task : Task) (keyset aad drawn : List ℕ) (input : Option (List ℕ)) (old middle : SystemState) (got got_after : Option (List ℕ)) (result : Result (Unit {0}) Trouble)
    → KeepsFiles old middle → KeepsSystem old middle → (old.is_known ≡ true → Spends (takes_random task) old middle drawn)
    → IfErr result (λ t. MayBreak output task keyset aad drawn (option_map (text_for task) (known_content middle input)) got got_after (trouble_status t))
    → IfErr result (λ t. old.is_known ≡ true → IsUnperformed output task keyset aad input old got got_after (trouble_status t))
unperformed output task keyset aad drawn input old middle got got_after (Ok done) files system spends may = tt
unperformed output task keyset aad drawn input old middle got got_after (Err t) files system spends may = λ known.
    let read = ap (λ (l : Option (List ℕ)). option_map (text_for task) l)
    (ap (λ (b : Bool). known_bytes b (content middle input)) (system.known ∙ known) ∙ content_earlier old middle input files system) in
    or_weaker output got got_after (Breaks task keyset aad drawn (option_map (text_for task) (known_content middle input)) got got_after (trouble_status t))
    (BreaksOn task keyset aad input old got got_after (trouble_status t))
    (λ broke. subst (λ (l : Option (List ℕ)). Breaks task keyset aad (drawn_by (takes_random task) old) l got got_after (trouble_status t)) read
    (subst (λ (d : List ℕ). Breaks task keyset aad d (option_map (text_for task) (known_content middle input)) got got_after (trouble_status t))
    (spent (takes_random task) old middle drawn (spends known)) broke)) may

-- of the words of a command
pub unmade : (action : Action) (line : LineRead) (task : Task) (job : Job) (keyset : List ℕ) (old middle : SystemState) (got got_after : Option (List ℕ)) (result : Result (Unit {0}) Trouble)
    → own_task action ≡ Some task → IsJob line job → middle ≡ old → (old.is_known ≡ true → keyset_of old job.keys ≡ Ok keyset)
    → IfErr result (λ t. middle.is_known ≡ true → IsUnperformed (option_map (λ n. n.now) job.output) task keyset job.aad.now (option_map (λ n. n.now) job.input) middle got got_after (trouble_status t))
    → IfErr result (λ t. old.is_known ≡ true → IsUnmade action line old got got_after (trouble_status t))
unmade action line task job keyset old middle got got_after (Ok done) is_of is same loaded may = tt
unmade action line task job keyset old middle got got_after (Err t) is_of is same loaded may = λ known.
    let status = trouble_status t in
    let may_old = subst (λ (s : SystemState). s.is_known ≡ true
    → IsUnperformed (option_map (λ n. n.now) job.output) task keyset job.aad.now (option_map (λ n. n.now) job.input) s got got_after status) same may known in
    subst (λ (o : Option (List ℕ)). StaysOr o got got_after (BreaksLine action line old got got_after status)) is.output
    (or_weaker (option_map (λ n. n.now) job.output) got got_after (BreaksOn task keyset job.aad.now (option_map (λ n. n.now) job.input) old got got_after status)
    (BreaksLine action line old got got_after status) (λ broke. record {
      task = task;
      is_of = is_of;
      keyset = keyset;
      keys = record { file = is.file; given = is.given; words = job.keys; are = is.keys; loaded = loaded known };
      broke = rw (is.aad, is.input) at broke;
    }) may_old)
