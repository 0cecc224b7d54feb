-- What a task made, where it was put.
use Rattle.std.proofs.Common.{◌≡◌, ℕ, List, [], Bool, true, false, refl, sym, ◌∙◌, subst, ap}
use Rattle.std.specs.Prelude.{Option, Some, None, Result, Ok, Err, IfErr, IfOk, IfSome, IsErrAnd, IsSome, OnOk, option_map}
use Rattle.tink_io.specs.Outside.{Outside, AreKnown}
use Rattle.tink_io.specs.declared.error.TinkError.{TinkError}
use Rattle.tink_run.specs.declared.report.Command.TheVariants.{Open, Seal}
use Rattle.tink_run.specs.declared.report.Report.{Report}
use Rattle.tink_cli_files.specs.Streams.{IsShownWhole}
use Rattle.tink_cli_files.specs.Tasks.{IsDone}
use Rattle.tink_cli_files.specs.declared.tasks.Task.{Task}
use Rattle.tink_cli_files.specs.declared.tasks.Task.TheVariants.{Rewrap, Run, Sign, Verify}
use Rattle.tink_system.specs.States.{KeepsSystem, SystemState, content, known_bytes, known_content}
use Rattle.tink_system.specs.declared.trouble.Trouble.{Trouble}
use Rattle.tink_cli_jobs.specs.Outputs.{IsPut, KeepsFiles}
use Rattle.tink_cli_jobs.proofs.OutputLemmas.{put_earlier, some_of}
use Rattle.tink_cli_streams.specs.Fitting.{IsDoneFitting}
use Rattle.tink_cli_streams.specs.Performing.{IsPerformed, Makes, Spends, takes_random, text_for}
use Rattle.tink_cli_streams.specs.Streams.{IsOpened}

-- what a sink has got that has got all of a task is known
got_all : (task : Task) (keyset aad drawn left text before : List ℕ) (ends : Outside) (report : Option Report)
    → IsDone task keyset aad drawn left text before ends report → (bytes : List ℕ) × (ends.got ≡ Some bytes)
got_all (Run Seal) keyset aad drawn left text before ends (Some report) done = (_, done.written)
got_all (Run Open) keyset aad drawn left text before ends (Some report) done = (_, done.written)
got_all (Run Seal) keyset aad drawn left text before ends None done = absurd done
got_all (Run Open) keyset aad drawn left text before ends None done = absurd done
got_all (Rewrap to to_aad) keyset aad drawn left text before ends (Some report) done = (_, done.written)
got_all (Rewrap to to_aad) keyset aad drawn left text before ends None done = absurd done
got_all Sign keyset aad drawn left text before ends None done = (_, done.written)
got_all Sign keyset aad drawn left text before ends (Some report) done = absurd done
got_all Verify keyset aad drawn left text before ends None done = (_, done.written)
got_all Verify keyset aad drawn left text before ends (Some report) done = absurd done

-- written to a sink
pub made_written : (task : Task) (keyset aad drawn left : List ℕ) (old new : Outside) (answer : Result (Option Report) TinkError) (P : TinkError → Trouble → Type 0)
    (result : Result (Unit {0}) Trouble)
    → IfOk answer (λ report. (T G : List ℕ) → AreKnown old T G → IsDoneFitting task keyset aad drawn left T G new report)
    → IfErr answer (λ e. IsErrAnd result (P e))
    → OnOk result ((text before : List ℕ) → old.left ≡ Some text → old.got ≡ Some before → Makes task keyset aad drawn text before new.got)
made_written task keyset aad drawn left old new (Ok report) P (Ok done) ok refused = λ text before reads got. record {
  left = left;
  report = report;
  ends = new;
  done = (ok text before (record { left = reads; got = got })).0;
  fits = (ok text before (record { left = reads; got = got })).1;
  got = refl;
}
made_written task keyset aad drawn left old new (Ok report) P (Err t) ok refused = tt
made_written task keyset aad drawn left old new (Err e) P (Ok done) ok refused = absurd refused
made_written task keyset aad drawn left old new (Err e) P (Err t) ok refused = tt

-- shown under a name
pub made_shown : {D : Type 0} (got : D → Option (List ℕ)) (task : Task) (keyset aad drawn left : List ℕ) (old : Outside) (after : D → Outside)
    (replaces : Bool) (before_shown shown : Option (Option (List ℕ))) (file : Option (List ℕ))
    (answer : Result (Option Report) TinkError) (P : TinkError → Trouble → Type 0) (result : Result (Unit {0}) Trouble)
    → ((d : D) → (after d).got ≡ got d)
    → IfOk answer (λ report. IsShownWhole got (λ d value. (T G : List ℕ) → AreKnown old T G → IsDoneFitting task keyset aad drawn left T G (after d) value) replaces before_shown shown report)
    → IfErr answer (λ e. IsErrAnd result (P e))
    → ((f : Option (List ℕ)) → shown ≡ Some f → file ≡ f)
    → OnOk result ((text before : List ℕ) → old.left ≡ Some text → old.got ≡ Some before → Makes task keyset aad drawn text before file)
made_shown got task keyset aad drawn left old after replaces before_shown shown file (Ok report) P (Ok done) same ok refused settled = λ text before reads has.
    let all = ok.whole text before (record { left = reads; got = has }) in
    let known = got_all task keyset aad drawn left text before (after ok.draft) report all.0 in
    let whole : shown ≡ Some (Some known.0) =
    subst (λ (g : Option (List ℕ)). IfSome g (λ bytes. shown ≡ Some (Some bytes))) (sym (same ok.draft) ∙ known.1) ok.shown.whole in
    record {
      left = left;
      report = report;
      ends = after ok.draft;
      done = all.0;
      fits = all.1;
      got = settled (Some known.0) whole ∙ sym known.1;
    }
made_shown got task keyset aad drawn left old after replaces before_shown shown file (Ok report) P (Err t) same ok refused settled = tt
made_shown got task keyset aad drawn left old after replaces before_shown shown file (Err e) P (Ok done) same ok refused settled = absurd refused
made_shown got task keyset aad drawn left old after replaces before_shown shown file (Err e) P (Err t) same ok refused settled = tt

spends_later : (takes : Bool) (old middle new : SystemState) (drawn : List ℕ) → new.random ≡ middle.random → Spends takes old middle drawn → Spends takes old new drawn
spends_later true old middle new drawn same spends = (spends.0, same ∙ spends.1)
spends_later false old middle new drawn same spends = (spends.0, same ∙ spends.1)

pub content_earlier : (old middle : SystemState) (input : Option (List ℕ)) → KeepsFiles old middle → KeepsSystem old middle → content middle input ≡ content old input
content_earlier old middle (Some name) files system = files name
content_earlier old middle None files system = ap (λ (bytes : List ℕ). Some bytes) system.input

pub known_given : (s : SystemState) (input : Option (List ℕ)) (text : List ℕ) → s.is_known ≡ true → known_content s input ≡ Some text → content s input ≡ Some text
known_given s input text known is = rw known at is

-- of an input that was opened
pub performed_on : (task : Task) (keyset aad drawn : List ℕ) (keeps : Bool) (input output : Option (List ℕ)) (old middle new : SystemState) (left got got_after : Option (List ℕ))
    (result : Result (Unit {0}) Trouble) → middle ≡ old → left ≡ option_map (text_for task) (known_content old input) → (old.is_known ≡ true → IsSome (content old input))
    → OnOk result (middle.is_known ≡ true → (text : List ℕ) → left ≡ Some text
    → IsPut (λ before after. Makes task keyset aad drawn text before after) keeps middle new output got got_after)
    → OnOk result (old.is_known ≡ true → (text : List ℕ) × (known_content old input ≡ Some text)
    × IsPut (λ before after. Makes task keyset aad drawn (text_for task text) before after) keeps old new output got got_after)
performed_on task keyset aad drawn keeps input output old middle new left got got_after (Ok done) same given there made = λ known.
    let found = some_of (content old input) (there known) in
    let read : known_content old input ≡ Some found.0 = ap (λ (b : Bool). known_bytes b (content old input)) known ∙ found.1 in
    let put = subst (λ (s : SystemState). s.is_known ≡ true → (text : List ℕ) → left ≡ Some text
    → IsPut (λ before after. Makes task keyset aad drawn text before after) keeps s new output got got_after) same made known (text_for task found.0) (given ∙ ap (λ (l : Option (List ℕ)). option_map (text_for task) l) read) in
    (found.0, read, put)
performed_on task keyset aad drawn keeps input output old middle new left got got_after (Err t) same given there made = tt

-- a task was done by random bytes that were taken before
pub performed : (task : Task) (keyset aad drawn : List ℕ) (keeps : Bool) (input output : Option (List ℕ)) (old middle new : SystemState) (got got_after : Option (List ℕ))
    (result : Result (Unit {0}) Trouble)
    → KeepsFiles old middle → KeepsSystem old middle → (old.is_known ≡ true → Spends (takes_random task) old middle drawn) → new.random ≡ middle.random
    → OnOk result (middle.is_known ≡ true → (text : List ℕ) × (known_content middle input ≡ Some text)
    × IsPut (λ before after. Makes task keyset aad drawn (text_for task text) before after) keeps middle new output got got_after)
    → OnOk result (old.is_known ≡ true → IsPerformed task keyset aad keeps input output old new got got_after)
performed task keyset aad drawn keeps input output old middle new got got_after (Ok done) files system spends same put = λ known.
    let known_then = system.known ∙ known in
    let made = put known_then in
    record {
      text = made.0;
      read = sym (content_earlier old middle input files system) ∙ known_given middle input made.0 known_then made.1;
      drawn = drawn;
      draws = spends_later (takes_random task) old middle new drawn same (spends known);
      put = put_earlier (λ before after. Makes task keyset aad drawn (text_for task made.0) before after) keeps old middle new output got got_after files system made.2;
    }
performed task keyset aad drawn keeps input output old middle new got got_after (Err t) files system spends same put = tt

-- all of an input was opened
pub opened_whole : (keyset aad drawn left : List ℕ) (old new : Outside) (answer : Result (Option Report) TinkError) (P : TinkError → Trouble → Type 0)
    (result : Result (Unit {0}) Trouble) → old.got ≡ Some []
    → IfOk answer (λ report. (T G : List ℕ) → AreKnown old T G → IsDone (Run Open) keyset aad drawn left T G new report) → IfErr answer (λ e. IsErrAnd result (P e))
    → OnOk result ((text : List ℕ) → old.left ≡ Some text → IsOpened keyset aad text)
opened_whole keyset aad drawn left old new (Ok (Some report)) P (Ok done) none ok refused = λ text reads.
    record { left = left; report = Some report; ends = new; done = ok text [] (record { left = reads; got = none }) }
opened_whole keyset aad drawn left old new (Ok None) P (Ok done) none ok refused = λ text reads. absurd (ok text [] (record { left = reads; got = none }))
opened_whole keyset aad drawn left old new (Ok report) P (Err t) none ok refused = tt
opened_whole keyset aad drawn left old new (Err e) P (Ok done) none ok refused = absurd refused
opened_whole keyset aad drawn left old new (Err e) P (Err t) none ok refused = tt
