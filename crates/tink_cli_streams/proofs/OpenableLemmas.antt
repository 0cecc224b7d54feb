-- What is checked or decrypted can be opened.
use Rattle.std.proofs.Common.{◌≡◌, ℕ, List, [], subst}
use Rattle.std.specs.Prelude.{Option, Some, None}
use Rattle.tink_io.specs.Outside.{Outside}
use Rattle.tink_run.specs.Run.{CanOpen}
use Rattle.tink_run.specs.declared.report.Report.{Report}
use Rattle.tink_cli_words.specs.LineRead.{LineRead}
use Rattle.tink_system.specs.States.{SystemState}
use Rattle.tink_cli_jobs.specs.Jobs.{data_of}
use Rattle.tink_cli_jobs.specs.Loading.{named}
use Rattle.tink_cli_words.specs.declared.form.Action.TheVariants as actions
use Rattle.tink_cli_jobs.specs.Outputs.{IsPut}
use Rattle.tink_cli_files.specs.Tasks.{IsDone}
use Rattle.tink_cli_files.specs.declared.tasks.Task.{Task}
use Rattle.tink_cli_files.specs.declared.tasks.Task.TheVariants.{Run}
use Rattle.tink_run.specs.declared.report.Command.TheVariants.{Open}
use Rattle.tink_cli_streams.specs.Performing.{Makes, text_for}
use Rattle.tink_cli_streams.specs.Streams.{IsChecked, IsMade, IsOpenable, TellsOut}

-- what is opened whole is a stream of the chosen key
by_report : (keyset aad left text : List ℕ) (ends : Outside) (report : Option Report) → IsDone (Run Open) keyset aad [] left text [] ends report → CanOpen keyset aad text
by_report keyset aad left text ends (Some report) done =
    record { loaded = done.loaded; loads = done.loads; key = done.key; chosen = done.chosen; texts = done.texts; stream = done.stream }
by_report keyset aad left text ends None done = absurd done

-- what is checked is a stream
pub checked_opens : (line : LineRead) (s : SystemState) → IsChecked line s → IsOpenable line s
checked_opens line s is = record {
  keyset = is.keyset;
  keys = is.keys;
  text = is.text;
  read = is.read;
  can = by_report is.keyset (data_of line.aad) is.opened.left is.text is.opened.ends is.opened.report is.opened.done;
}

-- what a decryption puts out is the text of a stream
made_opens : (line : LineRead) (s : SystemState) (task : Task) (keyset text drawn before : List ℕ) (after : Option (List ℕ)) → Some (Run Open) ≡ Some task
    → Makes task keyset (data_of line.aad) drawn (text_for task text) before after → CanOpen keyset (data_of line.aad) text
made_opens line s task keyset text drawn before after is makes =
    let same : task ≡ Run Open = task_of task is in
    by_draws keyset (data_of line.aad) drawn (subst (λ (k : Task). Makes k keyset (data_of line.aad) drawn (text_for k text) before after) same makes)
  where
    task_of : (task : Task) → Some (Run Open) ≡ Some task → task ≡ Run Open
    task_of task is = cc

    of_report : (keyset aad drawn left text before : List ℕ) (ends : Outside) (report : Option Report) → IsDone (Run Open) keyset aad drawn left text before ends report → CanOpen keyset aad text
    of_report keyset aad drawn left text before ends (Some report) done =
        record { loaded = done.loaded; loads = done.loads; key = done.key; chosen = done.chosen; texts = done.texts; stream = done.stream }
    of_report keyset aad drawn left text before ends None done = absurd done

    by_draws : (keyset aad drawn : List ℕ) → Makes (Run Open) keyset aad drawn (text_for (Run Open) text) before after → CanOpen keyset aad text
    by_draws keyset aad drawn made = of_report keyset aad drawn made.left text before made.ends made.report made.done

put_opens : (line : LineRead) (s new : SystemState) (task : Task) (keyset text drawn : List ℕ) (output got after : Option (List ℕ)) → Some (Run Open) ≡ Some task → TellsOut s output got
    → IsPut (λ had now. Makes task keyset (data_of line.aad) drawn (text_for task text) had now) line.no_clobber s new output got after
    → CanOpen keyset (data_of line.aad) text
put_opens line s new task keyset text drawn None got after is tells put = made_opens line s task keyset text drawn tells.0 after is (put.0 tells.0 tells.1)
put_opens line s new task keyset text drawn (Some name) got after is tells put = made_opens line s task keyset text drawn [] (new.file name) is (put.0.made tells)

pub decrypted_opens : (line : LineRead) (s new : SystemState) (got after : Option (List ℕ)) → TellsOut s (named line.output) got
    → IsMade actions.Decrypt line s new got after → IsOpenable line s
decrypted_opens line s new got after tells made = record {
  keyset = made.keyset;
  keys = made.keys;
  text = made.done.text;
  read = made.done.read;
  can = put_opens line s new made.task made.keyset made.done.text made.done.drawn (named line.output) got after made.is_of tells made.done.put;
}
