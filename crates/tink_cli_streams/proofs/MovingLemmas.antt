-- What a command has done, by the words.
use Rattle.std.proofs.Common.{◌≡◌, ℕ, List, true, false, refl, sym, ◌∙◌, subst, ap}
use Rattle.std.specs.Prelude.{Option, Some, None, Result, Ok, Err, OnOk, option_map}
use Rattle.tink_cli_words.specs.LineRead.{LineRead}
use Rattle.tink_cli_words.specs.declared.form.Action.{Action}
use Rattle.tink_cli_files.specs.declared.tasks.Task.{Task}
use Rattle.tink_system.specs.States.{SystemState}
use Rattle.tink_system.specs.declared.trouble.Trouble.{Trouble}
use Rattle.tink_cli_jobs.specs.Jobs.{AreNewKeys, IsJob, IsKeyWords}
use Rattle.tink_cli_jobs.specs.Loading.{keyset_of}
use Rattle.tink_cli_jobs.specs.Protecting.{AreSparedBy, reads_twice}
use Rattle.tink_cli_jobs.proofs.ProtectingLemmas.{spared_by_words, twice_by_words}
use Rattle.tink_cli_streams.specs.Performing.{IsPerformed}
use Rattle.tink_cli_streams.specs.Streams.{IsMade, IsMoved, IsMovedFrom, own_task}
use Rattle.tink_cli_jobs.specs.declared.job.Job.{Job}
use Rattle.tink_cli_jobs.specs.declared.keys.KeyWords.{KeyWords}

abbrev or_else : KeyWords → Option KeyWords → KeyWords
or_else w None = w
or_else w (Some v) = v

-- the new file of keys that the words name
pub new_words : (line : LineRead) (to : Option (List ℕ)) (new : Option KeyWords) (words : KeyWords) → AreNewKeys line to new → new ≡ Some words
    → (file : List ℕ) × (to ≡ Some file) × IsKeyWords line file words
new_words line (Some file) (Some w) words are is = (file, refl, subst (λ (x : KeyWords). IsKeyWords line file x) (ap (or_else w) is) are)
new_words line (Some file) None words are is = absurd are
new_words line None (Some w) words are is = absurd are
new_words line None None words are is = absurd (cc)

-- a task of a command
pub made_by_words : (action : Action) (line : LineRead) (task : Task) (job : Job) (keyset : List ℕ) (old middle new : SystemState) (got got_after : Option (List ℕ)) (result : Result (Unit {0}) Trouble)
    → own_task action ≡ Some task → IsJob line job → middle ≡ old → (old.is_known ≡ true → keyset_of old job.keys ≡ Ok keyset) → (old.is_known ≡ true → AreSparedBy old job) → reads_twice job ≡ false
    → OnOk result (middle.is_known ≡ true → IsPerformed task keyset job.aad.now job.keeps_output (option_map (λ n. n.now) job.input) (option_map (λ n. n.now) job.output) middle new got got_after)
    → OnOk result (old.is_known ≡ true → IsMade action line old new got got_after)
made_by_words action line task job keyset old middle new got got_after (Ok done) is_of is same loaded spared once made = λ known.
    let performed : IsPerformed task keyset job.aad.now job.keeps_output (option_map (λ n. n.now) job.input) (option_map (λ n. n.now) job.output) old new got got_after =
    subst (λ (s : SystemState). s.is_known ≡ true
    → IsPerformed task keyset job.aad.now job.keeps_output (option_map (λ n. n.now) job.input) (option_map (λ n. n.now) job.output) s new got got_after) same made known in
    record {
      task = task;
      is_of = is_of;
      keyset = keyset;
      keys = record { file = is.file; given = is.given; words = job.keys; are = is.keys; loaded = loaded known };
      spared = spared_by_words line job old is (spared known);
      once = sym (twice_by_words line job is) ∙ once;
      done = rw (is.aad, is.keeps, is.input, is.output) at performed;
    }
made_by_words action line task job keyset old middle new got got_after (Err t) is_of is same loaded spared once made = tt

-- a move
pub moved_by_words : (line : LineRead) (job : Job) (keyset : List ℕ) (old middle new : SystemState) (got got_after : Option (List ℕ)) (result : Result (Unit {0}) Trouble)
    → IsJob line job → middle ≡ old → (old.is_known ≡ true → keyset_of old job.keys ≡ Ok keyset) → (old.is_known ≡ true → AreSparedBy old job) → reads_twice job ≡ false
    → OnOk result (middle.is_known ≡ true → IsMovedFrom keyset job middle new got got_after)
    → OnOk result (old.is_known ≡ true → IsMoved line old new got got_after)
moved_by_words line job keyset old middle new got got_after (Ok done) is same loaded spared once made = λ known.
    let moved = subst (λ (s : SystemState). s.is_known ≡ true → IsMovedFrom keyset job s new got got_after) same made known in
    let words = new_words line line.to job.new_keys moved.words is.new_keys moved.given in
    record {
      keyset = keyset;
      keys = record { file = is.file; given = is.given; words = job.keys; are = is.keys; loaded = loaded known };
      new_keyset = moved.new_keyset;
      new_keys = record { file = words.0; given = words.1; words = moved.words; are = words.2; loaded = moved.loaded };
      spared = spared_by_words line job old is (spared known);
      once = sym (twice_by_words line job is) ∙ once;
      task = moved.moved.task;
      is_to = rw is.new_aad at moved.moved.is_to;
      done = rw (is.aad, is.keeps, is.input, is.output) at moved.moved.done;
    }
moved_by_words line job keyset old middle new got got_after (Err t) is same loaded spared once made = tt
