-- Why a command over a stream or a token ended by an error, by its words.
use Rattle.std.proofs.Common.{◌≡◌, ◌⊎◌, ◌≤◌, arith, inl, inr, ℕ, List, true, refl, sym, ◌∙◌, subst}
use Rattle.std.specs.Prelude.{Option, Some, None, Result, Ok, Err, IfErr, option_map}
use Rattle.tink_cli_words.specs.LineRead.{LineRead}
use Rattle.tink_cli_words.specs.declared.form.Action.{Action}
use Rattle.tink_io.proofs.FaultLemmas.{Rose-earlier}
use Rattle.tink_io.specs.Faults.{Rose}
use Rattle.tink_cli_files.specs.declared.tasks.Task.{Task}
use Rattle.tink_system.specs.States.{SystemState}
use Rattle.tink_system.specs.Statuses.{trouble_status}
use Rattle.tink_system.specs.declared.trouble.Trouble.{Trouble}
use Rattle.tink_cli_jobs.specs.Jobs.{AreNewKeys, IsJob, IsKeysetOf, data_of}
use Rattle.tink_cli_jobs.specs.Loading.{Fails, RefusesBy, keyset_of}
use Rattle.tink_cli_jobs.specs.Protecting.{IsNotFor}
use Rattle.tink_cli_jobs.specs.declared.job.Job.{Job}
use Rattle.tink_cli_jobs.specs.declared.keys.KeyWords.{KeyWords}
use Rattle.tink_cli_jobs.proofs.ProtectingLemmas.{twice_by_words}
use Rattle.tink_cli_streams.specs.Breaking.{drawn_by}
use Rattle.tink_cli_streams.specs.Causes.{EndsLine, HasMakeCause, HasMoveCause, HasTaskCause, IsOfMake, IsOfTask, IsOfWords, IsUnkeyed}
use Rattle.tink_cli_streams.specs.Performing.{takes_random}
use Rattle.tink_cli_streams.specs.Streams.{IsMoveTo, own_task}
use Rattle.tink_cli_streams.proofs.MovingLemmas.{new_words}

-- ---- a job without a keyset

abbrev HasNone : LineRead → SystemState → ℕ → ℕ → ℕ → Type 0
HasNone line s before now status = (status ≡ 10) ⊎ (status ≡ 12) ⊎ Rose before now ⊎ IsOfWords line status ⊎ IsUnkeyed line s line.keys status

not_loaded : (line : LineRead) (job : Job) (s : SystemState) (before now : ℕ) (t : Trouble) → IsJob line job → Fails s before now (keyset_of s job.keys) t → s.is_known ≡ true
    → HasNone line s before now (trouble_status t)
not_loaded line job s before now t is (inl rose) known = inr (inr (inl rose))
not_loaded line job s before now t is (inr by) known = why (by known)
  where
    why : RefusesBy (keyset_of s job.keys) t → HasNone line s before now (trouble_status t)
    why (inl want) = inl want
    why (inr status) = inr (inr (inr (inr (record { file = is.file; given = is.given; words = job.keys; are = is.keys; refused = status }))))

not_for : (line : LineRead) (job : Job) (s : SystemState) (before now : ℕ) (t : Trouble) → IsJob line job → IsNotFor s job before now t → s.is_known ≡ true
    → HasNone line s before now (trouble_status t)
not_for line job s before now t is (inl twice) known = inr (inr (inr (inl (inr (twice.0, sym (twice_by_words line job is) ∙ twice.1)))))
not_for line job s before now t is (inr (inl spared)) known = inr (inl spared.0)
not_for line job s before now t is (inr (inr fails)) known = not_loaded line job s before now t is fails known

-- ---- a command with a task

of_none : (task : Task) (line : LineRead) (s : SystemState) (before now status : ℕ) → HasNone line s before now status
    → (status ≡ 10) ⊎ (status ≡ 12) ⊎ Rose before now ⊎ IsOfMake (Some task) line s status
of_none task line s before now status (inl want) = inl want
of_none task line s before now status (inr (inl unwritten)) = inr (inl unwritten)
of_none task line s before now status (inr (inr (inl rose))) = inr (inr (inl rose))
of_none task line s before now status (inr (inr (inr (inl words)))) = inr (inr (inr (inl words)))
of_none task line s before now status (inr (inr (inr (inr keys)))) = inr (inr (inr (inr (inl keys))))

by_task : (action : Action) (task : Task) (line : LineRead) (s : SystemState) (before now status : ℕ) → own_task action ≡ Some task
    → (status ≡ 10) ⊎ (status ≡ 12) ⊎ Rose before now ⊎ IsOfMake (Some task) line s status → HasMakeCause action line s before now status
by_task action task line s before now status is_of why =
    subst (λ (o : Option Task). (status ≡ 10) ⊎ (status ≡ 12) ⊎ Rose before now ⊎ IsOfMake o line s status) (sym is_of) why

-- words that spell no command
pub make_unspelled : (action : Action) (line : LineRead) (s : SystemState) (before now status : ℕ) (own : Option Task) → own_task action ≡ own → (own ≡ None) ⊎ (line.keys ≡ None) → status ≡ 2
    → HasMakeCause action line s before now status
make_unspelled action line s before now status None is_of none is =
    subst (λ (o : Option Task). (status ≡ 10) ⊎ (status ≡ 12) ⊎ Rose before now ⊎ IsOfMake o line s status) (sym is_of) (inr (inr (inr is)))
make_unspelled action line s before now status (Some task) is_of (inl none) is = absurd (cc)
make_unspelled action line s before now status (Some task) is_of (inr none) is = by_task action task line s before now status is_of (inr (inr (inr (inl (inl (is, none))))))

-- a keyset that is not there
pub make_unready : (action : Action) (task : Task) (line : LineRead) (job : Job) (old s : SystemState) (before then now : ℕ) (t : Trouble) → own_task action ≡ Some task → IsJob line job
    → s ≡ old → then ≡ before → IsNotFor s job then now t → old.is_known ≡ true → HasMakeCause action line old before now (trouble_status t)
make_unready action task line job old s before then now t is_of is same still not known =
    by_task action task line old before now (trouble_status t) is_of
    (of_none task line old before now (trouble_status t) (not_for line job old before now t is
    (subst (λ (n : ℕ). IsNotFor old job n now t) still (subst (λ (x : SystemState). IsNotFor x job then now t) same not)) known))

-- a task that was not done, by the words
line_cause : (task : Task) (line : LineRead) (job : Job) (keyset : List ℕ) (s : SystemState) (before then now status : ℕ) → IsJob line job → IsKeysetOf line s line.keys keyset → before ≤ then
    → HasTaskCause task keyset job.aad.now (drawn_by (takes_random task) s) s (option_map (λ n. n.now) job.input) then now status
    → (status ≡ 10) ⊎ (status ≡ 12) ⊎ Rose before now ⊎ EndsLine task line s status
line_cause task line job keyset s before then now status is keys le (inl want) = inl want
line_cause task line job keyset s before then now status is keys le (inr (inl unwritten)) = inr (inl unwritten)
line_cause task line job keyset s before then now status is keys le (inr (inr (inl rose))) = inr (inr (inl (Rose-earlier before then now le rose)))
line_cause task line job keyset s before then now status is keys le (inr (inr (inr of))) = inr (inr (inr (record {
  keyset = keyset;
  keys = keys;
  cause = subst (λ (input : Option (List ℕ)). IsOfTask task keyset (data_of line.aad) (drawn_by (takes_random task) s) s input status) is.input
      (subst (λ (aad : List ℕ). IsOfTask task keyset aad (drawn_by (takes_random task) s) s (option_map (λ n. n.now) job.input) status) is.aad of);
})))

with_line : (task : Task) (line : LineRead) (s : SystemState) (before now status : ℕ) → (status ≡ 10) ⊎ (status ≡ 12) ⊎ Rose before now ⊎ EndsLine task line s status
    → (status ≡ 10) ⊎ (status ≡ 12) ⊎ Rose before now ⊎ IsOfMake (Some task) line s status
with_line task line s before now status (inl want) = inl want
with_line task line s before now status (inr (inl unwritten)) = inr (inl unwritten)
with_line task line s before now status (inr (inr (inl rose))) = inr (inr (inl rose))
with_line task line s before now status (inr (inr (inr ends))) = inr (inr (inr (inr (inr ends))))

pub make_cause : (action : Action) (task : Task) (line : LineRead) (job : Job) (keyset : List ℕ) (old middle : SystemState) (before then now : ℕ) (result : Result (Unit {0}) Trouble)
    → own_task action ≡ Some task → IsJob line job → middle ≡ old → before ≤ then → (old.is_known ≡ true → keyset_of old job.keys ≡ Ok keyset)
    → IfErr result (λ t. middle.is_known ≡ true
    → HasTaskCause task keyset job.aad.now (drawn_by (takes_random task) middle) middle (option_map (λ n. n.now) job.input) then now (trouble_status t))
    → IfErr result (λ t. old.is_known ≡ true → HasMakeCause action line old before now (trouble_status t))
make_cause action task line job keyset old middle before then now (Ok done) is_of is same le loaded cause = tt
make_cause action task line job keyset old middle before then now (Err t) is_of is same le loaded cause = λ known.
    by_task action task line old before now (trouble_status t) is_of (with_line task line old before now (trouble_status t)
    (line_cause task line job keyset old before then now (trouble_status t) is (record { file = is.file; given = is.given; words = job.keys; are = is.keys; loaded = loaded known }) le
    (subst (λ (s : SystemState). s.is_known ≡ true
    → HasTaskCause task keyset job.aad.now (drawn_by (takes_random task) s) s (option_map (λ n. n.now) job.input) then now (trouble_status t)) same cause known)))

-- ---- a move

-- words without a keyset
pub move_unready : (line : LineRead) (job : Job) (s : SystemState) (before now : ℕ) (t : Trouble) → IsJob line job → IsNotFor s job before now t → s.is_known ≡ true
    → HasMoveCause line s before now (trouble_status t)
move_unready line job s before now t is not known = by (not_for line job s before now t is not known)
  where
    by : HasNone line s before now (trouble_status t) → HasMoveCause line s before now (trouble_status t)
    by (inl want) = inl want
    by (inr (inl unwritten)) = inr (inl unwritten)
    by (inr (inr (inl rose))) = inr (inr (inl rose))
    by (inr (inr (inr (inl words)))) = inr (inr (inr (inr (inl words))))
    by (inr (inr (inr (inr keys)))) = inr (inr (inr (inr (inr (inl keys)))))

-- a second keyset that is not loaded
pub move_unloaded : (line : LineRead) (job : Job) (words : KeyWords) (s : SystemState) (before now : ℕ) (t : Trouble) → IsJob line job → job.new_keys ≡ Some words
    → Fails s before now (keyset_of s words) t → s.is_known ≡ true → HasMoveCause line s before now (trouble_status t)
move_unloaded line job words s before now t is given (inl rose) known = inr (inr (inl rose))
move_unloaded line job words s before now t is given (inr by) known = why (by known)
  where
    why : RefusesBy (keyset_of s words) t → HasMoveCause line s before now (trouble_status t)
    why (inl want) = inl want
    why (inr status) =
        let new = new_words line line.to job.new_keys words is.new_keys given in
        inr (inr (inr (inr (inr (inr (inl (record { file = new.0; given = new.1; words = words; are = new.2; refused = status })))))))

-- no second keyset is named
pub move_unnamed : (line : LineRead) (job : Job) (s : SystemState) (before now status : ℕ) → IsJob line job → job.new_keys ≡ None → status ≡ 2 → HasMoveCause line s before now status
move_unnamed line job s before now status is none two = inr (inr (inr (inl (two, unnamed line.to job.new_keys is.new_keys none))))
  where
    unnamed : (to : Option (List ℕ)) (new : Option KeyWords) → AreNewKeys line to new → new ≡ None → to ≡ None
    unnamed (Some file) (Some words) are is = absurd (cc)
    unnamed (Some file) None are is = absurd are
    unnamed None new are is = refl

-- from and to keysets that are loaded
move_of_task : (line : LineRead) (job : Job) (task : Task) (keyset to : List ℕ) (s : SystemState) (before now status : ℕ)
    → IsJob line job → IsKeysetOf line s line.keys keyset → IsKeysetOf line s line.to to → IsMoveTo to job.new_aad.now task
    → HasTaskCause task keyset job.aad.now (drawn_by (takes_random task) s) s (option_map (λ n. n.now) job.input) before now status
    → HasMoveCause line s before now status
move_of_task line job task keyset to s before now status is keys new_keys is_to cause =
    by (line_cause task line job keyset s before before now status is keys (omega arith) cause)
  where
    by : (status ≡ 10) ⊎ (status ≡ 12) ⊎ Rose before now ⊎ EndsLine task line s status → HasMoveCause line s before now status
    by (inl want) = inl want
    by (inr (inl unwritten)) = inr (inl unwritten)
    by (inr (inr (inl rose))) = inr (inr (inl rose))
    by (inr (inr (inr ends))) = inr (inr (inr (inr (inr (inr (inr (record {
      new_keyset = to;
      new_keys = new_keys;
      task = task;
      is_to = subst (λ (aad : List ℕ). IsMoveTo to aad task) is.new_aad is_to;
      ends = ends;
    })))))))

pub move_cause : (line : LineRead) (job : Job) (task : Task) (keyset to : List ℕ) (old middle : SystemState) (before then now : ℕ) (t given : Trouble)
    → middle ≡ old → then ≡ before → trouble_status given ≡ trouble_status t → IsMoveTo to job.new_aad.now task
    → (middle.is_known ≡ true → HasTaskCause task keyset job.aad.now (drawn_by (takes_random task) middle) middle (option_map (λ n. n.now) job.input) then now (trouble_status t))
    → old.is_known ≡ true → IsJob line job → IsKeysetOf line old line.keys keyset → IsKeysetOf line old line.to to → HasMoveCause line old before now (trouble_status given)
move_cause line job task keyset to old middle before then now t given same still status is_to cause known is keys new_keys =
    subst (λ (n : ℕ). HasMoveCause line old before now n) (sym status) (move_of_task line job task keyset to old before now (trouble_status t) is keys new_keys is_to
    (subst (λ (n : ℕ). HasTaskCause task keyset job.aad.now (drawn_by (takes_random task) old) old (option_map (λ n. n.now) job.input) n now (trouble_status t)) still
    (subst (λ (s : SystemState). s.is_known ≡ true
    → HasTaskCause task keyset job.aad.now (drawn_by (takes_random task) s) s (option_map (λ n. n.now) job.input) then now (trouble_status t)) same cause known)))

-- after calls that changed nothing
move_later : (line : LineRead) (s : SystemState) (before then now status : ℕ) → before ≤ then → HasMoveCause line s then now status → HasMoveCause line s before now status
move_later line s before then now status le (inl want) = inl want
move_later line s before then now status le (inr (inl unwritten)) = inr (inl unwritten)
move_later line s before then now status le (inr (inr (inl rose))) = inr (inr (inl (Rose-earlier before then now le rose)))
move_later line s before then now status le (inr (inr (inr of))) = inr (inr (inr of))

-- behind the second keyset
pub move_to_cause : (job : Job) (words : KeyWords) (keyset to : List ℕ) (old middle : SystemState) (before then now : ℕ) (result : Result (Unit {0}) Trouble)
    → job.new_keys ≡ Some words → middle ≡ old → before ≤ then → (old.is_known ≡ true → keyset_of old words ≡ Ok to)
    → IfErr result (λ t. middle.is_known ≡ true → (line : LineRead) → IsJob line job → IsKeysetOf line middle line.keys keyset → IsKeysetOf line middle line.to to
    → HasMoveCause line middle then now (trouble_status t))
    → IfErr result (λ t. old.is_known ≡ true → (line : LineRead) → IsJob line job → IsKeysetOf line old line.keys keyset → HasMoveCause line old before now (trouble_status t))
move_to_cause job words keyset to old middle before then now (Ok done) given same le loaded cause = tt
move_to_cause job words keyset to old middle before then now (Err t) given same le loaded cause = λ known line is keys.
    let new = new_words line line.to job.new_keys words is.new_keys given in
    let new_keys : IsKeysetOf line old line.to to = record { file = new.0; given = new.1; words = words; are = new.2; loaded = loaded known } in
    move_later line old before then now (trouble_status t) le
    (subst (λ (s : SystemState). s.is_known ≡ true → (l : LineRead) → IsJob l job → IsKeysetOf l s l.keys keyset → IsKeysetOf l s l.to to
    → HasMoveCause l s then now (trouble_status t)) same cause known line is keys new_keys)

-- behind the first one
pub move_from_cause : (line : LineRead) (job : Job) (keyset : List ℕ) (old middle : SystemState) (before then now : ℕ) (result : Result (Unit {0}) Trouble)
    → IsJob line job → middle ≡ old → before ≤ then → (old.is_known ≡ true → keyset_of old job.keys ≡ Ok keyset)
    → IfErr result (λ t. middle.is_known ≡ true → (line : LineRead) → IsJob line job → IsKeysetOf line middle line.keys keyset → HasMoveCause line middle then now (trouble_status t))
    → IfErr result (λ t. old.is_known ≡ true → HasMoveCause line old before now (trouble_status t))
move_from_cause line job keyset old middle before then now (Ok done) is same le loaded cause = tt
move_from_cause line job keyset old middle before then now (Err t) is same le loaded cause = λ known.
    let keys : IsKeysetOf line old line.keys keyset = record { file = is.file; given = is.given; words = job.keys; are = is.keys; loaded = loaded known } in
    move_later line old before then now (trouble_status t) le
    (subst (λ (s : SystemState). s.is_known ≡ true → (l : LineRead) → IsJob l job → IsKeysetOf l s l.keys keyset → HasMoveCause l s then now (trouble_status t)) same cause known line is keys)
