-- When a command over a stream or a token succeeds.
use Rattle.std.proofs.Common.{◌≡◌, ◌⊎◌, ◌≤◌, inl, inr, ℕ, List, false, true, refl, sym, ◌∙◌, subst}
use Rattle.std.proofs.lemmas.Bool.{true≢false}
use Rattle.std.specs.Prelude.{Option, Some, None, Result, Ok, Err, IfErr}
use Rattle.tink_cli_words.specs.LineRead.{LineRead}
use Rattle.tink_cli_words.specs.declared.form.Action.{Action}
use Rattle.tink_cli_words.specs.declared.form.Action.TheVariants.{Decrypt}
use Rattle.tink_io.proofs.FaultLemmas.{Rose-earlier}
use Rattle.tink_io.specs.declared.error.Kind.{Kind}
use Rattle.tink_run.specs.declared.report.Command.TheVariants.{Open}
use Rattle.tink_cli_files.specs.declared.tasks.Task.{Task}
use Rattle.tink_cli_files.specs.declared.tasks.Task.TheVariants.{Run}
use Rattle.tink_system.specs.States.{SystemState, content}
use Rattle.tink_system.specs.Statuses.{trouble_status}
use Rattle.tink_system.specs.declared.trouble.Trouble.{Trouble}
use Rattle.tink_cli_jobs.specs.Jobs.{IsKeysetOf, IsKeyWords, data_of}
use Rattle.tink_cli_jobs.specs.Loading.{HasStatusOf, keyset_of, named}
use Rattle.tink_cli_jobs.specs.Protecting.{names_twice}
use Rattle.tink_cli_streams.specs.Breaking.{drawn_by}
use Rattle.tink_cli_streams.specs.Causes.{HasMakeCause, IsMakeable, IsOfMake, IsOfTask, IsUnkeyed, MayStop}
use Rattle.tink_cli_streams.specs.Fitting.{CanMake}
use Rattle.tink_cli_streams.specs.Performing.{takes_random, text_for}
use Rattle.tink_cli_streams.specs.Streams.{IsChecked, IsOpenable}
use Rattle.tink_cli_streams.proofs.CheckingLemmas.{same_file, same_value, same_words}
use Rattle.tink_cli_streams.proofs.OpenableLemmas.{checked_opens}
use Rattle.tink_cli_streams.proofs.StopLemmas.{ends_stop}

same_text : (o : Option (List ℕ)) (one other : List ℕ) → o ≡ Some one → o ≡ Some other → one ≡ other
same_text o one other is are = cc

not_there : (o : Option (List ℕ)) (text : List ℕ) → o ≡ Some text → o ≡ None → ⊥
not_there o text is none = absurd (cc)

-- a keyset that loads is not refused
keyed : (line : LineRead) (s : SystemState) (keyset : List ℕ) (status : ℕ) → IsKeysetOf line s line.keys keyset → IsUnkeyed line s line.keys status → ⊥
keyed line s keyset status keys un =
    let file : un.file ≡ keys.file = same_file line.keys un.file keys.file un.given keys.given in
    let words : keyset_of s un.words ≡ keyset_of s keys.words =
    same_words s line keys.file un.words keys.words (subst (λ (f : List ℕ). IsKeyWords line f un.words) file un.are) keys.are in
    refuses (keyset_of s un.words) (words ∙ keys.loaded) un.refused
  where
    refuses : (given : Result (List ℕ) Kind) → given ≡ Ok keyset → HasStatusOf given status → ⊥
    refuses (Ok v) loaded has = has
    refuses (Err kind) loaded has = absurd (cc)

-- it is one keyset
one_keyset : (line : LineRead) (s : SystemState) (one other : List ℕ) → IsKeysetOf line s line.keys one → IsKeysetOf line s line.keys other → one ≡ other
one_keyset line s one other keys are =
    let file : keys.file ≡ are.file = same_file line.keys keys.file are.file keys.given are.given in
    let words : keyset_of s keys.words ≡ keyset_of s are.words =
    same_words s line are.file keys.words are.words (subst (λ (f : List ℕ). IsKeyWords line f keys.words) file keys.are) are.are in
    same_value (keyset_of s are.words) one other (sym words ∙ keys.loaded) are.loaded

-- a task that can be done
task_done : (task : Task) (keyset aad drawn text : List ℕ) (s : SystemState) (input : Option (List ℕ)) (status : ℕ) → content s input ≡ Some text → CanMake task keyset aad drawn (text_for task text)
    → IsOfTask task keyset aad drawn s input status → (status ≡ 10) ⊎ (status ≡ 12)
task_done task keyset aad drawn text s input status read can (inl absent) = absurd (not_there (content s input) text read absent.1)
task_done task keyset aad drawn text s input status read can (inr of) =
    ends_stop task keyset aad drawn (text_for task of.text) status of.ends
    (subst (λ (x : List ℕ). CanMake task keyset aad drawn (text_for task x)) (same_text (content s input) text of.text read of.read) can)

or_rose : (before now status : ℕ) → (status ≡ 10) ⊎ (status ≡ 12) → MayStop before now status
or_rose before now status (inl want) = inl want
or_rose before now status (inr unwritten) = inr (inl unwritten)

of_make : (task : Task) (keyset text : List ℕ) (line : LineRead) (s : SystemState) (before now status : ℕ) → IsKeysetOf line s line.keys keyset → content s (named line.first) ≡ Some text
    → CanMake task keyset (data_of line.aad) (drawn_by (takes_random task) s) (text_for task text) → names_twice line ≡ false → IsOfMake (Some task) line s status
    → MayStop before now status
of_make task keyset text line s before now status keys read can once (inl (inl unspelled)) = absurd (not_there line.keys keys.file keys.given unspelled.1)
of_make task keyset text line s before now status keys read can once (inl (inr twice)) = absurd (true≢false (sym twice.1 ∙ once))
of_make task keyset text line s before now status keys read can once (inr (inl un)) = absurd (keyed line s keyset status keys un)
of_make task keyset text line s before now status keys read can once (inr (inr ends)) =
    or_rose before now status (task_done task ends.keyset (data_of line.aad) (drawn_by (takes_random task) s) text s (named line.first) status read
    (subst (λ (k : List ℕ). CanMake task k (data_of line.aad) (drawn_by (takes_random task) s) (text_for task text)) (one_keyset line s keyset ends.keyset keys ends.keys) can) ends.cause)

-- a command whose task can be done ends by no other error
pub made_stops : (action : Action) (line : LineRead) (s : SystemState) (before now status : ℕ) → HasMakeCause action line s before now status → IsMakeable action line s
    → names_twice line ≡ false → MayStop before now status
made_stops action line s before now status (inl want) can once = inl want
made_stops action line s before now status (inr (inl unwritten)) can once = inr (inl unwritten)
made_stops action line s before now status (inr (inr (inl rose))) can once = inr (inr rose)
made_stops action line s before now status (inr (inr (inr of))) can once =
    of_make can.task can.keyset can.text line s before now status can.keys can.read can.can once (subst (λ (o : Option Task). IsOfMake o line s status) can.is_of of)

pub made_succeeds : (action : Action) (line : LineRead) (s : SystemState) (before now : ℕ) (result : Result (Unit {0}) Trouble)
    → IfErr result (λ t. s.is_known ≡ true → HasMakeCause action line s before now (trouble_status t))
    → IfErr result (λ t. s.is_known ≡ true → IsMakeable action line s → names_twice line ≡ false → MayStop before now (trouble_status t))
made_succeeds action line s before now (Ok done) cause = tt
made_succeeds action line s before now (Err t) cause = λ known can once. made_stops action line s before now (trouble_status t) (cause known) can once

-- what can be opened can be decrypted
pub openable_makeable : (line : LineRead) (s : SystemState) → IsOpenable line s → IsMakeable Decrypt line s
openable_makeable line s is = record { task = Run Open; is_of = refl; keyset = is.keyset; keys = is.keys; text = is.text; read = is.read; can = (is.can, λ long. long) }

-- what was checked is decrypted
pub checked_decrypts : (line : LineRead) (s : SystemState) (before now status : ℕ) → IsChecked line s → HasMakeCause Decrypt line s before now status → MayStop before now status
checked_decrypts line s before now status checked cause =
    made_stops Decrypt line s before now status cause (openable_makeable line s (checked_opens line s checked)) checked.once

-- after a check
pub checked_then : (line : LineRead) (old middle : SystemState) (before then now : ℕ) (result : Result (Unit {0}) Trouble) → middle ≡ old → before ≤ then
    → (old.is_known ≡ true → IsChecked line old)
    → IfErr result (λ t. middle.is_known ≡ true → HasMakeCause Decrypt line middle then now (trouble_status t))
    → IfErr result (λ t. old.is_known ≡ true → MayStop before now (trouble_status t))
checked_then line old middle before then now (Ok done) same le checked cause = tt
checked_then line old middle before then now (Err t) same le checked cause = λ known.
    earlier (checked_decrypts line old then now (trouble_status t) (checked known)
    (subst (λ (s : SystemState). s.is_known ≡ true → HasMakeCause Decrypt line s then now (trouble_status t)) same cause known))
  where
    earlier : MayStop then now (trouble_status t) → MayStop before now (trouble_status t)
    earlier (inl want) = inl want
    earlier (inr (inl unwritten)) = inr (inl unwritten)
    earlier (inr (inr rose)) = inr (inr (Rose-earlier before then now le rose))
