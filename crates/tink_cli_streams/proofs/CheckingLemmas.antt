-- When a whole stream is opened.
use Rattle.std.proofs.Common.{◌≡◌, ◌≤◌, Bool, inl, inr, ℕ, List, [], true, false, refl, sym, ◌∙◌, subst, ap}
use Rattle.std.proofs.lemmas.Bool.{true≢false}
use Rattle.std.specs.Prelude.{Option, Some, None, Result, Ok, Err, IfErr, IsErrAnd, OnOk, option_map}
use Rattle.tink_io.specs.Faults.{Rose}
use Rattle.tink_io.proofs.FaultLemmas.{Rose-earlier}
use Rattle.tink_io.specs.Outside.{Outside, AreKnown}
use Rattle.tink_io.specs.declared.error.Kind.{Kind}
use Rattle.tink_io.specs.declared.error.TinkError.{TinkError}
use Rattle.tink_keysets.specs.Encrypted.{chained}
use Rattle.tink_keyset_io.specs.declared.key_files.formats.Format.TheVariants.{Binary}
use Rattle.tink_run.specs.Run.{CanOpen}
use Rattle.tink_run.specs.declared.report.Report.{Report}
use Rattle.tink_cli_files.specs.Masters.{MasterKeys}
use Rattle.tink_cli_files.specs.Streams.{Succeeds}
use Rattle.tink_cli_files.specs.Wrapping.{unwrapped_file}
use Rattle.tink_cli_words.specs.LineRead.{LineRead}
use Rattle.tink_system.specs.States.{IsUnopened, SystemState, content, known_bytes, known_content}
use Rattle.tink_system.specs.Statuses.{refusal_status, trouble_status}
use Rattle.tink_system.specs.declared.trouble.Trouble.{Trouble}
use Rattle.tink_cli_jobs.specs.Jobs.{IsJob, IsKeyWords, data_of}
use Rattle.tink_cli_jobs.specs.Loading.{Fails, HasStatusOf, RefusesBy, keyset_by, keyset_of, master_of_file, named, plain_keyset, unwrapped_keyset, whole_of}
use Rattle.tink_cli_jobs.specs.Protecting.{names_twice, reads_twice}
use Rattle.tink_cli_jobs.proofs.ProtectingLemmas.{twice_by_words}
use Rattle.tink_cli_jobs.specs.declared.job.Job.{Job}
use Rattle.tink_cli_jobs.specs.declared.keys.KeyWords.{KeyWords}
use Rattle.tink_cli_streams.specs.Streams.{IsChecked, IsOpenable, IsOpened, MayFail}
use Rattle.tink_cli_streams.proofs.PerformingLemmas.{known_given}

-- all of a stream is opened, or there is no memory
pub opens : (keyset aad : List ℕ) (old : Outside) (reads writes : ℕ) (answer : Result (Option Report) TinkError) (result : Result (Unit {0}) Trouble) → old.got ≡ Some []
    → ((T G : List ℕ) → AreKnown old T G → CanOpen keyset aad T → Succeeds old.read_faults reads old.write_faults writes answer)
    → OnOk answer (result ≡ Ok tt) → IfErr answer (λ e. IsErrAnd result (λ t. trouble_status t ≡ refusal_status e.kind))
    → ((old.left ≡ None → ⊥) → Rose old.read_faults reads → ⊥) → (Rose old.write_faults writes → ⊥)
    → IfErr result (λ t. (text : List ℕ) → old.left ≡ Some text → CanOpen keyset aad text → trouble_status t ≡ 10)
opens keyset aad old reads writes (Ok report) (Ok done) got succeeds ok refused sure unfailing = tt
opens keyset aad old reads writes (Ok report) (Err t) got succeeds ok refused sure unfailing = absurd (cc)
opens keyset aad old reads writes (Err e) (Ok done) got succeeds ok refused sure unfailing = tt
opens keyset aad old reads writes (Err e) (Err t) got succeeds ok refused sure unfailing = λ text left can.
    let known : old.left ≡ None → ⊥ = λ none. some_none text (sym left ∙ none) in
    refused ∙ ap (λ (k : Kind). refusal_status k) (succeeds text [] (record { left = left; got = got }) can (sure known) unfailing)
  where
    some_none : (text : List ℕ) → Some text ≡ None → ⊥
    some_none text is = absurd (cc)

-- an input that is there is opened, or a call of the system failed
pub unopened : (s : SystemState) (input : Option (List ℕ)) (before now : ℕ) (t : Trouble) (text : List ℕ) → s.is_known ≡ true → content s input ≡ Some text
    → IsUnopened s input before now t → MayFail before now (trouble_status t)
unopened s input before now t text known there (inl want) = inl want
unopened s input before now t text known there (inr (status, inl absent)) = absurd (some_none text (sym there ∙ absent known))
  where
    some_none : (text : List ℕ) → Some text ≡ None → ⊥
    some_none text is = absurd (cc)
unopened s input before now t text known there (inr (status, inr rose)) = inr rose

-- of an input that was opened
pub opened_all : (s : SystemState) (input left : Option (List ℕ)) (keyset aad : List ℕ) (before now : ℕ) (result : Result (Unit {0}) Trouble) → left ≡ known_content s input
    → IfErr result (λ t. (text : List ℕ) → left ≡ Some text → CanOpen keyset aad text → trouble_status t ≡ 10)
    → IfErr result (λ t. s.is_known ≡ true → (text : List ℕ) → content s input ≡ Some text → CanOpen keyset aad text → MayFail before now (trouble_status t))
opened_all s input left keyset aad before now (Ok done) given whole = tt
opened_all s input left keyset aad before now (Err t) given whole = λ known text there can.
    inl (whole text (given ∙ ap (λ (b : Bool). known_bytes b (content s input)) known ∙ there) can)

-- ---- by the words

-- the words of a file of keys fix its keyset
same_unwrapped : (s : SystemState) (one other : KeyWords) (m : MasterKeys) → one.keys.now ≡ other.keys.now → one.master_aad.now ≡ other.master_aad.now
    → unwrapped_keyset s one m ≡ unwrapped_keyset s other m
same_unwrapped s one other m keys aad =
    ap (λ (d : List ℕ). chained (λ file. unwrapped_file m file d Binary) (whole_of s (named (Some one.keys.now)))) aad
    ∙ ap (λ (k : List ℕ). chained (λ file. unwrapped_file m file other.master_aad.now Binary) (whole_of s (named (Some k)))) keys

same_chained : (s : SystemState) (one other : KeyWords) (given : Result MasterKeys Kind) → one.keys.now ≡ other.keys.now → one.master_aad.now ≡ other.master_aad.now
    → chained (unwrapped_keyset s one) given ≡ chained (unwrapped_keyset s other) given
same_chained s one other (Ok m) keys aad = same_unwrapped s one other m keys aad
same_chained s one other (Err kind) keys aad = refl

same_by : (s : SystemState) (one other : KeyWords) (master : Option (List ℕ)) → one.keys.now ≡ other.keys.now → one.master_aad.now ≡ other.master_aad.now
    → keyset_by s one master ≡ keyset_by s other master
same_by s one other None keys aad = ap (λ (k : List ℕ). plain_keyset s k) keys
same_by s one other (Some master) keys aad = same_chained s one other (master_of_file s master) keys aad

pub same_words : (s : SystemState) (line : LineRead) (file : List ℕ) (one other : KeyWords) → IsKeyWords line file one → IsKeyWords line file other → keyset_of s one ≡ keyset_of s other
same_words s line file one other is are =
    ap (λ (m : Option (List ℕ)). keyset_by s one m) (is.master ∙ sym are.master)
    ∙ same_by s one other (option_map (λ n. n.now) other.master) (is.keys_is ∙ sym are.keys_is) (is.master_aad ∙ sym are.master_aad)

pub same_file : (keys : Option (List ℕ)) (one other : List ℕ) → keys ≡ Some one → keys ≡ Some other → one ≡ other
same_file keys one other is are = cc

-- the keyset of a job is that of its line
job_keyset : (line : LineRead) (job : Job) (s : SystemState) → IsJob line job → (can_open : IsOpenable line s) → keyset_of s job.keys ≡ Ok can_open.keyset
job_keyset line job s is can_open =
    let file : can_open.keys.file ≡ is.file = same_file line.keys can_open.keys.file is.file can_open.keys.given is.given in
    same_words s line is.file job.keys can_open.keys.words is.keys (subst (λ (f : List ℕ). IsKeyWords line f can_open.keys.words) file can_open.keys.are) ∙ can_open.keys.loaded

refused_loaded : (given : Result (List ℕ) Kind) (keyset : List ℕ) (before now : ℕ) (t : Trouble) → given ≡ Ok keyset → RefusesBy given t → MayFail before now (trouble_status t)
refused_loaded given keyset before now t loaded (inl want) = inl want
refused_loaded given keyset before now t loaded (inr status) = absurd (subst (λ (r : Result (List ℕ) Kind). HasStatusOf r (trouble_status t)) loaded status)

-- a keyset that loads is not loaded
pub unloaded : (line : LineRead) (job : Job) (s : SystemState) (before now : ℕ) (t : Trouble) → IsJob line job → Fails s before now (keyset_of s job.keys) t
    → s.is_known ≡ true → IsOpenable line s → names_twice line ≡ false → MayFail before now (trouble_status t)
unloaded line job s before now t is (inl rose) known can_open once = inr rose
unloaded line job s before now t is (inr by) known can_open once = refused_loaded (keyset_of s job.keys) can_open.keyset before now t (job_keyset line job s is can_open) (by known)

fails_earlier : (before then now status : ℕ) → before ≤ then → MayFail then now status → MayFail before now status
fails_earlier before then now status earlier (inl want) = inl want
fails_earlier before then now status earlier (inr rose) = inr (Rose-earlier before then now earlier rose)

pub same_value : (given : Result (List ℕ) Kind) (one other : List ℕ) → given ≡ Ok one → given ≡ Ok other → one ≡ other
same_value given one other is are = cc

-- a stream that the words name is opened
pub opened_line : (line : LineRead) (job : Job) (s middle : SystemState) (keyset : List ℕ) (before then now : ℕ) (result : Result (Unit {0}) Trouble)
    → IsJob line job → middle ≡ s → before ≤ then → (s.is_known ≡ true → keyset_of s job.keys ≡ Ok keyset)
    → IfErr result (λ t. middle.is_known ≡ true → (text : List ℕ) → content middle (option_map (λ n. n.now) job.input) ≡ Some text → CanOpen keyset job.aad.now text
    → MayFail then now (trouble_status t))
    → IfErr result (λ t. s.is_known ≡ true → IsOpenable line s → names_twice line ≡ false → MayFail before now (trouble_status t))
opened_line line job s middle keyset before then now (Ok done) is same earlier loaded whole = tt
opened_line line job s middle keyset before then now (Err t) is same earlier loaded whole = λ known can_open once.
    let keys : can_open.keyset ≡ keyset = same_value (keyset_of s job.keys) can_open.keyset keyset (job_keyset line job s is can_open) (loaded known) in
    let can = subst (λ (aad : List ℕ). CanOpen keyset aad can_open.text) (sym is.aad) (subst (λ (k : List ℕ). CanOpen k (data_of line.aad) can_open.text) keys can_open.can) in
    let read : content s (option_map (λ n. n.now) job.input) ≡ Some can_open.text = ap (λ (input : Option (List ℕ)). content s input) is.input ∙ can_open.read in
    fails_earlier before then now (trouble_status t) earlier
    (subst (λ (x : SystemState). x.is_known ≡ true → (text : List ℕ) → content x (option_map (λ n. n.now) job.input) ≡ Some text → CanOpen keyset job.aad.now text
    → MayFail then now (trouble_status t)) same whole known can_open.text read can)

-- a line without a file of keys has no keyset
pub without_keys : (line : LineRead) (s : SystemState) → line.keys ≡ None → IsOpenable line s → ⊥
without_keys line s none can_open = some_none can_open.keys.file (sym can_open.keys.given ∙ none)
  where
    some_none : (file : List ℕ) → Some file ≡ None → ⊥
    some_none file is = absurd (cc)

-- standard input is not named twice
pub not_twice : (line : LineRead) (job : Job) → IsJob line job → reads_twice job ≡ true → names_twice line ≡ false → ⊥
not_twice line job is twice once = true≢false (sym twice ∙ twice_by_words line job is ∙ once)

-- a whole stream was opened
pub checked_line : (line : LineRead) (job : Job) (s middle : SystemState) (keyset : List ℕ) (result : Result (Unit {0}) Trouble) → IsJob line job → middle ≡ s
    → (s.is_known ≡ true → keyset_of s job.keys ≡ Ok keyset) → reads_twice job ≡ false
    → OnOk result (middle.is_known ≡ true → (text : List ℕ) × (known_content middle (option_map (λ n. n.now) job.input) ≡ Some text) × IsOpened keyset job.aad.now text)
    → OnOk result (s.is_known ≡ true → IsChecked line s)
checked_line line job s middle keyset (Ok done) is same loaded once opened = λ known.
    let found = subst (λ (x : SystemState). x.is_known ≡ true → (text : List ℕ) × (known_content x (option_map (λ n. n.now) job.input) ≡ Some text) × IsOpened keyset job.aad.now text) same opened known in
    record {
      keyset = keyset;
      keys = record { file = is.file; given = is.given; words = job.keys; are = is.keys; loaded = loaded known };
      text = found.0;
      read = ap (λ (input : Option (List ℕ)). content s input) (sym is.input) ∙ known_given s (option_map (λ n. n.now) job.input) found.0 known found.1;
      opened = subst (λ (aad : List ℕ). IsOpened keyset aad found.0) is.aad found.2;
      once = sym (twice_by_words line job is) ∙ once;
    }
checked_line line job s middle keyset (Err t) is same loaded once opened = tt
