-- Errors of the commands under a master, by their causes.
use Rattle.std.proofs.Common.{◌≡◌, ◌⊎◌, ◌≤◌, inl, inr, ℕ, List, true, refl, sym, ◌∙◌, subst, ap}
use Rattle.std.specs.Prelude.{◌&&◌, Option, Some, None, Result, Ok, Err, IfErr, OnErr, take}
use Rattle.tink_aead.specs.declared.aead_kind.AeadKind.{AeadKind}
use Rattle.tink_aead.specs.declared.factory.WrappedAead.{WrappedAead}
use Rattle.tink_cli_words.specs.LineRead.{LineRead}
use Rattle.tink_io.specs.declared.error.Kind.{Kind}
use Rattle.tink_keysets.specs.Encrypted.{chained}
use Rattle.tink_cli_files.specs.Masters.{IsMaster, MasterKeys}
use Rattle.tink_cli_files.specs.Wrapping.{unwrapped_file, wrapped_file}
use Rattle.tink_keyset_io.specs.declared.key_files.formats.Format.{Format}
use Rattle.tink_system.specs.States.{IsDrawnFrom, SystemState}
use Rattle.tink_system.specs.Statuses.{trouble_status}
use Rattle.tink_system.specs.declared.trouble.Trouble.{Trouble}
use Rattle.tink_cli_jobs.specs.Jobs.{data_of}
use Rattle.tink_cli_jobs.specs.Loading.{Fails, IsMasterOf, master_of_file, named, whole_of}
use Rattle.tink_cli_jobs.specs.Protecting.{Differ, is_input}
use Rattle.tink_cli_keys.specs.KeyFiles.{format_named}
use Rattle.tink_cli_keys.specs.Refusing.{HasUnwrapCause, HasWrapCause, IsBarred, IsHindered, IsRefusedUnder, LeavesOut, LeavesOutAs, if_both, made_of_file, made_under, of_two, unwrapped_by, wrapped_by}
use Rattle.tink_cli_keys.specs.Saving.{readable}
use Rattle.tink_cli_keys.specs.Wrapping.{AreSparedWords, AreWords, AreWordsOf, IsBarredBy, IsUnputBy, unwrap_made, wrap_made}
use Rattle.tink_cli_keys.specs.declared.wrapping.Words.{Words}
use Rattle.tink_cli_keys.proofs.RefusingLemmas.{caused_between, hindered_later, of_drawn, of_failing}

-- standard output that stays
pub stays : (given : Result (List ℕ) Kind) (output got : Option (List ℕ)) → LeavesOut given output got got
stays given (Some name) got = refl
stays given None got = inl refl

pub stays_as : (given : Option (Result (List ℕ) Kind)) (output got : Option (List ℕ)) → LeavesOutAs given output got got
stays_as None output got = refl
stays_as (Some given) output got = stays given output got

-- whichever keys a master has
pub by_master : (master : WrappedAead AeadKind) (K : Type 0) (P : MasterKeys → Trouble → Type 0) (result : Result (Unit {0}) Trouble)
    → ((m : MasterKeys) → IsMaster m master → IfErr result (λ t. K → P m t)) → IfErr result (λ t. K → (m : MasterKeys) → IsMaster m master → P m t)
by_master master K P (Ok done) holds = tt
by_master master K P (Err t) holds = λ known m is. holds m is known

pub left_by_master : (master : WrappedAead AeadKind) (K : Type 0) (Q : MasterKeys → Type 0) (result : Result (Unit {0}) Trouble)
    → ((m : MasterKeys) → IsMaster m master → OnErr result (Q m)) → OnErr result (K → (m : MasterKeys) → IsMaster m master → Q m)
left_by_master master K Q (Ok done) holds = tt
left_by_master master K Q (Err t) holds = λ known m is. holds m is

-- by random bytes that were drawn before
pub drawn_refused : (master : WrappedAead AeadKind) (keys : List ℕ) (words : Words) (drawn : List ℕ) (old middle : SystemState) (before then now i j : ℕ) (result : Result (Unit {0}) Trouble)
    → IsDrawnFrom old middle 1024 drawn → before ≤ then
    → ((m : MasterKeys) → IsMaster m master
    → IfErr result (λ t. middle.is_known ≡ true → IsUnputBy words middle then now i j (readable (wrapped_file m keys words.aad.now words.format drawn)) (trouble_status t)))
    → IfErr result (λ t. old.is_known ≡ true → (m : MasterKeys) → IsMaster m master
    → IsUnputBy words old before now i j (readable (wrap_made m words old keys)) (trouble_status t))
drawn_refused master keys words drawn old middle before then now i j result draws le caused =
    by_master master (old.is_known ≡ true) (λ m t. IsUnputBy words old before now i j (readable (wrap_made m words old keys)) (trouble_status t)) result
    (λ m is. of_drawn (λ (d : List ℕ) (s : SystemState). readable (wrapped_file m keys words.aad.now words.format d))
    (λ (s : SystemState). IsHindered s (named (Some words.output.now)) i j) old middle drawn before then now result (λ d r. refl)
    (λ r. hindered_later old (named (Some words.output.now)) i j r) draws le (caused m is))

pub drawn_left : (master : WrappedAead AeadKind) (keys : List ℕ) (words : Words) (drawn : List ℕ) (old middle : SystemState) (got got_after : Option (List ℕ)) (result : Result (Unit {0}) Trouble)
    → IsDrawnFrom old middle 1024 drawn
    → ((m : MasterKeys) → IsMaster m master
    → OnErr result (LeavesOut (readable (wrapped_file m keys words.aad.now words.format drawn)) (named (Some words.output.now)) got got_after))
    → OnErr result (old.is_known ≡ true → (m : MasterKeys) → IsMaster m master
    → LeavesOut (readable (wrap_made m words old keys)) (named (Some words.output.now)) got got_after)
drawn_left master keys words drawn old middle got got_after (Ok done) draws left = tt
drawn_left master keys words drawn old middle got got_after (Err t) draws left = λ known m is.
    subst (λ (d : List ℕ). LeavesOut (readable (wrapped_file m keys words.aad.now words.format d)) (named (Some words.output.now)) got got_after) (draws.next known) (left m is)

-- of a file that was read
pub under_refused : (F : MasterKeys → SystemState → List ℕ → Result (List ℕ) Kind) (master : WrappedAead AeadKind) (file : List ℕ) (words : Words) (old middle : SystemState)
    (before then now i j : ℕ) (result : Result (Unit {0}) Trouble)
    → middle ≡ old → before ≤ then → (old.is_known ≡ true → whole_of old (named (Some words.input.now)) ≡ Ok file)
    → IfErr result (λ t. middle.is_known ≡ true → (m : MasterKeys) → IsMaster m master → IsUnputBy words middle then now i j (readable (F m middle file)) (trouble_status t))
    → IfErr result (λ t. old.is_known ≡ true → (m : MasterKeys) → IsMaster m master
    → IsUnputBy words old before now i j (made_of_file (F m old) old (named (Some words.input.now))) (trouble_status t))
under_refused F master file words old middle before then now i j (Ok done) same le read caused = tt
under_refused F master file words old middle before then now i j (Err t) same le read caused = λ known m is.
    let here = subst (λ (s : SystemState). s.is_known ≡ true → (m : MasterKeys) → IsMaster m master
    → IsUnputBy words s then now i j (readable (F m s file)) (trouble_status t)) same caused known m is in
    subst (λ (r : Result (List ℕ) Kind). IsUnputBy words old before now i j (chained (λ f. readable (F m old f)) r) (trouble_status t)) (sym (read known))
    (caused_between (IsHindered old (named (Some words.output.now)) i j) before then now (readable (F m old file)) (trouble_status t) le here)

pub under_left : (F : MasterKeys → SystemState → List ℕ → Result (List ℕ) Kind) (master : WrappedAead AeadKind) (file : List ℕ) (words : Words) (old middle : SystemState)
    (got got_after : Option (List ℕ)) (result : Result (Unit {0}) Trouble)
    → middle ≡ old → (old.is_known ≡ true → whole_of old (named (Some words.input.now)) ≡ Ok file)
    → OnErr result (middle.is_known ≡ true → (m : MasterKeys) → IsMaster m master → LeavesOut (readable (F m middle file)) (named (Some words.output.now)) got got_after)
    → OnErr result (old.is_known ≡ true → (m : MasterKeys) → IsMaster m master
    → LeavesOut (made_of_file (F m old) old (named (Some words.input.now))) (named (Some words.output.now)) got got_after)
under_left F master file words old middle got got_after (Ok done) same read left = tt
under_left F master file words old middle got got_after (Err t) same read left = λ known m is.
    let here = subst (λ (s : SystemState). s.is_known ≡ true → (m : MasterKeys) → IsMaster m master
    → LeavesOut (readable (F m s file)) (named (Some words.output.now)) got got_after) same left known m is in
    subst (λ (r : Result (List ℕ) Kind). LeavesOut (chained (λ f. readable (F m old f)) r) (named (Some words.output.now)) got got_after) (sym (read known)) here

-- the words of a line are barred as the line is
barred : (line : LineRead) (words : Words) (s : SystemState) (status : ℕ) → AreWords line words → IsBarredBy s words status → IsBarred line s status
barred line words s status are (inl twice) =
    inl (
      twice.0,
      subst (λ (o : Option (List ℕ)). (is_input line.keys && is_input o) ≡ true) are.input
          (subst (λ (o : Option (List ℕ)). (is_input o && is_input (Some words.input.now)) ≡ true) are.master twice.1),
    )
barred line words s status are (inr over) = inr (
  over.0,
  λ names. over.1 (record {
    of_master = subst (λ (o : Option (List ℕ)). Differ s (named o) (named (Some words.master.now))) (sym are.output)
        (subst (λ (o : Option (List ℕ)). Differ s (named line.output) (named o)) (sym are.master) names.of_master);
    of_input = subst (λ (o : Option (List ℕ)). Differ s (named o) (named (Some words.input.now))) (sym are.output)
        (subst (λ (o : Option (List ℕ)). Differ s (named line.output) (named o)) (sym are.input) names.of_input);
  }),
)

-- what the words ask for
abbrev asked : (List ℕ → Format → MasterKeys → List ℕ → Result (List ℕ) Kind) → SystemState → Option (List ℕ) → Option (List ℕ) → Option (List ℕ) → List ℕ → Format → Option (Result (List ℕ) Kind)
asked F s keys output first aad format = of_two (λ master input. made_under (F aad format) s master input) keys (if_both output first)

asked_is : (F : List ℕ → Format → MasterKeys → List ℕ → Result (List ℕ) Kind) (s : SystemState) (line : LineRead) (words : Words) → AreWords line words
    → asked F s line.keys line.output line.first (data_of line.aad) (format_named line.format) ≡ Some (made_under (F words.aad.now words.format) s words.master.now words.input.now)
asked_is F s line words are =
    let want = Some (made_under (F words.aad.now words.format) s words.master.now words.input.now) in
    subst (λ (k : Option (List ℕ)). asked F s k line.output line.first (data_of line.aad) (format_named line.format) ≡ want) are.master
    (subst (λ (o : Option (List ℕ)). asked F s (Some words.master.now) o line.first (data_of line.aad) (format_named line.format) ≡ want) are.output
    (subst (λ (i : Option (List ℕ)). asked F s (Some words.master.now) (Some words.output.now) i (data_of line.aad) (format_named line.format) ≡ want) are.input
    (subst (λ (d : List ℕ). asked F s (Some words.master.now) (Some words.output.now) (Some words.input.now) d (format_named line.format) ≡ want) are.aad
    (subst (λ (f : Format). asked F s (Some words.master.now) (Some words.output.now) (Some words.input.now) words.aad.now f ≡ want) are.format refl))))

pub wrapped_is : (line : LineRead) (words : Words) (s : SystemState) → AreWords line words
    → wrapped_by line s ≡ Some (made_under (λ m. wrap_made m words s) s words.master.now words.input.now)
wrapped_is line words s are = asked_is (λ aad format m keys. wrapped_file m keys aad format (take 1024 s.random)) s line words are

pub unwrapped_is : (line : LineRead) (words : Words) (s : SystemState) → AreWords line words
    → unwrapped_by line s ≡ Some (made_under (λ m. unwrap_made m words) s words.master.now words.input.now)
unwrapped_is line words s are = asked_is (λ aad format m file. unwrapped_file m file aad format) s line words are

-- words that lack something ask for nothing
none_second : {A B C : Type 0} (f : A → B → C) (x : Option A) → of_two f x None ≡ None
none_second f None = refl
none_second f (Some a) = refl

lacking : {C : Type 0} (f : List ℕ → List ℕ → C) (keys output first : Option (List ℕ)) → (keys ≡ None) ⊎ (output ≡ None) ⊎ (first ≡ None) → of_two f keys (if_both output first) ≡ None
lacking f keys output first (inl none) = subst (λ (k : Option (List ℕ)). of_two f k (if_both output first) ≡ None) (sym none) refl
lacking f keys output first (inr (inl none)) = subst (λ (o : Option (List ℕ)). of_two f keys (if_both o first) ≡ None) (sym none) (none_second f keys)
lacking f keys output first (inr (inr none)) =
    subst (λ (i : Option (List ℕ)). of_two f keys (if_both output i) ≡ None) (sym none)
    (ap (λ (o : Option (List ℕ)). of_two f keys o) (none_second (λ (a b : List ℕ). b) output) ∙ none_second f keys)

-- a command under a master that is loaded
pub words_refused : (F : MasterKeys → SystemState → List ℕ → Result (List ℕ) Kind) (by : Option (Result (List ℕ) Kind)) (line : LineRead) (words : Words) (master : WrappedAead AeadKind)
    (old middle : SystemState) (before then now i j : ℕ) (result : Result (Unit {0}) Trouble)
    → AreWords line words → by ≡ Some (made_under (λ m. F m old) old words.master.now words.input.now) → middle ≡ old → before ≤ then → IsMasterOf old words.master.now master
    → IfErr result (λ t. middle.is_known ≡ true → (m : MasterKeys) → IsMaster m master
    → IsUnputBy words middle then now i j (made_of_file (F m middle) middle (named (Some words.input.now))) (trouble_status t))
    → IfErr result (λ t. old.is_known ≡ true → IsRefusedUnder line old before now (IsHindered old (named line.output) i j) by (trouble_status t))
words_refused F by line words master old middle before then now i j (Ok done) are by_is same le loaded caused = tt
words_refused F by line words master old middle before then now i j (Err t) are by_is same le loaded caused = λ known.
    let found = loaded known in
    let here = subst (λ (s : SystemState). s.is_known ≡ true → (m : MasterKeys) → IsMaster m master
    → IsUnputBy words s then now i j (made_of_file (F m s) s (named (Some words.input.now))) (trouble_status t)) same caused known found.0 found.2 in
    let wide = caused_between (IsHindered old (named (Some words.output.now)) i j) before then now
    (made_of_file (F found.0 old) old (named (Some words.input.now))) (trouble_status t) le here in
    let under = subst (λ (r : Result MasterKeys Kind). IsUnputBy words old before now i j (chained (λ m. made_of_file (F m old) old (named (Some words.input.now))) r) (trouble_status t))
    (sym found.1) wide in
    subst (λ (o : Option (Result (List ℕ) Kind)). IsRefusedUnder line old before now (IsHindered old (named line.output) i j) o (trouble_status t)) (sym by_is)
    (subst (λ (o : Option (List ℕ)). IsRefusedUnder line old before now (IsHindered old (named o) i j)
    (Some (made_under (λ m. F m old) old words.master.now words.input.now)) (trouble_status t)) are.output (inr under))

pub words_left : (F : MasterKeys → SystemState → List ℕ → Result (List ℕ) Kind) (by : Option (Result (List ℕ) Kind)) (line : LineRead) (words : Words) (master : WrappedAead AeadKind)
    (old middle : SystemState) (got got_after : Option (List ℕ)) (result : Result (Unit {0}) Trouble)
    → AreWords line words → by ≡ Some (made_under (λ m. F m old) old words.master.now words.input.now) → middle ≡ old → IsMasterOf old words.master.now master
    → OnErr result (middle.is_known ≡ true → (m : MasterKeys) → IsMaster m master
    → LeavesOut (made_of_file (F m middle) middle (named (Some words.input.now))) (named (Some words.output.now)) got got_after)
    → OnErr result (old.is_known ≡ true → LeavesOutAs by (named line.output) got got_after)
words_left F by line words master old middle got got_after (Ok done) are by_is same loaded left = tt
words_left F by line words master old middle got got_after (Err t) are by_is same loaded left = λ known.
    let found = loaded known in
    let here = subst (λ (s : SystemState). s.is_known ≡ true → (m : MasterKeys) → IsMaster m master
    → LeavesOut (made_of_file (F m s) s (named (Some words.input.now))) (named (Some words.output.now)) got got_after) same left known found.0 found.2 in
    let under = subst (λ (r : Result MasterKeys Kind). LeavesOut (chained (λ m. made_of_file (F m old) old (named (Some words.input.now))) r) (named (Some words.output.now)) got got_after)
    (sym found.1) here in
    subst (λ (o : Option (Result (List ℕ) Kind)). LeavesOutAs o (named line.output) got got_after) (sym by_is)
    (subst (λ (o : Option (List ℕ)). LeavesOutAs (Some (made_under (λ m. F m old) old words.master.now words.input.now)) (named o) got got_after) are.output under)

-- under one that is not loaded, or of words that are barred
pub master_refused : (F : MasterKeys → List ℕ → Result (List ℕ) Kind) (by : Option (Result (List ℕ) Kind)) (line : LineRead) (words : Words) (s : SystemState) (before now i j : ℕ) (t : Trouble)
    → AreWords line words → by ≡ Some (made_under F s words.master.now words.input.now)
    → (s.is_known ≡ true → IsBarredBy s words (trouble_status t) ⊎ Fails s before now (master_of_file s words.master.now) t)
    → s.is_known ≡ true → IsRefusedUnder line s before now (IsHindered s (named line.output) i j) by (trouble_status t)
master_refused F by line words s before now i j t are by_is refused known =
    subst (λ (o : Option (Result (List ℕ) Kind)). IsRefusedUnder line s before now (IsHindered s (named line.output) i j) o (trouble_status t)) (sym by_is) (by_cause (refused known))
  where
    by_cause : IsBarredBy s words (trouble_status t) ⊎ Fails s before now (master_of_file s words.master.now) t
        → IsRefusedUnder line s before now (IsHindered s (named line.output) i j) (Some (made_under F s words.master.now words.input.now)) (trouble_status t)
    by_cause (inl bars) = inl (barred line words s (trouble_status t) are bars)
    by_cause (inr fails) =
        inr (of_failing (λ m. made_of_file (F m) s (named (Some words.input.now))) (master_of_file s words.master.now) s before now (IsHindered s (named line.output) i j) t fails known)

-- words that are no command
no_words : (f : List ℕ → List ℕ → Result (List ℕ) Kind) (line : LineRead) (s : SystemState) (before now : ℕ) (W : Type 0) → AreWordsOf line None
    → IsRefusedUnder line s before now W (of_two f line.keys (if_both line.output line.first)) 2
no_words f line s before now W lacks =
    subst (λ (o : Option (Result (List ℕ) Kind)). IsRefusedUnder line s before now W o 2) (sym (lacking f line.keys line.output line.first lacks)) refl

pub no_wrap : (line : LineRead) (s : SystemState) (before now i j : ℕ) → AreWordsOf line None → HasWrapCause line s before now i j 2
no_wrap line s before now i j lacks =
    no_words (λ (master input : List ℕ). made_under (λ m keys. wrapped_file m keys (data_of line.aad) (format_named line.format) (take 1024 s.random)) s master input)
    line s before now (IsHindered s (named line.output) i j) lacks

pub no_unwrap : (line : LineRead) (s : SystemState) (before now i j : ℕ) → AreWordsOf line None → HasUnwrapCause line s before now i j 2
no_unwrap line s before now i j lacks =
    no_words (λ (master input : List ℕ). made_under (λ m file. unwrapped_file m file (data_of line.aad) (format_named line.format)) s master input)
    line s before now (IsHindered s (named line.output) i j) lacks

-- ---- before the master is loaded

-- words whose output is a file that is read: the second file is it
pub second_unspared : (words : Words) (old middle : SystemState) (o n : Option (List ℕ)) (result : Result (Unit {0}) Trouble) → middle ≡ old
    → o ≡ named (Some words.output.now) → n ≡ named (Some words.input.now) → OnErr result (middle.is_known ≡ true → Differ middle o n → ⊥)
    → OnErr result (old.is_known ≡ true → AreSparedWords old words → ⊥)
second_unspared words old middle o n (Ok done) same o_is n_is cause = tt
second_unspared words old middle o n (Err t) same o_is n_is cause = λ known spared.
    subst (λ (s : SystemState). s.is_known ≡ true → Differ s o n → ⊥) same cause known
    (subst (λ (x : Option (List ℕ)). Differ old x n) (sym o_is) (subst (λ (x : Option (List ℕ)). Differ old (named (Some words.output.now)) x) (sym n_is) spared.of_input))

-- the first is
pub first_unspared : (words : Words) (old : SystemState) (o n : Option (List ℕ)) → o ≡ named (Some words.output.now) → n ≡ named (Some words.master.now)
    → (old.is_known ≡ true → Differ old o n → ⊥) → old.is_known ≡ true → AreSparedWords old words → ⊥
first_unspared words old o n o_is n_is cause = λ known spared.
    cause known (subst (λ (x : Option (List ℕ)). Differ old x n) (sym o_is) (subst (λ (x : Option (List ℕ)). Differ old (named (Some words.output.now)) x) (sym n_is) spared.of_master))

-- a master that is not loaded, whatever was read for it
pub not_loaded : {T : Type 0} (words : Words) (old middle : SystemState) (before then now : ℕ) (result : Result T Trouble) → middle ≡ old → then ≡ before
    → IfErr result (λ t. Fails middle then now (master_of_file middle words.master.now) t)
    → IfErr result (λ t. old.is_known ≡ true → IsBarredBy old words (trouble_status t) ⊎ Fails old before now (master_of_file old words.master.now) t)
not_loaded words old middle before then now (Ok v) same still fails = tt
not_loaded words old middle before then now (Err t) same still fails = λ known.
    inr (subst (λ (n : ℕ). Fails old n now (master_of_file old words.master.now) t) still
    (subst (λ (s : SystemState). Fails s then now (master_of_file s words.master.now) t) same fails))
