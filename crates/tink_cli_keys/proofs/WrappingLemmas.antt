-- Files of keys that were wrapped, by the words.
use Rattle.std.proofs.Common.{◌≡◌, ℕ, List, true, false, sym, ◌∙◌, subst, ap}
use Rattle.std.specs.Prelude.{Option, Some, Result, Ok, Err, OnOk, take}
use Rattle.tink_cli_words.specs.LineRead.{LineRead}
use Rattle.tink_io.specs.declared.error.Kind.{Kind}
use Rattle.tink_aead.specs.declared.aead_kind.AeadKind.{AeadKind}
use Rattle.tink_aead.specs.declared.factory.WrappedAead.{WrappedAead}
use Rattle.tink_cli_files.specs.Masters.{IsMaster, MasterKeys}
use Rattle.tink_keysets.specs.Encrypted.{chained}
use Rattle.tink_cli_files.specs.Wrapping.{unwrapped_file, wrapped_file}
use Rattle.tink_system.specs.States.{IsDrawnFrom, SystemState}
use Rattle.tink_system.specs.declared.trouble.Trouble.{Trouble}
use Rattle.tink_cli_jobs.specs.Loading.{IsMasterOf, named, whole_of}
use Rattle.tink_cli_jobs.specs.Protecting.{Differ}
use Rattle.tink_cli_keys.specs.Saving.{IsSavedNew}
use Rattle.tink_cli_keys.specs.Wrapping.{AreSparedWords, AreWords, IsUnwrapped, IsUnwrappedBy, IsWrapped, IsWrappedBy, IsWrappedKeys, read_twice, wrapped_of}
use Rattle.tink_cli_keys.specs.declared.wrapping.Words.{Words}
use Rattle.tink_cli_keys.proofs.KeyFileLemmas.{drawn_files, drawn_system, put_drawn}

-- by random bytes that were drawn before
pub wrapped_keys : (master : WrappedAead AeadKind) (keys : List ℕ) (words : Words) (drawn : List ℕ) (old middle new : SystemState) (got got_after : Option (List ℕ))
    (result : Result (Unit {0}) Trouble) → IsDrawnFrom old middle 1024 drawn → new.random ≡ middle.random
    → ((m : MasterKeys) → IsMaster m master → OnOk result (middle.is_known ≡ true
    → IsSavedNew (wrapped_file m keys words.aad.now words.format drawn) middle new words.output.now got got_after))
    → OnOk result (old.is_known ≡ true → (m : MasterKeys) → IsMaster m master → IsWrappedKeys m keys words old new got got_after)
wrapped_keys master keys words drawn old middle new got got_after (Ok done) draws same put = λ known m is. record {
  put = put_drawn (λ d. wrapped_file m keys words.aad.now words.format d) drawn _ old middle new words.output.now got got_after
      (draws.next known) (drawn_files old middle 1024 drawn draws) (drawn_system old middle 1024 drawn draws)
      (put m is (ap (λ (s : SystemState). s.is_known) draws.left ∙ known));
  random = same ∙ ap (λ (s : SystemState). s.random) draws.left;
}
wrapped_keys master keys words drawn old middle new got got_after (Err t) draws same put = tt

-- of a file that was read
pub wrapped_under : (master : WrappedAead AeadKind) (keys : List ℕ) (words : Words) (old middle new : SystemState) (got got_after : Option (List ℕ))
    (result : Result (Unit {0}) Trouble) → middle ≡ old → (old.is_known ≡ true → whole_of old (named (Some words.input.now)) ≡ Ok keys)
    → OnOk result (middle.is_known ≡ true → (m : MasterKeys) → IsMaster m master → IsWrappedKeys m keys words middle new got got_after)
    → OnOk result (old.is_known ≡ true → (m : MasterKeys) → IsMaster m master → IsWrappedBy m words old new got got_after)
wrapped_under master keys words old middle new got got_after (Ok done) same read made = λ known m is.
    let wrapped = subst (λ (s : SystemState). s.is_known ≡ true → (m : MasterKeys) → IsMaster m master → IsWrappedKeys m keys words s new got got_after)
    same made known m is in
    record {
      put = subst (λ (r : Result (List ℕ) Kind). IsSavedNew (wrapped_of m words (take 1024 old.random) r) old new words.output.now got got_after)
          (sym (read known)) wrapped.put;
      random = wrapped.random;
    }
wrapped_under master keys words old middle new got got_after (Err t) same read made = tt

-- by the master that the words name
pub wrapped_by_words : (line : LineRead) (words : Words) (master : WrappedAead AeadKind) (old middle new : SystemState) (got got_after : Option (List ℕ))
    (result : Result (Unit {0}) Trouble) → AreWords line words → middle ≡ old → IsMasterOf old words.master.now master → (old.is_known ≡ true → AreSparedWords old words)
    → read_twice words ≡ false → OnOk result (middle.is_known ≡ true → (m : MasterKeys) → IsMaster m master → IsWrappedBy m words middle new got got_after)
    → OnOk result (old.is_known ≡ true → IsWrapped line old new got got_after)
wrapped_by_words line words master old middle new got got_after (Ok done) are same loaded spared once made = λ known.
    let found = loaded known in
    record {
      words = words;
      are = are;
      m = found.0;
      loaded = found.1;
      spared = spared known;
      once = once;
      wrapped = subst (λ (s : SystemState). s.is_known ≡ true → (m : MasterKeys) → IsMaster m master → IsWrappedBy m words s new got got_after) same made known found.0 found.2;
    }
wrapped_by_words line words master old middle new got got_after (Err t) are same loaded spared once made = tt

-- an unwrapped one
pub unwrapped_by_words : (line : LineRead) (words : Words) (master : WrappedAead AeadKind) (old middle new : SystemState) (got got_after : Option (List ℕ))
    (result : Result (Unit {0}) Trouble) → AreWords line words → middle ≡ old → IsMasterOf old words.master.now master → (old.is_known ≡ true → AreSparedWords old words)
    → read_twice words ≡ false → OnOk result (middle.is_known ≡ true → (m : MasterKeys) → IsMaster m master → IsUnwrappedBy m words middle new got got_after)
    → OnOk result (old.is_known ≡ true → IsUnwrapped line old new got got_after)
unwrapped_by_words line words master old middle new got got_after (Ok done) are same loaded spared once made = λ known.
    let found = loaded known in
    record {
      words = words;
      are = are;
      m = found.0;
      loaded = found.1;
      spared = spared known;
      once = once;
      unwrapped = subst (λ (s : SystemState). s.is_known ≡ true → (m : MasterKeys) → IsMaster m master → IsUnwrappedBy m words s new got got_after) same made known found.0 found.2;
    }
unwrapped_by_words line words master old middle new got got_after (Err t) are same loaded spared once made = tt

-- of a wrapped file that was read
pub unwrapped_under : (master : WrappedAead AeadKind) (file : List ℕ) (words : Words) (old middle new : SystemState) (got got_after : Option (List ℕ))
    (result : Result (Unit {0}) Trouble) → middle ≡ old → (old.is_known ≡ true → whole_of old (named (Some words.input.now)) ≡ Ok file)
    → ((m : MasterKeys) → IsMaster m master → OnOk result (middle.is_known ≡ true
    → IsSavedNew (unwrapped_file m file words.aad.now words.format) middle new words.output.now got got_after))
    → OnOk result (old.is_known ≡ true → (m : MasterKeys) → IsMaster m master → IsUnwrappedBy m words old new got got_after)
unwrapped_under master file words old middle new got got_after (Ok done) same read made = λ known m is.
    let unwrapped = subst (λ (s : SystemState). s.is_known ≡ true → IsSavedNew (unwrapped_file m file words.aad.now words.format) s new words.output.now got got_after)
    same (made m is) known in
    subst (λ (r : Result (List ℕ) Kind). IsSavedNew (chained (λ f. unwrapped_file m f words.aad.now words.format) r) old new words.output.now got got_after)
    (sym (read known)) unwrapped
unwrapped_under master file words old middle new got got_after (Err t) same read made = tt

-- the output is neither of both files
pub spared_words : (words : Words) (old middle : SystemState) (result : Result (Unit {0}) Trouble) → middle ≡ old
    → (old.is_known ≡ true → Differ old (named (Some words.output.now)) (named (Some words.master.now)))
    → OnOk result (middle.is_known ≡ true → Differ middle (named (Some words.output.now)) (named (Some words.input.now)))
    → OnOk result (old.is_known ≡ true → AreSparedWords old words)
spared_words words old middle (Ok done) same first second = λ known. record {
  of_master = first known;
  of_input = subst (λ (s : SystemState). s.is_known ≡ true → Differ s (named (Some words.output.now)) (named (Some words.input.now))) same second known;
}
spared_words words old middle (Err t) same first second = tt
