-- Files of keys that were changed or made, by the words.
use Rattle.std.proofs.Common.{◌≡◌, ℕ, List, [], true, ◌∙◌, sym, subst, ap}
use Rattle.std.specs.Prelude.{Option, Some, Result, Ok, Err, OnOk, take}
use Rattle.tink_cli_words.specs.LineRead.{LineRead}
use Rattle.tink_io.specs.declared.error.Kind.{Kind}
use Rattle.tink_keyset_io.specs.declared.key_files.formats.Format.{Format}
use Rattle.tink_proto.specs.declared.enums.OutputPrefixType.{OutputPrefixType}
use Rattle.tink_keysets.specs.Encrypted.{chained}
use Rattle.tink_cli_files.specs.Saved.{converted_file, new_file}
use Rattle.tink_system.specs.States.{IsDrawnFrom, KeepsSystem, SystemState}
use Rattle.tink_system.specs.declared.trouble.Trouble.{Trouble}
use Rattle.tink_cli_jobs.specs.Loading.{named, whole_of}
use Rattle.tink_cli_jobs.specs.Outputs.{KeepsFiles, KeepsOtherFiles}
use Rattle.tink_cli_jobs.proofs.OutputLemmas.{put_earlier}
use Rattle.tink_cli_keys.specs.KeyFiles.{IsChanged, IsConverted, IsNew, format_named, prefix_named}
use Rattle.tink_cli_keys.specs.Saving.{IsAppended, IsSavedNew, readable}

-- a draw changes no file, and of the rest only what is random
pub drawn_files : (old middle : SystemState) (n : ℕ) (drawn : List ℕ) → IsDrawnFrom old middle n drawn → KeepsFiles old middle
drawn_files old middle n drawn draws = λ name. ap (λ (s : SystemState). s.file name) draws.left

pub drawn_system : (old middle : SystemState) (n : ℕ) (drawn : List ℕ) → IsDrawnFrom old middle n drawn → KeepsSystem old middle
drawn_system old middle n drawn draws = record {
  known = ap (λ (s : SystemState). s.is_known) draws.left;
  names = ap (λ (s : SystemState). s.are_one) draws.left;
  streams = ap (λ (s : SystemState). s.is_stream) draws.left;
  input = ap (λ (s : SystemState). s.input) draws.left;
}

drawn_known : (old middle : SystemState) (n : ℕ) (drawn : List ℕ) → IsDrawnFrom old middle n drawn → old.is_known ≡ true → middle.is_known ≡ true
drawn_known old middle n drawn draws known = ap (λ (s : SystemState). s.is_known) draws.left ∙ known

-- what was saved by random bytes that were drawn before
pub put_drawn : (makes : List ℕ → Result (List ℕ) Kind) (drawn next : List ℕ) (old middle new : SystemState) (output : List ℕ) (got got_after : Option (List ℕ))
    → drawn ≡ next → KeepsFiles old middle → KeepsSystem old middle → IsSavedNew (makes drawn) middle new output got got_after
    → IsSavedNew (makes next) old new output got got_after
put_drawn makes drawn next old middle new output got got_after is files system put =
    put_earlier (λ b a. IsAppended (readable (makes next)) b a) true old middle new (named (Some output)) got got_after files system
    (subst (λ (d : List ℕ). IsSavedNew (makes d) middle new output got got_after) is put)

-- a new file
pub made_new : (line : LineRead) (template output : List ℕ) (prefix : Option OutputPrefixType) (format : Format) (drawn : List ℕ) (old middle new : SystemState)
    (got got_after : Option (List ℕ)) (result : Result (Unit {0}) Trouble)
    → line.first ≡ Some template → line.output ≡ Some output → prefix ≡ prefix_named line.prefix → format ≡ format_named line.format
    → IsDrawnFrom old middle 1024 drawn → new.random ≡ middle.random
    → OnOk result (middle.is_known ≡ true → IsSavedNew (new_file template prefix format drawn) middle new output got got_after)
    → OnOk result (old.is_known ≡ true → IsNew line old new got got_after)
made_new line template output prefix format drawn old middle new got got_after (Ok done) first out prefix_is format_is draws same put = λ known.
    let next = put_drawn (λ d. new_file template prefix format d) drawn _ old middle new output got got_after
    (draws.next known) (drawn_files old middle 1024 drawn draws) (drawn_system old middle 1024 drawn draws) (put (drawn_known old middle 1024 drawn draws known)) in
    let by_prefix = subst (λ (p : Option OutputPrefixType). IsSavedNew (new_file template p format (take 1024 old.random)) old new output got got_after)
    prefix_is next in
    record {
      template = template;
      template_is = first;
      output = output;
      output_is = out;
      put = subst (λ (f : Format). IsSavedNew (new_file template (prefix_named line.prefix) f (take 1024 old.random)) old new output got got_after)
          format_is by_prefix;
      random = same ∙ ap (λ (s : SystemState). s.random) draws.left;
    }
made_new line template output prefix format drawn old middle new got got_after (Err t) first out prefix_is format_is draws same put = tt

-- a file that was read and is replaced
pub changed_whole : (makes : List ℕ → Result (List ℕ) Kind) (path file : List ℕ) (old middle new : SystemState) (got : Option (List ℕ)) (result : Result (Unit {0}) Trouble)
    → middle ≡ old → (old.is_known ≡ true → old.file path ≡ Some file) → KeepsOtherFiles middle new path
    → OnOk result ((before : List ℕ) → got ≡ Some before → IsAppended (readable (makes file)) before (new.file path))
    → OnOk result (old.is_known ≡ true → got ≡ Some [] → IsChanged makes path old new)
changed_whole makes path file old middle new got (Ok done) same read others put = λ known none.
    let made = put [] none in
    record {
      file = file;
      was = read known;
      made = made.bytes;
      by = made.made;
      is = made.behind;
      others = subst (λ (s : SystemState). KeepsOtherFiles s new path) same others;
    }
changed_whole makes path file old middle new got (Err t) same read others put = tt

-- a file in another format
pub converted : (line : LineRead) (path output file : List ℕ) (format : Format) (old middle new : SystemState) (got got_after : Option (List ℕ)) (result : Result (Unit {0}) Trouble)
    → line.first ≡ Some path → line.output ≡ Some output → format ≡ format_named line.format → middle ≡ old
    → (old.is_known ≡ true → whole_of old (named (Some path)) ≡ Ok file)
    → OnOk result (middle.is_known ≡ true → IsSavedNew (converted_file file format) middle new output got got_after)
    → OnOk result (old.is_known ≡ true → IsConverted line old new got got_after)
converted line path output file format old middle new got got_after (Ok done) first out format_is same read put = λ known.
    let saved = subst (λ (s : SystemState). s.is_known ≡ true → IsSavedNew (converted_file file format) s new output got got_after) same put known in
    let by_format = subst (λ (f : Format). IsSavedNew (converted_file file f) old new output got got_after) format_is saved in
    record {
      path = path;
      path_is = first;
      output = output;
      output_is = out;
      put = subst (λ (r : Result (List ℕ) Kind). IsSavedNew (chained (λ f. converted_file f (format_named line.format)) r) old new output got got_after) (sym (read known)) by_format;
    }
converted line path output file format old middle new got got_after (Err t) first out format_is same read put = tt
