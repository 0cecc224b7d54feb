-- What a call made, where it is saved.
use Rattle.std.proofs.Common.{◌≡◌, ◌++◌, ℕ, List, [], Bool, true, false, inr, refl, ◌∙◌, subst, ap}
use Rattle.std.specs.Prelude.{Option, Some, None, Result, Ok, Err, IfErr, IfSome, IsErrAnd, OnErr, OnOk}
use Rattle.std.specs.Io.KnownBytes.{Appends}
use Rattle.tink_io.specs.Answering.{Answers}
use Rattle.tink_io.specs.declared.error.Kind.{Kind}
use Rattle.tink_io.specs.declared.error.TinkError.{TinkError}
use Rattle.tink_io.specs.Places.{IsSaved}
use Rattle.tink_cli_files.specs.Saved.{Saves}
use Rattle.tink_system.specs.States.{HasBegun, SystemState}
use Rattle.tink_system.specs.declared.system.How.TheVariants.{Fresh}
use Rattle.tink_system.specs.declared.trouble.Trouble.{Trouble}
use Rattle.tink_cli_jobs.specs.Loading.{named}
use Rattle.tink_cli_jobs.specs.Outputs.{IsPut, KeepsOtherFiles}
use Rattle.tink_cli_jobs.proofs.OutputLemmas.{drafted, put_in_file}
use Rattle.tink_cli_keys.specs.Saving.{IsAppended, IsPutNew}

-- shown under a name
pub saved_file : (given : Result (List ℕ) Kind) (answer : Result (Unit {0}) TinkError) (draft : Option (List ℕ)) (replaces : Bool) (before shown : Option (Option (List ℕ))) (i j : ℕ)
    (file : Option (List ℕ)) (P : TinkError → Trouble → Type 0) (result : Result (Unit {0}) Trouble)
    → Saves given answer draft replaces before shown i j → IfErr answer (λ e. IsErrAnd result (P e)) → ((f : Option (List ℕ)) → shown ≡ Some f → file ≡ f)
    → OnOk result ((has : List ℕ) → draft ≡ Some has → IsAppended given has file)
saved_file given (Ok u) draft replaces before shown i j file P (Ok done) saves refused settled = λ has is.
    record { bytes = saves.bytes; made = saves.made; behind = settled _ (rw is at saves.saved).whole }
saved_file given (Ok u) draft replaces before shown i j file P (Err t) saves refused settled = tt
saved_file given (Err e) draft replaces before shown i j file P (Ok done) saves refused settled = absurd refused
saved_file given (Err e) draft replaces before shown i j file P (Err t) saves refused settled = tt

-- a draft that was shown replaced no file, if it was to replace none
fresh_saved : (draft : Option (List ℕ)) (bytes : List ℕ) (replaces : Bool) (before shown : Option (Option (List ℕ)))
    → IsSaved draft bytes replaces before shown → replaces ≡ false → IfSome before (λ file. file ≡ None)
fresh_saved None bytes replaces before shown saved = saved.fresh
fresh_saved (Some has) bytes replaces before shown saved = saved.fresh

pub saved_fresh : (given : Result (List ℕ) Kind) (answer : Result (Unit {0}) TinkError) (draft : Option (List ℕ)) (replaces : Bool) (before shown : Option (Option (List ℕ))) (i j : ℕ)
    (P : TinkError → Trouble → Type 0) (result : Result (Unit {0}) Trouble)
    → Saves given answer draft replaces before shown i j → IfErr answer (λ e. IsErrAnd result (P e))
    → OnOk result (replaces ≡ false → IfSome before (λ file. file ≡ None))
saved_fresh given (Ok u) draft replaces before shown i j P (Ok done) saves refused = fresh_saved draft saves.bytes replaces before shown saves.saved
saved_fresh given (Ok u) draft replaces before shown i j P (Err t) saves refused = tt
saved_fresh given (Err e) draft replaces before shown i j P (Ok done) saves refused = absurd refused
saved_fresh given (Err e) draft replaces before shown i j P (Err t) saves refused = tt

-- saved as a new file of this name
pub saved_new : (given : Result (List ℕ) Kind) (old begun new : SystemState) (output name : List ℕ) (has_draft replaces : Bool) (has got : Option (List ℕ))
    (before : Option (Option (List ℕ))) (result : Result (Unit {0}) Trouble)
    → Some name ≡ named (Some output) → begun ≡ old → HasBegun old name Fresh has_draft replaces has before → KeepsOtherFiles begun new name
    → OnOk result (replaces ≡ false → IfSome before (λ file. file ≡ None))
    → OnOk result ((had : List ℕ) → has ≡ Some had → IsAppended given had (new.file name))
    → OnOk result (old.is_known ≡ true → IsPutNew given old new output got got)
saved_new given old begun new output name has_draft replaces has got before (Ok done) is same draft others fresh made = λ known.
    subst (λ (n : Option (List ℕ)). IsPut (λ b a. IsAppended given b a) true old new n got got) is
    (put_in_file (λ X b a. IsAppended given b a) (λ X. Unit {0}) true old new name got (Ok done)
    (drafted (λ X b a. IsAppended given b a) (λ X. Unit {0}) true Fresh old begun new name has_draft replaces has before (Ok done) refl same draft others fresh
    (λ X had any. made had)) known [] tt)
saved_new given old begun new output name has_draft replaces has got before (Err t) is same draft others fresh made = tt

appended : (old new : Option (List ℕ)) (bytes before : List ℕ) → old ≡ Some before → Appends old new bytes → new ≡ Some (before ++ bytes)
appended (Some xs) (Some ys) bytes before is more = ap (λ (zs : List ℕ). Some zs) more ∙ ap (λ (o : Option (List ℕ)). append_to o bytes) is
  where
    append_to : Option (List ℕ) → List ℕ → Option (List ℕ)
    append_to None bytes = None
    append_to (Some zs) bytes = Some (zs ++ bytes)
appended (Some xs) None bytes before is more = absurd more
appended None new bytes before is more = absurd (cc)

-- written to standard output
pub put_behind : (given : Result (List ℕ) Kind) (bytes : List ℕ) (old new : Option (List ℕ)) (result : Result (Unit {0}) Trouble)
    → given ≡ Ok bytes → OnOk result (Appends old new bytes) → OnOk result ((before : List ℕ) → old ≡ Some before → IsAppended given before new)
put_behind given bytes old new (Ok done) made more = λ before is. record { bytes = bytes; made = made; behind = appended old new bytes before is more }
put_behind given bytes old new (Err t) made more = tt

-- if nothing was saved, what was shown stays
pub unsaved_kept : (made : Result (List ℕ) TinkError) (answer : Result (Unit {0}) TinkError) (draft : Option (List ℕ)) (replaces : Bool) (before after : Option (Option (List ℕ))) (i j : ℕ)
    (result : Result (Unit {0}) Trouble) (file : Option (List ℕ)) (Kept : Type 0)
    → ((told : Result (List ℕ) Kind) → Answers made told → Saves told answer draft replaces before after i j)
    → OnOk answer (OnErr result ⊥) → (after ≡ Some file → Kept) → OnErr result (before ≡ Some file → Kept)
unsaved_kept made answer draft replaces before after i j (Ok done) file Kept saves ok kept = tt
unsaved_kept made (Ok u) draft replaces before after i j (Err t) file Kept saves ok kept = absurd ok
unsaved_kept (Ok v) (Err e) draft replaces before after i j (Err t) file Kept saves ok kept = λ is. kept ((saves (Ok v) refl).1 ∙ is)
unsaved_kept (Err k) (Err e) draft replaces before after i j (Err t) file Kept saves ok kept = λ is. kept ((saves (Err k.kind) (inr refl)).1 ∙ is)
