-- Opening under the chosen key alone.
use Rattle.std.specs.Prelude.{◌≡◌, ◌↔◌, List, ℕ, [], ◌∷◌, Some, Ok, Result}
use Rattle.tink_io.specs.declared.error.TinkError.{TinkError}
use Rattle.stream_model.specs.Opening.{IsChosen, OpeningKey}
use Rattle.loading_model.specs.Loading.{Loaded, opening_keys}
use Rattle.tink_run.specs.AllKeys.{load}
use Rattle.tink_run.specs.OpenAnswers.{OpenMeans, OpeningMeans}
use Rattle.tink_io.specs.Outside.{Outside}
use Rattle.tink_run.specs.declared.report.Report.{Report}

-- what an open answers under keys of which one is chosen for the stream, it answers under this key alone
abbrev pub OpensAsOneKey : Type 0
OpensAsOneKey =
    (keys : List OpeningKey) (key : OpeningKey) (S : List ℕ) (old new : Outside) (answer : Result Report TinkError)
    → old.left ≡ Some S → IsChosen keys S (Some key)
    → OpeningMeans keys old new answer ↔ OpeningMeans (key ∷ []) old new answer

-- so what `run` says under a keyset, it says under each keyset whose one key is the key that is chosen
abbrev pub RunOpensAlone : Type 0
RunOpensAlone =
    (keyset alone aad draws left_draws S : List ℕ) (l m : Loaded) (key : OpeningKey) (old new : Outside)
    (answer : Result Report TinkError)
    → load keyset ≡ Ok l → load alone ≡ Ok m → opening_keys aad m ≡ key ∷ []
    → old.left ≡ Some S → IsChosen (opening_keys aad l) S (Some key)
    → OpenMeans keyset aad draws left_draws old new answer ↔ OpenMeans alone aad draws left_draws old new answer
