-- Opening under the chosen key alone.
use Rattle.std.proofs.Common.{◌≡◌, ℕ, List, [], ◌∷◌, Some, None, Ok, Err, Result, refl, sym, subst}
use Rattle.std.specs.Prelude.{IfSome}
use Rattle.std.specs.declared.option.Option.{Option}
use Rattle.tink_io.specs.declared.error.Kind.{Kind}
use Rattle.tink_io.specs.declared.error.Kind.TheVariants.{OutOfMemory, ReadFault, WriteFault, BadKeyset, InvalidKeyset, UnsupportedKeyType, InvalidKey, NoPrimary, WrongPrimitive, TooManySegments, NoMatchingKey, BadSegment, Truncated}
use Rattle.tink_io.specs.declared.error.TinkError.{TinkError}
use Rattle.stream_model.specs.Opening.{IsChosen, OpeningKey}
use Rattle.loading_model.specs.Loading.{Loaded, opening_keys}
use Rattle.tink_streaming_aead.proofs.OneKeyFacts.{chosen_alone, same_choice}
use Rattle.tink_run.specs.AllKeys.{load}
use Rattle.tink_run.specs.OneKey.{OpensAsOneKey, RunOpensAlone}
use Rattle.tink_run.specs.OpenAnswers.{AgreesUntil, IsBroken, IsCutOff, IsOfChosen, Lead, OpenMeans, OpenRefused, OpeningMeans, OpeningRefused, OpensLoaded}
use Rattle.tink_io.specs.Outside.{Outside}
use Rattle.tink_run.specs.declared.report.Report.{Report}

if_told : (o : Option (List ℕ)) (P Q : List ℕ → Type 0) → ((S : List ℕ) → o ≡ Some S → P S → Q S) → IfSome o P → IfSome o Q
if_told None P Q f h = tt
if_told (Some S) P Q f h = f S refl h

-- where the same is chosen of two lists of keys for the known bytes
module _ (ks js : List OpeningKey) (old new : Outside) (same : (S : List ℕ) → old.left ≡ Some S → (c : Option OpeningKey) → IsChosen ks S c → IsChosen js S c) where
  whole_by : (texts : List (List ℕ)) (S : List ℕ) → old.left ≡ Some S → IsOfChosen ks S texts → IsOfChosen js S texts
  whole_by texts S e h = record { key = h.key; chosen = same S e (Some h.key) h.chosen; stream = h.stream }

  until_by : (texts : List (List ℕ)) (S : List ℕ) → old.left ≡ Some S → (P : OpeningKey → Type 0) → AgreesUntil ks S texts P → AgreesUntil js S texts P
  until_by texts S e P h = record {
    key = h.key;
    chosen = same S e (Some h.key) h.chosen;
    agreed = h.agreed;
    then = h.then;
  }

  lead_by : (texts : List (List ℕ)) (S : List ℕ) → old.left ≡ Some S → Lead ks S texts → Lead js S texts
  lead_by [] S e h = tt
  lead_by (t ∷ ts) S e h = (h.0, same S e (Some h.0) h.1, h.2)

  pub broken_by : IsBroken ks old new → IsBroken js old new
  broken_by h = record {
    texts = h.texts;
    lead = if_told old.left (λ X. Lead ks X h.texts) (λ X. Lead js X h.texts) (lead_by h.texts) h.lead;
    written = h.written;
  }

  cut_by : IsCutOff ks old new → IsCutOff js old new
  cut_by h = record {
    texts = h.texts;
    lead = if_told old.left (λ X. Lead ks X h.texts) (λ X. Lead js X h.texts) (lead_by h.texts) h.lead;
    written = h.written;
  }

  refused_by : (kind : Kind) → OpeningRefused ks old new kind → OpeningRefused js old new kind
  refused_by NoMatchingKey h = record {
    none = if_told old.left (λ X. IsChosen ks X None) (λ X. IsChosen js X None) (λ S e. same S e None) h.none;
    written = h.written;
  }
  refused_by (Truncated n) h = record {
    texts = h.texts;
    number = h.number;
    some = h.some;
    stream = if_told old.left _ _ (λ S e. until_by h.texts S e _) h.stream;
    written = h.written;
  }
  refused_by (BadSegment n) h = record {
    texts = h.texts;
    number = h.number;
    some = h.some;
    stream = if_told old.left _ _ (λ S e. until_by h.texts S e _) h.stream;
    written = h.written;
  }
  refused_by TooManySegments h = record {
    texts = h.texts;
    number = h.number;
    stream = if_told old.left _ _ (λ S e. until_by h.texts S e _) h.stream;
    written = h.written;
  }
  refused_by ReadFault h = (cut_by h.0, h.1)
  refused_by WriteFault h = (broken_by h.0, h.1)
  refused_by _ h = absurd h

  pub means_by : (answer : Result Report TinkError) → OpeningMeans ks old new answer → OpeningMeans js old new answer
  means_by (Ok report) h = record {
    texts = h.texts;
    stream = if_told old.left (λ X. IsOfChosen ks X h.texts) (λ X. IsOfChosen js X h.texts) (whole_by h.texts) h.stream;
    stays_told = h.stays_told;
    at_end = h.at_end;
    written = h.written;
    segments = h.segments;
    bytes = h.bytes;
  }
  means_by (Err error) h = refused_by error.kind h

-- so it is where one key is chosen of both
same_of : (ks js : List OpeningKey) (S : List ℕ) (k : OpeningKey) → IsChosen ks S (Some k) → IsChosen js S (Some k) → (left : Option (List ℕ)) → left ≡ Some S
    → (X : List ℕ) → left ≡ Some X → (c : Option OpeningKey) → IsChosen ks X c → IsChosen js X c
same_of ks js S k p q left e X t c h =
    let one : S ≡ X = cc in
    subst (λ Y. IsChosen js Y c) one (same_choice ks js S k c p q (subst (λ Y. IsChosen ks Y c) (sym one) h))

pub opens_as_one_key : OpensAsOneKey
opens_as_one_key keys key S old new answer e chosen =
    let itself = chosen_alone keys S key chosen in (
      means_by keys (key ∷ []) old new (same_of keys (key ∷ []) S key chosen itself old.left e) answer,
      means_by (key ∷ []) keys old new (same_of (key ∷ []) keys S key itself chosen old.left e) answer,
    )

module _ (keyset other aad draws left_draws S : List ℕ) (l m : Loaded) (key : OpeningKey)
    (first : load keyset ≡ Ok l) (second : load other ≡ Ok m)
    (p : IsChosen (opening_keys aad l) S (Some key)) (q : IsChosen (opening_keys aad m) S (Some key)) where
  not_loaded : (kind : Kind) → load keyset ≡ Err kind → ⊥
  not_loaded kind e = absurd (let h = first in cc)

  same_loaded : (n : Loaded) → load keyset ≡ Ok n → n ≡ l
  same_loaded n e = let h = first in cc

  loaded_by : (old new : Outside) (answer : Result Report TinkError) → old.left ≡ Some S
      → OpensLoaded keyset aad old new answer → OpensLoaded other aad old new answer
  loaded_by old new answer e h = record {
    loaded = m;
    loads = second;
    means = means_by (opening_keys aad l) (opening_keys aad m) old new (same_of (opening_keys aad l) (opening_keys aad m) S key p q old.left e) answer
        (subst (λ n. OpeningMeans (opening_keys aad n) old new answer) (same_loaded h.loaded h.loads) h.means);
  }

  kind_by : (old new : Outside) (error : TinkError) (kind : Kind) → old.left ≡ Some S
      → OpenRefused keyset aad draws left_draws old new error kind → OpenRefused other aad draws left_draws old new error kind
  kind_by old new error OutOfMemory e h = h
  kind_by old new error BadKeyset e h = absurd (not_loaded BadKeyset h.cause)
  kind_by old new error InvalidKeyset e h = absurd (not_loaded InvalidKeyset h.cause)
  kind_by old new error UnsupportedKeyType e h = absurd (not_loaded UnsupportedKeyType h.cause)
  kind_by old new error InvalidKey e h = absurd (not_loaded InvalidKey h.cause)
  kind_by old new error NoPrimary e h = absurd (not_loaded NoPrimary h.cause)
  kind_by old new error WrongPrimitive e h = absurd (not_loaded WrongPrimitive h.cause)
  kind_by old new error ReadFault e h = loaded_by old new (Err error) e h
  kind_by old new error WriteFault e h = loaded_by old new (Err error) e h
  kind_by old new error TooManySegments e h = loaded_by old new (Err error) e h
  kind_by old new error NoMatchingKey e h = loaded_by old new (Err error) e h
  kind_by old new error (BadSegment n) e h = loaded_by old new (Err error) e h
  kind_by old new error (Truncated n) e h = loaded_by old new (Err error) e h
  kind_by old new error _ e h = absurd h

  run_by : (old new : Outside) (answer : Result Report TinkError) → old.left ≡ Some S
      → OpenMeans keyset aad draws left_draws old new answer → OpenMeans other aad draws left_draws old new answer
  run_by old new (Ok report) e h = loaded_by old new (Ok report) e h
  run_by old new (Err error) e h = kind_by old new error error.kind e h

pub run_opens_alone : RunOpensAlone
run_opens_alone keyset alone aad draws left_draws S l m key old new answer first second one e chosen =
    let itself : IsChosen (opening_keys aad m) S (Some key) = rw one (chosen_alone (opening_keys aad l) S key chosen) in (
      run_by keyset alone aad draws left_draws S l m key first second chosen itself old new answer e,
      run_by alone keyset aad draws left_draws S m l key second first itself chosen old new answer e,
    )
