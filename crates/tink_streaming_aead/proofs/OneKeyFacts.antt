-- A keyset's reader is that of the chosen key.
use Rattle.std.proofs.Common.{◌≡◌, ◌∙◌, inl, ◌<◌, ℕ, zero, suc, Bool, List, [], ◌∷◌, ◌+◌, length, length-drop, take, drop, map, Some, None, refl, sym, ap, subst, arith}
use Rattle.std.specs.Prelude.{Ok, Err, Result, IsOk, slice_index}
use Rattle.std.specs.declared.option.Option.{Option}
use Rattle.std.proofs.lemmas.List.{drop-drop, take-append-drop, length-take-le}
use Rattle.tink_io.specs.Faults.{Rose}
use Rattle.tink_io.specs.declared.error.Kind.{Kind}
use Rattle.tink_io.specs.declared.error.Kind.TheVariants.{NoMatchingKey, ReadFault}
use Rattle.tink_io.specs.declared.error.TinkError.{TinkError}
use Rattle.stream_model.specs.Key.{StreamKey, header_length, overhead}
use Rattle.stream_model.specs.Opening.{IsChosen, OpeningKey, front_length, header_of, opening_key}
use Rattle.stream_model.proofs.OpeningFacts.{IsChosen-begins, IsChosen-unique}
use Rattle.tink_streaming_io.specs.Choosing.{Started}
use Rattle.tink_streaming_io.specs.TextReading.{TextMoment}
use Rattle.tink_streaming_io.specs.declared.progress.Progress.TheVariants.{Running}
use Rattle.tink_streaming_keys.specs.Decrypting.{IsNewReader}
use Rattle.tink_streaming_aead.proofs.FrontFacts.{front_mark}
use Rattle.tink_streaming_aead.specs.DecryptReaders.{DecryptState, FirstReadMeans, FirstReadRefused, GivesFirst, source_in}
use Rattle.tink_streaming_aead.specs.DecryptReaders.DecryptState.{Chosen, Stopped, Unread}
use Rattle.tink_streaming_aead.specs.OneKey.{FirstReadIsOk, ReadsAsAlone, ReadsAsReader}

-- where one key is chosen of both lists, whatever is chosen of the one is chosen of the other
pub same_choice : (ks js : List OpeningKey) (X : List ℕ) (k : OpeningKey) (c : Option OpeningKey)
    → IsChosen ks X (Some k) → IsChosen js X (Some k) → IsChosen ks X c → IsChosen js X c
same_choice ks js X k c p q h = subst (IsChosen js X) (IsChosen-unique ks X (Some k) c p h) q

-- and the chosen key is chosen of itself alone
pub chosen_alone : (ks : List OpeningKey) (X : List ℕ) (k : OpeningKey) → IsChosen ks X (Some k) → IsChosen (k ∷ []) X (Some k)
chosen_alone ks X k p = inl (IsChosen-begins ks X k p, refl)

module _ (ks js : List OpeningKey) (X : List ℕ) (k : OpeningKey) (p : IsChosen ks X (Some k)) (q : IsChosen js X (Some k)) where
  started_by : (rest : Option (List ℕ)) (seg : ℕ → Bool → List ℕ → List ℕ) (a b over : ℕ)
      → Started ks X rest seg a b over → Started js X rest seg a b over
  started_by rest seg a b over s = record {
    front = s.front;
    found = record {
      key = s.found.key;
      chosen = same_choice ks js X k (Some s.found.key) p q s.found.chosen;
      opener = s.found.opener;
    };
    rest = s.rest;
  }

  refused_by : (told : Option (List ℕ)) (before now : ℕ) (kind : Kind) → told ≡ Some X
      → FirstReadRefused ks told before now kind → FirstReadRefused js told before now kind
  refused_by told before now NoMatchingKey e h =
      rw e (same_choice ks js X k None p q (rw e at h))
  refused_by told before now ReadFault e h = h
  refused_by told before now _ e h = absurd h

  gives_by : (told : Option (List ℕ)) (seg : ℕ → Bool → List ℕ → List ℕ) (a b over : ℕ) (new : TextMoment)
      (before after : List ℕ) (n : ℕ) → told ≡ Some X
      → GivesFirst ks told seg a b over new before after n → GivesFirst js told seg a b over new before after n
  gives_by told seg a b over new before after n e g = record {
    rest = g.rest;
    chosen = let s = g.chosen in rw e (started_by g.rest seg a b over (rw e at s));
    faults = g.faults;
    gave = g.gave;
  }

  module _ {S : Type 0} (left : S → Option (List ℕ)) (faults : S → ℕ) where
    first_by : (source : S) (new : DecryptState S) (before after : List ℕ) (r : Result ℕ TinkError)
        → left source ≡ Some X → FirstReadMeans left faults ks source new before after r
        → FirstReadMeans left faults js source new before after r
    first_by source (Chosen t) before after (Ok n) e h = gives_by (left source) _ _ _ _ _ before after n e h
    first_by source (Chosen t) before after (Err _) e h = absurd h
    first_by source (Stopped c now) before after (Ok n) e h = absurd h
    first_by source (Stopped c now) before after (Err error) e h =
        (h.0, h.1, refused_by (left source) (faults source) (faults now) error.kind e h.2)
    first_by source (Unread _ _ _ _) before after r e h = absurd h

module _ {S : Type 0} (left : S → Option (List ℕ)) (faults : S → ℕ) where
  pub reads_as_alone : ReadsAsAlone left faults
  reads_as_alone keys key aad X room alone b source new before after r e chosen =
      let ks = map (opening_key aad) keys in
      let k = opening_key aad key in
      let itself = chosen_alone ks X k chosen in (
        first_by ks (k ∷ []) X k chosen itself left faults source new (b ∷ before) after r e,
        first_by (k ∷ []) ks X k itself chosen left faults source new (b ∷ before) after r e,
      )

  not_refused : (ks : List OpeningKey) (X : List ℕ) (k : OpeningKey) (told : Option (List ℕ)) (before now : ℕ) (kind : Kind)
      → told ≡ Some X → IsChosen ks X (Some k) → (Rose before now → ⊥) → FirstReadRefused ks told before now kind → ⊥
  not_refused ks X k told before now NoMatchingKey e p none h =
      let both : Some k ≡ None = IsChosen-unique ks X (Some k) None p (rw e at h) in
      absurd (cc)
  not_refused ks X k told before now ReadFault e p none h = none h
  not_refused ks X k told before now _ e p none h = absurd h

  ok_by : (ks : List OpeningKey) (X : List ℕ) (k : OpeningKey) (source : S) (new : DecryptState S)
      (before after : List ℕ) (r : Result ℕ TinkError) → left source ≡ Some X → IsChosen ks X (Some k)
      → (Rose (faults source) (faults (source_in new)) → ⊥)
      → FirstReadMeans left faults ks source new before after r → IsOk r
  ok_by ks X k source new before after (Ok n) e p none h = refl
  ok_by ks X k source (Stopped c now) before after (Err error) e p none h =
      absurd (not_refused ks X k (left source) (faults source) (faults now) error.kind e p none h.2)
  ok_by ks X k source (Chosen t) before after (Err error) e p none h = absurd h
  ok_by ks X k source (Unread _ _ _ _) before after (Err error) e p none h = absurd h

  pub first_read_is_ok : FirstReadIsOk left faults
  first_read_is_ok keys key aad X room b source new before after r e chosen none h =
      ok_by (map (opening_key aad) keys) X (opening_key aad key) source new (b ∷ before) after r e chosen none h

first_stays : (n : ℕ) (X : List ℕ) → 0 < n → slice_index (take n X) 0 ≡ slice_index X 0
first_stays zero X h = absurd (omega arith)
first_stays (suc n) [] h = refl
first_stays (suc n) (x ∷ X) h = refl

reader_of : (keys : List OpeningKey) (key : StreamKey) (aad X : List ℕ) (rest : Option (List ℕ)) (faults : ℕ)
    (seg : ℕ → Bool → List ℕ → List ℕ) (a b overhead : ℕ) → IsChosen keys X (Some (opening_key aad key))
    → Started keys X rest seg a b overhead
    → IsNewReader key aad (Some (drop (length key.out) X)) seg a b overhead []
    (record { progress = Running; number = 0; pending = []; rest = rest; faults = faults })
reader_of keys key aad X rest faults seg a b overhead chosen s =
    let k = opening_key aad key in
    let both : Some s.found.key ≡ Some k =
    IsChosen-unique keys X (Some s.found.key) (Some k) s.found.chosen chosen in
    let same : s.found.key ≡ k = cc in
    let begins = IsChosen-begins keys X k chosen in
    let opener = s.found.opener in
    let behind : List ℕ = drop (length key.out) X in
    let at : s.front ≡ length key.out + header_length key = opener.front_is ∙ ap front_length same in
    let told : rest ≡ Some (drop (header_length key) behind) =
    s.rest ∙ ap (λ n. Some (drop n X)) at ∙ ap Some (sym (drop-drop (header_length key) (length key.out) X)) in
    record {
      header = take (header_length key) behind;
      reads = record {
        long = length-take-le (header_length key) behind (omega (arith, begins.front.long, length-drop (length key.out) X));
        mark = first_stays (header_length key) behind (omega arith) ∙ front_mark k X begins.front;
        read = rw told (sym (take-append-drop (header_length key) behind));
      };
      segments = ap (λ (j : OpeningKey). j.seg (header_of j X)) (sym same) ∙ opener.map;
      first_is = opener.first_is ∙ ap (λ (j : OpeningKey). j.first) same;
      size_is = opener.size_is ∙ ap (λ (j : OpeningKey). j.size) same;
      overhead_is = opener.overhead_is ∙ ap (λ (j : OpeningKey). j.overhead) same;
      running = refl;
      number = refl;
      pending = refl;
      none_held = refl;
    }

pub reads_as_reader : ReadsAsReader
reads_as_reader keys key aad X seg a b overhead new before after n chosen g = (
  record { progress = Running; number = 0; pending = []; rest = g.rest; faults = g.faults },
  reader_of (map (opening_key aad) keys) key aad X g.rest g.faults seg a b overhead chosen g.chosen,
  g.gave,
)
