-- Of a keyset that loads, the key that is chosen for a stream is the one that is chosen at a place.
use Rattle.std.proofs.Common.{◌≡◌, ◌⊎◌, ◌∙◌, ℕ, zero, suc, List, [], ◌∷◌, Bool, true, false, cond, Some, None, refl, sym, ap, subst, inl, inr}
use Rattle.std.specs.Prelude.{Ok, filter, map, nat_eq}
use Rattle.std.specs.List.{list_any}
use Rattle.std.proofs.lemmas.Bool.{false≢true}
use Rattle.tink_io.specs.declared.error.Kind.TheVariants.{InvalidKeyset, NoPrimary}
use Rattle.tink_proto.specs.declared.messages.keys.Key.{Key}
use Rattle.tink_proto.specs.declared.messages.keys.Keyset.{Keyset}
use Rattle.keyset_model.specs.Keys.{enabled, is_enabled}
use Rattle.keyset_model.specs.Validity.{is_valid}
use Rattle.stream_model.specs.Key.{StreamKey, fronted}
use Rattle.stream_model.specs.Opening.{OpeningKey, Begins, IsChosen, opening_key}
use Rattle.loading_model.specs.Loading.{BuiltKey, EnabledKey, Loaded, LoadedKey, LoadingRow, ◌then◌, build_data, build_key, build_keys, key_of_id, load_keys, load_keyset, opening_keys, out_of, streaming_key, streaming_keys, with_primary}
use Rattle.loading_model.specs.Loading.BuiltKey.{Streaming, Other}
use Rattle.loading_model.specs.Rotation.{BeginsUnder, BuildsKey, HasItsPlace, IsChosenAt}
use Rattle.loading_model.proofs.UsableKeys.{followed, passed}

-- what stands before the header of the key's streams
abbrev own_out : Key → List ℕ
own_out k = out_of k.output_prefix_type k.key_id

module _ (rows : List LoadingRow) where
  -- an enabled key that loads builds a key of streams
  pub record LoadsAs (k : Key) (ls rest : List LoadedKey) : Type 0 where
    pub key : StreamKey
    pub built : build_data rows k.key_data ≡ Ok (Streaming key)
    pub first : ls ≡ record { id = k.key_id; prefix_type = k.output_prefix_type; key = fronted (own_out k) key } ∷ rest

  -- the enabled keys load as these, in order
  abbrev pub Load : List Key → List LoadedKey → Type 0
  Load [] ls = ls ≡ []
  Load (k ∷ ks) ls =
      ((is_enabled k ≡ true) × ((rest : List LoadedKey) × LoadsAs k ls rest × Load ks rest))
      ⊎ ((is_enabled k ≡ false) × Load ks ls)

  head_loads : (k : Key) (b : BuiltKey) (one : EnabledKey) (l : LoadedKey) (ls rest : List LoadedKey)
      → build_data rows k.key_data ≡ Ok b
      → record { id = k.key_id; prefix_type = k.output_prefix_type; built = b } ≡ one → streaming_key one ≡ Ok l
      → l ∷ rest ≡ ls → LoadsAs k ls rest
  head_loads k (Streaming key) one l ls rest made is streams e =
      let told : streaming_key (record { id = k.key_id; prefix_type = k.output_prefix_type; built = Streaming key })
      ≡ Ok l = ap streaming_key is ∙ streams in
      let same : record { id = k.key_id; prefix_type = k.output_prefix_type; key = fronted (own_out k) key } ≡ l = cc in
      record { key = key; built = made; first = sym e ∙ ap (λ x. x ∷ rest) (sym same) }
  head_loads k Other one l ls rest made is streams e =
      let told : streaming_key (record { id = k.key_id; prefix_type = k.output_prefix_type; built = Other })
      ≡ Ok l = ap streaming_key is ∙ streams in
      absurd (cc)

  load_by_test : (k : Key) (ks : List Key) (on : Bool) (bs : List EnabledKey) (ls : List LoadedKey) → is_enabled k ≡ on
      → build_keys rows (cond on (k ∷ filter is_enabled ks) (filter is_enabled ks)) ≡ Ok bs → streaming_keys bs ≡ Ok ls
      → ((bs : List EnabledKey) (ls : List LoadedKey) → build_keys rows (filter is_enabled ks) ≡ Ok bs
      → streaming_keys bs ≡ Ok ls → Load ks ls)
      → Load (k ∷ ks) ls
  load_by_test k ks false bs ls on build streams more = inr (on, more bs ls build streams)
  load_by_test k ks true bs ls on build streams more =
      let one = followed (build_key rows k) _ bs build in
      let rest = followed (build_keys rows (filter is_enabled ks)) _ bs one.2 in
      let both : one.0 ∷ rest.0 ≡ bs = let h = rest.2 in cc in
      let made = followed (build_data rows k.key_data) _ one.0 one.1 in
      let told : record { id = k.key_id; prefix_type = k.output_prefix_type; built = made.0 } ≡ one.0 =
      let h = made.2 in cc in
      let streamed : streaming_keys (one.0 ∷ rest.0) ≡ Ok ls = ap streaming_keys both ∙ streams in
      let l = followed (streaming_key one.0)
      (λ first. streaming_keys rest.0 then λ others. Ok (first ∷ others)) ls streamed in
      let others = followed (streaming_keys rest.0) (λ others. Ok (l.0 ∷ others)) ls l.2 in
      let all : l.0 ∷ others.0 ≡ ls = let h = others.2 in cc in
      let head = head_loads k made.0 one.0 l.0 ls others.0 made.1 told l.1 all in
      inl (on, (others.0, head, more rest.0 others.0 rest.1 others.1))

  loads : (ks : List Key) (bs : List EnabledKey) (ls : List LoadedKey)
      → build_keys rows (filter is_enabled ks) ≡ Ok bs → streaming_keys bs ≡ Ok ls → Load ks ls
  loads [] bs ls build streams =
      let none : [] ≡ bs = cc in
      let same : streaming_keys [] ≡ Ok ls = ap streaming_keys none ∙ streams in
      cc
  loads (k ∷ ks) bs ls build streams = load_by_test k ks (is_enabled k) bs ls refl build streams (loads ks)

  keys_kept : (ls : List LoadedKey) (o : _) (l : Loaded) → with_primary ls o ≡ Ok l → ls ≡ l.keys
  keys_kept ls None l e = absurd (cc)
  keys_kept ls (Some key) l e = let same : record { keys = ls; primary = key } ≡ l = cc in ap (λ x. x.keys) same

  -- so the keys of a keyset that loads
  pub keyset_loads : (ks : Keyset) (l : Loaded) → load_keyset rows ks ≡ Ok l → Load ks.key l.keys
  keyset_loads ks l e =
      let built = followed (build_keys rows (enabled ks)) _ l
      (passed (is_valid ks) InvalidKeyset (load_keys rows ks) l e) in
      let streamed = followed (streaming_keys built.0) _ l
      (passed (list_any (λ k. nat_eq k.id ks.primary_key_id) built.0) NoPrimary _ l built.2) in
      subst (Load ks.key) (keys_kept streamed.0 (key_of_id ks.primary_key_id streamed.0) l streamed.2)
      (loads ks.key built.0 streamed.0 built.1 streamed.1)

  module _ (aad S : List ℕ) where
    abbrev opened : List LoadedKey → List OpeningKey
    opened ls = map (λ k. opening_key aad k.key) ls

    same_bare : (d : _) (a b : StreamKey) → build_data rows d ≡ Ok (Streaming a) → build_data rows d ≡ Ok (Streaming b)
        → a ≡ b
    same_bare d a b p q = cc

    -- the key that loads is the one that is built
    same_key : (k : Key) (bare key : StreamKey) → build_data rows k.key_data ≡ Ok (Streaming bare) → BuildsKey rows k key
        → fronted (own_out k) bare ≡ key
    same_key k bare key p b = ap (fronted (own_out k)) (same_bare k.key_data bare b.bare p b.built) ∙ sym b.is

    at_by : (ks : List Key) (ls : List LoadedKey) (place id : ℕ) (key : StreamKey) → Load ks ls
        → IsChosenAt rows aad S ks place id key → IsChosen (opened ls) S (Some (opening_key aad key))
    at_by [] ls place id key load at = absurd at
    at_by (k ∷ ks) ls zero id key (inl load) at =
        let one = load.1.1 in
        let same = same_key k one.key key one.built at.1 in
        rw (one.first)
        (inl (subst (λ x. Begins (opening_key aad x) S) (sym same) at.2, ap (λ x. Some (opening_key aad x)) (sym same)))
    at_by (k ∷ ks) ls (suc place) id key (inl load) at =
        let one = load.1.1 in
        rw (one.first) (inr (
          λ begins. at.0 (
            fronted (own_out k) one.key,
            record { enabled = load.0; bare = one.key; built = one.built; is = refl },
            begins,
          ),
          at_by ks load.1.0 place id key load.1.2 at.1,
        ))
    at_by (k ∷ ks) ls zero id key (inr load) at = absurd (false≢true (sym load.0 ∙ at.1.enabled))
    at_by (k ∷ ks) ls (suc place) id key (inr load) at = at_by ks ls place id key load.1 at.1

    abbrev HasPlace : List Key → OpeningKey → Type 0
    HasPlace ks k =
        (place id : ℕ) × (key : StreamKey) × IsChosenAt rows aad S ks place id key × (k ≡ opening_key aad key)

    one_later : (k : Key) (ks : List Key) (o : OpeningKey) → (BeginsUnder rows aad S k → ⊥) → HasPlace ks o
        → HasPlace (k ∷ ks) o
    one_later k ks o not h = (suc h.0, h.1, h.2, (not, h.3), h.4)

    place_by : (k : Key) (ks : List Key) (bare : StreamKey) (rest : List LoadedKey) (o : OpeningKey)
        → is_enabled k ≡ true → build_data rows k.key_data ≡ Ok (Streaming bare)
        → IsChosen (opening_key aad (fronted (own_out k) bare) ∷ opened rest) S (Some o)
        → (IsChosen (opened rest) S (Some o) → HasPlace ks o) → HasPlace (k ∷ ks) o
    place_by k ks bare rest o on built (inl h) more =
        let built_is : BuildsKey rows k (fronted (own_out k) bare) =
        record { enabled = on; bare = bare; built = built; is = refl } in
        (0, k.key_id, fronted (own_out k) bare, (refl, built_is, h.0), (let e = h.1 in cc))
    place_by k ks bare rest o on built (inr h) more =
        one_later k ks o (λ b. h.0 (subst (λ x. Begins (opening_key aad x) S)
        (sym (same_key k bare b.0 built b.1)) b.2)) (more h.1)

    place_of_chosen : (ks : List Key) (ls : List LoadedKey) (o : OpeningKey) → Load ks ls
        → IsChosen (opened ls) S (Some o) → HasPlace ks o
    place_of_chosen [] ls o load h =
        let none : IsChosen [] S (Some o) = subst (λ x. IsChosen (opened x) S (Some o)) load h in
        absurd (cc)
    place_of_chosen (k ∷ ks) ls o (inl load) h =
        let one = load.1.1 in
        place_by k ks one.key load.1.0 o load.0 one.built
        (subst (λ x. IsChosen (opened x) S (Some o)) one.first h)
        (place_of_chosen ks load.1.0 o load.1.2)
    place_of_chosen (k ∷ ks) ls o (inr load) h = one_later k ks o (λ b. false≢true (sym load.0 ∙ b.1.enabled))
        (place_of_chosen ks ls o load.1 h)

    pub chosen_at : (ks : Keyset) (l : Loaded) (place id : ℕ) (key : StreamKey) → load_keyset rows ks ≡ Ok l
        → IsChosenAt rows aad S ks.key place id key → IsChosen (opening_keys aad l) S (Some (opening_key aad key))
    chosen_at ks l place id key e at = at_by ks.key l.keys place id key (keyset_loads ks l e) at

    pub place_of_key : (ks : Keyset) (l : Loaded) (o : OpeningKey) → load_keyset rows ks ≡ Ok l
        → IsChosen (opening_keys aad l) S (Some o)
        → (place id : ℕ) × (key : StreamKey) × IsChosenAt rows aad S ks.key place id key × (o ≡ opening_key aad key)
    place_of_key ks l o e h = place_of_chosen ks.key l.keys o (keyset_loads ks l e) h

pub has_its_place : HasItsPlace
has_its_place rows ks l aad S k e = (
  λ h. place_of_key rows aad S ks l k e h,
  λ h. subst (λ x. IsChosen (opening_keys aad l) S (Some x)) (sym h.4) (chosen_at rows aad S ks l h.0 h.1 h.2 e h.3),
)
