-- An enabled key that all commands spare stays enabled.
use Rattle.std.proofs.Common.{◌≡◌, ◌⊎◌, ℕ, ℤ, List, [], ◌∷◌, Bool, true, false, cond, refl, sym, ◌∙◌, ap, ap₂, subst, ⊎_elim, inl, inr, arith}
use Rattle.std.specs.Prelude.{All, Any, Contains, filter}
use Rattle.std.proofs.lemmas.Bool.{false≢true}
use Rattle.std.proofs.lemmas.Bool.Decides.{Decides-int_eq}
use Rattle.std.proofs.lemmas.List.Elements.{All-contains, All-contains_itself, All-filter, filter_passes, Contains-append_left, Contains-append_right, Contains-append_cases, Contains-push_cases}
use Rattle.tink_proto.specs.declared.enums.KeyStatusType.TheVariants.{Enabled}
use Rattle.tink_proto.specs.declared.messages.keys.Key.{Key}
use Rattle.tink_proto.specs.Enums.{status_number}
use Rattle.keyset_model.specs.Operations as commands
use Rattle.keyset_model.specs.Operations.{Operation, Managed, Maker, after_all}
use Rattle.keyset_model.specs.Keys.{enabled, is_enabled}
use Rattle.keyset_model.specs.Laws.{SetsStatus, IsKept}
use Rattle.keyset_model.proofs.KeysLaw.{keeps_keys}
use Rattle.keyset_model.specs.Spared.{KeepsEnabled, Spares}

-- ---- elements of a filtered list

module _ {X : Type 0} where
  in_none : (x : X) → Contains [] x → ⊥
  in_none x h = absurd (omega arith)

  in_one : (y x : X) → Contains (y ∷ []) x → y ≡ x
  in_one y x h = ⊎_elim (λ none. absurd (in_none x none)) (λ e. e) (Contains-push_cases [] y x h)

  put : (b : Bool) (y : X) (rest : List X) (x : X) → (y ≡ x → b ≡ true) → Contains (y ∷ []) x ⊎ Contains rest x → Contains (cond b (y ∷ rest) rest) x
  put true y rest x passes (inl h) = Contains-append_left (y ∷ []) rest x h
  put true y rest x passes (inr h) = Contains-append_right (y ∷ []) rest x h
  put false y rest x passes (inl h) = absurd (false≢true (passes (in_one y x h)))
  put false y rest x passes (inr h) = h

  of_filter : (p : X → Bool) (xs : List X) (x : X) → Contains xs x → p x ≡ true → Contains (filter p xs) x
  of_filter p [] x h t = absurd (in_none x h)
  of_filter p (y ∷ xs) x h t =
      put (p y) y (filter p xs) x (λ e. ap p e ∙ t)
      (⊎_elim (λ one. inl one) (λ later. inr (of_filter p xs x later t)) (Contains-append_cases (y ∷ []) xs x h))

-- ---- one key

key_eq : (x y : Key) → x.key_data ≡ y.key_data → x.status ≡ y.status → x.key_id ≡ y.key_id → x.output_prefix_type ≡ y.output_prefix_type → x ≡ y
key_eq x y d s i p =
    ap₂ (λ kd st. record x { key_data = kd; status = st }) d s ∙ ap₂ (λ id pt. record y { key_id = id; output_prefix_type = pt }) i p

-- a status that a sparing command gives is that of an enabled key
gives_enabled : (id : ℕ) (status : ℤ) (c : Operation) → Spares id c → SetsStatus id status c → status ≡ status_number Enabled
gives_enabled id status (commands.Add _) spares gives = absurd gives
gives_enabled id status (commands.Rotate _) spares gives = absurd gives
gives_enabled id status (commands.Enable n) spares gives = gives.1
gives_enabled id status (commands.Disable n) spares gives = absurd (spares gives.0)
gives_enabled id status (commands.Destroy n) spares gives = absurd (spares gives.0)
gives_enabled id status (commands.Delete _) spares gives = absurd gives
gives_enabled id status (commands.SetPrimary _) spares gives = absurd gives

module _ (cs : List Operation) (k : Key) (on : is_enabled k ≡ true) (spared : All (Spares k.key_id) cs) where
  is_on : k.status ≡ status_number Enabled
  is_on = (Decides-int_eq k.status (status_number Enabled)).0 on

  same_status : (now : Key) → (now.status ≡ k.status) ⊎ Any (SetsStatus k.key_id now.status) cs → now.status ≡ k.status
  same_status now (inl e) = e
  same_status now (inr h) =
      gives_enabled k.key_id now.status h.1 (All-contains (Spares k.key_id) cs h.1 spared (h.0, h.2, h.3)) h.4 ∙ sym is_on

  same : (now : Key) → IsKept cs k now → now ≡ k
  same now kept =
      key_eq now k
      (⊎_elim (λ e. e) (λ gone. absurd (All-contains (Spares k.key_id) cs (commands.Destroy k.key_id) spared gone.1 refl)) kept.key_data)
      (same_status now kept.status) kept.id kept.prefix

  still : (keys : List Key) → Any (IsKept cs k) keys → Contains keys k
  still keys h = subst (Contains keys) (same h.1 h.4) (h.0, h.2, h.3)

pub keeps_enabled : KeepsEnabled
keeps_enabled makes m cs k there spared =
    let on : is_enabled k ≡ true = All-contains (λ x. is_enabled x ≡ true) (enabled m.keyset) k (filter_passes is_enabled m.keyset.key) there in
    let was : Contains m.keyset.key k = All-contains (Contains m.keyset.key) (enabled m.keyset) k (All-filter is_enabled (Contains m.keyset.key) m.keyset.key (All-contains_itself m.keyset.key)) there in
    let keys = (after_all makes m cs).keyset.key in
    ⊎_elim
    (λ deleted. absurd (All-contains (Spares k.key_id) cs (commands.Delete k.key_id) spared deleted refl))
    (λ kept. of_filter is_enabled keys k (still cs k on spared keys kept) on)
    (keeps_keys makes m cs k was)
