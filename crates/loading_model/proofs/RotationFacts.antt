-- What commands leave of a stream's opening.
use Rattle.std.proofs.Common.{◌≡◌, ℕ, ℤ, List, [], ◌∷◌, Bool, true, false, cond, Some, None, Err, refl, sym, ap, subst, inl, inr, ⊎_elim, arith}
use Rattle.std.specs.declared.option.Option.{Option}
use Rattle.std.specs.Prelude.{◌↔◌, All, Ok, nat_eq}
use Rattle.std.proofs.lemmas.Bool.Decides.{nat_tests}
use Rattle.std.proofs.lemmas.List.Elements.{All-head, All-tail, All-weaker}
use Rattle.tink_io.specs.declared.error.Kind.TheVariants.{IsPrimary}
use Rattle.tink_proto.specs.declared.enums.KeyStatusType.TheVariants as statuses
use Rattle.tink_proto.specs.declared.messages.keys.Keyset.{Keyset}
use Rattle.tink_proto.specs.Messages.{keyset}
use Rattle.wire_format.proofs.ReadingLaws.{written_again}
use Rattle.keyset_model.specs.Operations as commands
use Rattle.keyset_model.specs.Operations.{Operation, Maker, Managed, after, after_all, edit, keyset_after}
use Rattle.keyset_model.specs.Edits.{as_destroyed, edited_if_there, status_of, with_status, without_first}
use Rattle.keyset_model.specs.Spared.{Spares}
use Rattle.keyset_model.proofs.Steps.{Becomes, step}
use Rattle.stream_model.specs.Key.{StreamKey}
use Rattle.stream_model.specs.Opening.{OpeningKey, IsChosen, opening_key}
use Rattle.stream_model.proofs.OpeningFacts.{IsChosen-unique}
use Rattle.loading_model.specs.Loading.{Loaded, LoadingRow, load_decoded, load_keyset, opening_keys}
use Rattle.loading_model.specs.Rotation.{ActsElsewhere, EditedLoads, EnablesNone, IsChosenAt, AllLeavePlace, LeavesKeys, LeavesPlace, OpeningStays, OpensTo, StaysChosen, StaysChosenByAll, StreamsOutlive, StreamsOutliveById, StreamsStay, place_after, place_after_all, place_of, place_without}
use Rattle.loading_model.proofs.ChoosingFacts.{chosen_at, place_of_key}
use Rattle.loading_model.proofs.PlaceFacts.{at_before, at_enabled, at_with_other, at_without, destroyed_off, disabled_off, none_taken, of_place}

pub edited_loads : EditedLoads
edited_loads rows makes m cs fits = ap (load_decoded rows) (written_again keyset (after_all makes m cs).keyset fits)

-- ---- one command

other_id : (p id : ℕ) → nat_eq p id ≡ false → p ≡ id → ⊥
other_id p id apart same = absurd (grind (arith, nat_tests))

elsewhere : (ks : Keyset) (place id : ℕ) → nat_eq ks.primary_key_id id ≡ false → ActsElsewhere ks place id
    → place_of id ks.key ≡ Some place → ⊥
elsewhere ks place id apart (inl same) = absurd (other_id ks.primary_key_id id apart same)
elsewhere ks place id apart (inr other) = other

module _ (rows : List LoadingRow) (aad S : List ℕ) where
  abbrev At : Keyset → ℕ → ℕ → StreamKey → Type 0
  At ks place chosen key = IsChosenAt rows aad S ks.key place chosen key

  becomes_at : (makes : Maker) (ks new : Keyset) (c : Operation) (place chosen : ℕ) (key : StreamKey)
      → Becomes makes ks c new → LeavesPlace ks place c → At ks place chosen key
      → ((id : ℕ) → c ≡ commands.Delete id → ⊥) → At new place chosen key
  becomes_at makes ks new (commands.Add kt) place chosen key h leaves at not =
      subst (λ x. At x place chosen key) (sym h.is) (at_before rows aad S ks.key _ place chosen key at)
  becomes_at makes ks new (commands.Rotate kt) place chosen key h leaves at not =
      subst (λ x. At x place chosen key) (sym h.is) (at_before rows aad S ks.key _ place chosen key at)
  becomes_at makes ks new (commands.Enable id) place chosen key h leaves at not =
      subst (λ x. At x place chosen key) (sym h.3) (at_enabled rows aad S id ks.key place chosen key leaves at)
  becomes_at makes ks new (commands.Disable id) place chosen key h leaves at not =
      subst (λ x. At x place chosen key) (sym h.1.3)
      (at_with_other rows aad S id (with_status statuses.Disabled) (disabled_off rows aad S) ks.key place chosen key
      (elsewhere ks place id h.0 leaves) at)
  becomes_at makes ks new (commands.Destroy id) place chosen key h leaves at not =
      subst (λ x. At x place chosen key) (sym h.1.3)
      (at_with_other rows aad S id as_destroyed (destroyed_off rows aad S) ks.key place chosen key
      (elsewhere ks place id h.0 leaves) at)
  becomes_at makes ks new (commands.Delete id) place chosen key h leaves at not = absurd (not id refl)
  becomes_at makes ks new (commands.SetPrimary id) place chosen key h leaves at not =
      subst (λ x. At x place chosen key) (sym h.1) at

  deleted_at : (ks : Keyset) (id place chosen : ℕ) (key : StreamKey) (refused : Bool) (o : Option ℤ)
      → nat_eq ks.primary_key_id id ≡ refused → status_of id ks.key ≡ o
      → ActsElsewhere ks place id → At ks place chosen key
      → At (keyset_after ks (cond refused (Err IsPrimary) (edited_if_there ks (without_first id ks.key) o)))
      (cond refused place (place_without (place_of id ks.key) place)) chosen key
  deleted_at ks id place chosen key true o is found leaves at = at
  deleted_at ks id place chosen key false None is found leaves at =
      subst (λ (p : Option ℕ). At ks (place_without p place) chosen key) (sym (none_taken id ks.key found)) at
  deleted_at ks id place chosen key false (Some s) is found leaves at =
      at_without rows aad S id ks.key place chosen key (elsewhere ks place id is leaves) at

  kept_or : (makes : Maker) (m : Managed) (c : Operation) (place chosen : ℕ) (key : StreamKey)
      → At m.keyset place chosen key → LeavesPlace m.keyset place c → ((id : ℕ) → c ≡ commands.Delete id → ⊥)
      → At (after makes m c).keyset place chosen key
  kept_or makes m c place chosen key at leaves not =
      ⊎_elim (λ same. subst (λ x. At x place chosen key) (sym same) at)
      (λ becomes.
      becomes_at makes m.keyset (after makes m c).keyset c place chosen key becomes leaves at not)
      (step makes m.keyset c m.draws)

  one_at : (makes : Maker) (m : Managed) (c : Operation) (place chosen : ℕ) (key : StreamKey)
      → At m.keyset place chosen key → LeavesPlace m.keyset place c
      → At (after makes m c).keyset (place_after m.keyset place c) chosen key
  one_at makes m (commands.Add kt) place chosen key at leaves =
      kept_or makes m (commands.Add kt) place chosen key at leaves (λ id e. absurd (cc))
  one_at makes m (commands.Rotate kt) place chosen key at leaves =
      kept_or makes m (commands.Rotate kt) place chosen key at leaves (λ id e. absurd (cc))
  one_at makes m (commands.Enable n) place chosen key at leaves =
      kept_or makes m (commands.Enable n) place chosen key at leaves (λ id e. absurd (cc))
  one_at makes m (commands.Disable n) place chosen key at leaves =
      kept_or makes m (commands.Disable n) place chosen key at leaves (λ id e. absurd (cc))
  one_at makes m (commands.Destroy n) place chosen key at leaves =
      kept_or makes m (commands.Destroy n) place chosen key at leaves (λ id e. absurd (cc))
  one_at makes m (commands.Delete n) place chosen key at leaves =
      deleted_at m.keyset n place chosen key (nat_eq m.keyset.primary_key_id n)
      (status_of n m.keyset.key) refl refl leaves at
  one_at makes m (commands.SetPrimary n) place chosen key at leaves =
      kept_or makes m (commands.SetPrimary n) place chosen key at leaves (λ id e. absurd (cc))

  all_at : (makes : Maker) (m : Managed) (cs : List Operation) (place chosen : ℕ) (key : StreamKey)
      → At m.keyset place chosen key → AllLeavePlace makes m place cs
      → At (after_all makes m cs).keyset (place_after_all makes m place cs) chosen key
  all_at makes m [] place chosen key at leave = at
  all_at makes m (c ∷ cs) place chosen key at leave =
      all_at makes (after makes m c) cs (place_after m.keyset place c) chosen key
      (one_at makes m c place chosen key at leave.0) leave.1

  -- ---- commands that spare the id of the chosen key

  not_there : (ks : Keyset) (n place chosen : ℕ) (key : StreamKey) → At ks place chosen key → (n ≡ chosen → ⊥)
      → ActsElsewhere ks place n
  not_there ks n place chosen key at other = inr (λ e. other (of_place rows aad S n ks.key place chosen key e at))

  leaves_by_id : (ks : Keyset) (c : Operation) (place chosen : ℕ) (key : StreamKey) → At ks place chosen key
      → Spares chosen c → EnablesNone c → LeavesPlace ks place c
  leaves_by_id ks (commands.Add kt) place chosen key at spares none = tt
  leaves_by_id ks (commands.Rotate kt) place chosen key at spares none = tt
  leaves_by_id ks (commands.Enable n) place chosen key at spares none = absurd none
  leaves_by_id ks (commands.Disable n) place chosen key at spares none = not_there ks n place chosen key at spares
  leaves_by_id ks (commands.Destroy n) place chosen key at spares none = not_there ks n place chosen key at spares
  leaves_by_id ks (commands.Delete n) place chosen key at spares none = not_there ks n place chosen key at spares
  leaves_by_id ks (commands.SetPrimary n) place chosen key at spares none = tt

  leave_by_id : (makes : Maker) (m : Managed) (cs : List Operation) (place chosen : ℕ) (key : StreamKey)
      → At m.keyset place chosen key → All (λ c. Spares chosen c × EnablesNone c) cs → AllLeavePlace makes m place cs
  leave_by_id makes m [] place chosen key at spared = tt
  leave_by_id makes m (c ∷ cs) place chosen key at spared =
      let one = All-head (λ x. Spares chosen x × EnablesNone x) c cs spared in
      let leaves = leaves_by_id m.keyset c place chosen key at one.0 one.1 in
      let rest = All-tail (λ x. Spares chosen x × EnablesNone x) c cs spared in
      let moved = one_at makes m c place chosen key at leaves in
      (leaves, leave_by_id makes (after makes m c) cs (place_after m.keyset place c) chosen key moved rest)

  -- ---- what the loaded keys open

  opens_too : (l later : Loaded) (k : OpeningKey) (text : List ℕ) → IsChosen (opening_keys aad l) S (Some k)
      → IsChosen (opening_keys aad later) S (Some k) → OpensTo l aad S text → OpensTo later aad S text
  opens_too l later k text before behind o =
      let both : Some o.key ≡ Some k = IsChosen-unique (opening_keys aad l) S (Some o.key) (Some k) o.chosen before in
      let same : k ≡ o.key = cc in
      let chosen = subst (λ x. IsChosen (opening_keys aad later) S (Some x)) same behind in
      record { key = o.key; chosen = chosen; texts = o.texts; stream = o.stream; whole = o.whole }

  opens_same : (ks new : Keyset) (l later : Loaded) (place moved chosen : ℕ) (key : StreamKey)
      → load_keyset rows ks ≡ Ok l → load_keyset rows new ≡ Ok later → At ks place chosen key → At new moved chosen key
      → (text : List ℕ) → OpensTo l aad S text ↔ OpensTo later aad S text
  opens_same ks new l later place moved chosen key loads loads_later at at_later text =
      let before = chosen_at rows aad S ks l place chosen key loads at in
      let behind = chosen_at rows aad S new later moved chosen key loads_later at_later in
      let k = opening_key aad key in
      (opens_too l later k text before behind, opens_too later l k text behind before)

-- ---- the laws

pub stays_chosen : StaysChosen
stays_chosen rows makes m c aad S place id key at leaves = one_at rows aad S makes m c place id key at leaves

pub opening_stays : OpeningStays
opening_stays rows makes m c l later aad S place id key at leaves loads loads_later text =
    opens_same rows aad S m.keyset (after makes m c).keyset l later place
    (place_after m.keyset place c) id key loads loads_later at
    (one_at rows aad S makes m c place id key at leaves) text

pub stays_chosen_by_all : StaysChosenByAll
stays_chosen_by_all rows makes m cs aad S place id key at leave = all_at rows aad S makes m cs place id key at leave

pub streams_outlive : StreamsOutlive
streams_outlive rows makes m cs l later aad S place id key at leave loads loads_later text =
    opens_same rows aad S m.keyset (after_all makes m cs).keyset l later place
    (place_after_all makes m place cs) id key loads loads_later at
    (all_at rows aad S makes m cs place id key at leave) text

-- ---- by the id

pub streams_outlive_by_id : StreamsOutliveById
streams_outlive_by_id rows makes m cs l later aad S place id key at spared loads loads_later text =
    streams_outlive rows makes m cs l later aad S place id key at
    (leave_by_id rows aad S makes m cs place id key at spared) loads loads_later text

leaves_some : (c : Operation) (id : ℕ) → LeavesKeys c → Spares id c × EnablesNone c
leaves_some (commands.Add kt) id h = (tt, tt)
leaves_some (commands.Rotate kt) id h = (tt, tt)
leaves_some (commands.Enable n) id h = absurd h
leaves_some (commands.Disable n) id h = absurd h
leaves_some (commands.Destroy n) id h = absurd h
leaves_some (commands.Delete n) id h = absurd h
leaves_some (commands.SetPrimary n) id h = (tt, tt)

pub streams_stay : StreamsStay
streams_stay rows makes m cs l later aad S text leave loads loads_later o =
    let at = place_of_key rows aad S m.keyset l o.key loads o.chosen in
    (streams_outlive_by_id rows makes m cs l later aad S at.0 at.1 at.2 at.3
    (All-weaker LeavesKeys (λ c. Spares at.1 c × EnablesNone c)
    (λ c h. leaves_some c at.1 h) cs leave) loads loads_later text).0 o
