-- What a command may make of a keyset, and that it makes nothing else.
use Rattle.std.proofs.Common.{◌≡◌, ◌⊎◌, ℕ, ℤ, List, [], ◌∷◌, Bool, true, false, Option, Some, None, Result, Ok, Err, cond, refl, sym, ap, subst, inl, inr, ⊎_elim}
use Rattle.std.specs.Prelude.{nat_eq}
use Rattle.std.specs.Ordering.{int_eq}
use Rattle.std.proofs.lemmas.Bool.Decides.{Decides-int_eq}
use Rattle.tink_io.specs.declared.error.Kind.{Kind}
use Rattle.tink_io.specs.declared.error.Kind.TheVariants.{IsPrimary, NotEnabled, WrongStatus}
use Rattle.tink_proto.specs.declared.enums.KeyStatusType.TheVariants.{Enabled, Disabled}
use Rattle.tink_proto.specs.declared.messages.keys.Key.{Key}
use Rattle.tink_proto.specs.declared.messages.keys.KeyData.{KeyData}
use Rattle.tink_proto.specs.declared.messages.keys.KeyTemplate.{KeyTemplate}
use Rattle.tink_proto.specs.declared.messages.keys.Keyset.{Keyset}
use Rattle.tink_proto.specs.Enums.{status_number}
use Rattle.keyset_model.specs.Adding.{IsFresh, added_by_data, added_by_id, fresh_id, keyset_reply, new_key, with_key}
use Rattle.keyset_model.specs.Operations as commands
use Rattle.keyset_model.specs.Operations.{Maker, Operation, Managed, after, after_all, edit, keyset_after}
use Rattle.keyset_model.specs.Edits.{as_destroyed, edited_if_there, edited_where, is_known_status, is_live, primary_if_enabled, status_of, with_first, with_status, without_first}
use Rattle.keyset_model.proofs.FreshIds.{fresh_if_not_taken, given_id}

-- a new key by a template, with an id that no key had
pub record HasNew (makes : Maker) (ks : Keyset) (kt : KeyTemplate) (as_primary : Bool) (new : Keyset) : Type 0 where
  pub draws : List ℕ
  pub key_data : KeyData
  pub made : (makes kt draws).0 ≡ Ok key_data
  pub id : ℕ
  pub fresh : IsFresh ks.key id
  pub is : new ≡ with_key ks as_primary (new_key kt key_data id)

-- the first key of the id is changed, where its status passes the test
abbrev pub HasChanged : Keyset → (ℤ → Bool) → ℕ → (Key → Key) → Keyset → Type 0
HasChanged ks test id change new = (s : ℤ) × (status_of id ks.key ≡ Some s) × (test s ≡ true) × (new ≡ record ks { key = with_first id change ks.key })

-- the keyset after a command that isn't refused
abbrev pub Becomes : Maker → Keyset → Operation → Keyset → Type 0
Becomes makes ks (commands.Add kt) new = HasNew makes ks kt false new
Becomes makes ks (commands.Rotate kt) new = HasNew makes ks kt true new
Becomes makes ks (commands.Enable id) new = HasChanged ks is_live id (with_status Enabled) new
Becomes makes ks (commands.Disable id) new = (nat_eq ks.primary_key_id id ≡ false) × HasChanged ks is_live id (with_status Disabled) new
Becomes makes ks (commands.Destroy id) new = (nat_eq ks.primary_key_id id ≡ false) × HasChanged ks is_known_status id as_destroyed new
Becomes makes ks (commands.Delete id) new = (nat_eq ks.primary_key_id id ≡ false) × (new ≡ record ks { key = without_first id ks.key })
Becomes makes ks (commands.SetPrimary id) new = (status_of id ks.key ≡ Some (status_number Enabled)) × (new ≡ record ks { primary_key_id = id })

tested : (b : Bool) (ks new : Keyset) (k : Kind) → (keyset_after ks (cond b (Ok new) (Err k)) ≡ ks) ⊎ ((b ≡ true) × (keyset_after ks (cond b (Ok new) (Err k)) ≡ new))
tested true ks new k = inr (refl, refl)
tested false ks new k = inl refl

where_step : (test : ℤ → Bool) (ks : Keyset) (keys : List Key) (o : Option ℤ) → (keyset_after ks (edited_where test ks keys o) ≡ ks) ⊎ ((s : ℤ) × (o ≡ Some s) × (test s ≡ true) × (keyset_after ks (edited_where test ks keys o) ≡ record ks { key = keys }))
where_step test ks keys None = inl refl
where_step test ks keys (Some s) = ⊎_elim inl (λ t. inr (s, refl, t.0, t.1)) (tested (test s) ks (record ks { key = keys }) (WrongStatus s))

there_step : (ks : Keyset) (keys : List Key) (o : Option ℤ) → (keyset_after ks (edited_if_there ks keys o) ≡ ks) ⊎ (keyset_after ks (edited_if_there ks keys o) ≡ record ks { key = keys })
there_step ks keys None = inl refl
there_step ks keys (Some s) = inr refl

primary_step : (ks : Keyset) (id : ℕ) (o : Option ℤ) → (keyset_after ks (primary_if_enabled ks id o) ≡ ks) ⊎ ((o ≡ Some (status_number Enabled)) × (keyset_after ks (primary_if_enabled ks id o) ≡ record ks { primary_key_id = id }))
primary_step ks id None = inl refl
primary_step ks id (Some s) =
    ⊎_elim inl (λ t. inr (ap Some ((Decides-int_eq s (status_number Enabled)).0 t.0), t.1)) (tested (int_eq s (status_number Enabled)) ks (record ks { primary_key_id = id }) NotEnabled)

unless_step : (b : Bool) (ks : Keyset) (r : Result Keyset Kind) (Q : Keyset → Type 0) → (keyset_after ks r ≡ ks) ⊎ Q (keyset_after ks r)
    → (keyset_after ks (cond b (Err IsPrimary) r) ≡ ks) ⊎ ((b ≡ false) × Q (keyset_after ks (cond b (Err IsPrimary) r)))
unless_step true ks r Q step = inl refl
unless_step false ks r Q step = ⊎_elim inl (λ q. inr (refl, q)) step

by_id : (makes : Maker) (ks : Keyset) (kt : KeyTemplate) (as_primary : Bool) (draws : List ℕ) (d : KeyData) → (makes kt draws).0 ≡ Ok d → (r : Result ℕ Kind) (left : List ℕ) → ((id : ℕ) → r ≡ Ok id → IsFresh ks.key id)
    → (keyset_after ks (keyset_reply (added_by_id ks kt as_primary d r left)).0 ≡ ks) ⊎ HasNew makes ks kt as_primary (keyset_after ks (keyset_reply (added_by_id ks kt as_primary d r left)).0)
by_id makes ks kt as_primary draws d made (Ok id) left fresh = inr (record { draws = draws; key_data = d; made = made; id = id; fresh = fresh id refl; is = refl })
by_id makes ks kt as_primary draws d made (Err kind) left fresh = inl refl

by_data : (makes : Maker) (ks : Keyset) (kt : KeyTemplate) (as_primary : Bool) (draws : List ℕ) (r : Result KeyData Kind) → (makes kt draws).0 ≡ r → (left : List ℕ)
    → (keyset_after ks (keyset_reply (added_by_data ks kt as_primary r left)).0 ≡ ks) ⊎ HasNew makes ks kt as_primary (keyset_after ks (keyset_reply (added_by_data ks kt as_primary r left)).0)
by_data makes ks kt as_primary draws (Err kind) made left = inl refl
by_data makes ks kt as_primary draws (Ok d) made left =
    by_id makes ks kt as_primary draws d made (fresh_id ks.key 128 left).0 (fresh_id ks.key 128 left).1 (λ id e. fresh_if_not_taken ks.key id (given_id ks.key 128 left id e))

-- a command leaves the keyset, or makes this of it
pub step : (makes : Maker) (ks : Keyset) (c : Operation) (draws : List ℕ) → (keyset_after ks (edit makes ks c draws).0 ≡ ks) ⊎ Becomes makes ks c (keyset_after ks (edit makes ks c draws).0)
step makes ks (commands.Add kt) draws = by_data makes ks kt false draws (makes kt draws).0 refl (makes kt draws).1
step makes ks (commands.Rotate kt) draws = by_data makes ks kt true draws (makes kt draws).0 refl (makes kt draws).1
step makes ks (commands.Enable id) draws = where_step is_live ks (with_first id (with_status Enabled) ks.key) (status_of id ks.key)
step makes ks (commands.Disable id) draws =
    unless_step (nat_eq ks.primary_key_id id) ks _ (HasChanged ks is_live id (with_status Disabled)) (where_step is_live ks (with_first id (with_status Disabled) ks.key) (status_of id ks.key))
step makes ks (commands.Destroy id) draws =
    unless_step (nat_eq ks.primary_key_id id) ks _ (HasChanged ks is_known_status id as_destroyed) (where_step is_known_status ks (with_first id as_destroyed ks.key) (status_of id ks.key))
step makes ks (commands.Delete id) draws =
    unless_step (nat_eq ks.primary_key_id id) ks _ (λ new. new ≡ record ks { key = without_first id ks.key }) (there_step ks (without_first id ks.key) (status_of id ks.key))
step makes ks (commands.SetPrimary id) draws = primary_step ks id (status_of id ks.key)

-- what each command keeps, all keep
pub kept_by_all : (P : Keyset → Type 0) (makes : Maker) → ((ks new : Keyset) (c : Operation) → P ks → Becomes makes ks c new → P new)
    → (m : Managed) (cs : List Operation) → P m.keyset → P (after_all makes m cs).keyset
kept_by_all P makes each m [] p = p
kept_by_all P makes each m (c ∷ cs) p =
    kept_by_all P makes each (after makes m c) cs
    (⊎_elim (λ same. subst P (sym same) p) (λ becomes. each m.keyset (keyset_after m.keyset (edit makes m.keyset c m.draws).0) c p becomes) (step makes m.keyset c m.draws))
