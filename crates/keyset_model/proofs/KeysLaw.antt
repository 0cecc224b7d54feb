-- No key is lost but by a command that deletes its id.
use Rattle.std.proofs.Common.{◌≡◌, ◌⊎◌, ℕ, zero, suc, ◌<◌, ℤ, pos, List, [], ◌∷◌, length, Bool, true, false, Option, Some, cond, refl, sym, ap, subst, inl, inr, ⊎_elim, arith}
use Rattle.std.specs.Prelude.{Any, Contains, find}
use Rattle.std.specs.List.{slice_index_or}
use Rattle.std.specs.Option.{option_map}
use Rattle.std.proofs.lemmas.Bool.Decides.{nat_tests}
use Rattle.std.proofs.lemmas.List.Elements.{Contains-append_left}
use Rattle.tink_proto.specs.declared.enums.KeyStatusType.TheVariants.{Enabled, Disabled, Destroyed}
use Rattle.tink_proto.specs.declared.messages.keys.Key.{Key}
use Rattle.tink_proto.specs.declared.messages.keys.Keyset.{Keyset}
use Rattle.tink_proto.specs.Enums.{status_number}
use Rattle.keyset_model.specs.Operations as commands
use Rattle.keyset_model.specs.Operations.{Maker, Operation, Managed, after, after_all, edit, keyset_after}
use Rattle.keyset_model.specs.Edits.{as_destroyed, is_live, is_known_status, status_of, with_first, with_status, without_first}
use Rattle.keyset_model.specs.Keys.{has_id}
use Rattle.keyset_model.specs.Laws.{SetsStatus, IsKept, KeepsKeys}
use Rattle.keyset_model.proofs.Steps.{Becomes, HasChanged, step}

-- ---- elements of a list, from its head on

module _ {X : Type 0} where
  any_head : (P : X → Type 0) (x : X) (xs : List X) → P x → Any P (x ∷ xs)
  any_head P x xs p = (0, x, omega arith, refl, p)

  any_tail : (P : X → Type 0) (x : X) (xs : List X) → Any P xs → Any P (x ∷ xs)
  any_tail P x xs h = (suc h.0, h.1, omega arith, h.3, h.4)

  any_weaker : (P Q : X → Type 0) → ((x : X) → P x → Q x) → (xs : List X) → Any P xs → Any Q xs
  any_weaker P Q each xs h = (h.0, h.1, h.2, h.3, each h.1 h.4)

  in_head : (x : X) (xs : List X) → Contains (x ∷ xs) x
  in_head x xs = (0, omega arith, refl)

  in_tail : (x y : X) (xs : List X) → Contains xs y → Contains (x ∷ xs) y
  in_tail x y xs h = (suc h.0, omega arith, h.2)

  at_cases : (x y : X) (xs : List X) (k : ℕ) → k < length (x ∷ xs) → slice_index_or (x ∷ xs) k y ≡ y → (x ≡ y) ⊎ Contains xs y
  at_cases x y xs zero within at = inl at
  at_cases x y xs (suc k) within at = inr (k, omega arith, at)

  in_cases : (x y : X) (xs : List X) → Contains (x ∷ xs) y → (x ≡ y) ⊎ Contains xs y
  in_cases x y xs h = at_cases x y xs h.0 h.1 h.2

  in_none : (y : X) → Contains [] y → ⊥
  in_none y h = absurd (omega arith)

-- ---- one command

-- a key as a command changes it
abbrev Changes : Operation → Key → Key → Type 0
Changes (commands.Add _) k now = ⊥
Changes (commands.Rotate _) k now = ⊥
Changes (commands.Enable n) k now = (n ≡ k.key_id) × (is_live k.status ≡ true) × (now ≡ with_status Enabled k)
Changes (commands.Disable n) k now = (n ≡ k.key_id) × (is_live k.status ≡ true) × (now ≡ with_status Disabled k)
Changes (commands.Destroy n) k now = (n ≡ k.key_id) × (now ≡ as_destroyed k)
Changes (commands.Delete _) k now = ⊥
Changes (commands.SetPrimary _) k now = ⊥

-- a key as it was, or as a command changes it
abbrev Goes : Operation → Key → Key → Type 0
Goes c k now = (now ≡ k) ⊎ Changes c k now

-- a key as it was, or the changed one of a status
abbrev IsFirst : ℕ → ℤ → (Key → Key) → Key → Key → Type 0
IsFirst id s change k now = (now ≡ k) ⊎ ((id ≡ k.key_id) × (k.status ≡ s) × (now ≡ change k))

of_id : (id : ℕ) (k : Key) → has_id id k ≡ true → id ≡ k.key_id
of_id id k e = grind (arith, nat_tests)

there_still : (P : Key → Type 0) (keys : List Key) (k : Key) → Contains keys k → P k → Any P keys
there_still P keys k there p = (there.0, k, there.1, there.2, p)

changed_by : (here : Bool) (id : ℕ) (s : ℤ) (change : Key → Key) (x k : Key) (ks after : List Key) (found : Option Key) → has_id id x ≡ here
    → option_map (λ y. y.status) (cond here (Some x) found) ≡ Some s → Contains (x ∷ ks) k
    → (option_map (λ y. y.status) found ≡ Some s → Contains ks k → Any (IsFirst id s change k) after)
    → Any (IsFirst id s change k) (cond here (change x ∷ ks) (x ∷ after))
changed_by true id s change x k ks after found is e there later =
    let at : x.status ≡ s = cc in
    ⊎_elim
    (λ same. subst (λ y. Any (IsFirst id s change y) (change x ∷ ks)) same (any_head (IsFirst id s change x) (change x) ks (inr (of_id id x is, at, refl))))
    (λ behind. any_tail (IsFirst id s change k) (change x) ks (there_still (IsFirst id s change k) ks k behind (inl refl)))
    (in_cases x k ks there)
changed_by false id s change x k ks after found is e there later =
    ⊎_elim
    (λ same. any_head (IsFirst id s change k) x after (inl same))
    (λ behind. any_tail (IsFirst id s change k) x after (later e behind))
    (in_cases x k ks there)

first_changed : (id : ℕ) (s : ℤ) (change : Key → Key) (keys : List Key) (k : Key) → status_of id keys ≡ Some s → Contains keys k → Any (IsFirst id s change k) (with_first id change keys)
first_changed id s change [] k e there = absurd (in_none k there)
first_changed id s change (x ∷ ks) k e there =
    changed_by (has_id id x) id s change x k ks (with_first id change ks) (find (has_id id) ks) refl e there (λ q behind. first_changed id s change ks k q behind)

left_by : (here : Bool) (x k : Key) (ks after : List Key) → Contains (x ∷ ks) k → (here ≡ true → x ≡ k → ⊥) → (Contains ks k → Contains after k) → Contains (cond here ks (x ∷ after)) k
left_by true x k ks after there other later = ⊎_elim (λ same. absurd (other refl same)) (λ behind. behind) (in_cases x k ks there)
left_by false x k ks after there other later = ⊎_elim (λ same. subst (Contains (x ∷ after)) same (in_head x after)) (λ behind. in_tail x k after (later behind)) (in_cases x k ks there)

differs : (id : ℕ) (x k : Key) → has_id id k ≡ false → has_id id x ≡ true → x ≡ k → ⊥
differs id x k other has same = let lacks : has_id id x ≡ false = subst (λ y. has_id id y ≡ false) (sym same) other in absurd (cc)

left_there : (id : ℕ) (keys : List Key) (k : Key) → has_id id k ≡ false → Contains keys k → Contains (without_first id keys) k
left_there id [] k other there = there
left_there id (x ∷ ks) k other there = left_by (has_id id x) x k ks (without_first id ks) there (differs id x k other) (left_there id ks k other)

changed_by_command : (ks new : Keyset) (test : ℤ → Bool) (id : ℕ) (change : Key → Key) (c : Operation) (k : Key) → Contains ks.key k → HasChanged ks test id change new
    → ((now : Key) → (id ≡ k.key_id) × (test k.status ≡ true) × (now ≡ change k) → Changes c k now) → Any (Goes c k) new.key
changed_by_command ks new test id change c k there h each =
    subst (λ (n : Keyset). Any (Goes c k) n.key) (sym h.3)
    (any_weaker (IsFirst id h.0 change k) (Goes c k)
    (λ now. ⊎_elim inl (λ q. inr (each now (q.0, subst (λ t. test t ≡ true) (sym q.1) h.2, q.2))))
    (with_first id change ks.key) (first_changed id h.0 change ks.key k h.1 there))

without_command : (ks new : Keyset) (id : ℕ) (k : Key) (has : Bool) → has_id id k ≡ has → Contains ks.key k → new ≡ record ks { key = without_first id ks.key }
    → (commands.Delete id ≡ commands.Delete k.key_id) ⊎ Any (Goes (commands.Delete id) k) new.key
without_command ks new id k true is there h = inl (ap commands.Delete (of_id id k is))
without_command ks new id k false is there h =
    inr (subst (λ (n : Keyset). Any (Goes (commands.Delete id) k) n.key) (sym h) (there_still (Goes (commands.Delete id) k) (without_first id ks.key) k (left_there id ks.key k is there) (inl refl)))

kept_one : (makes : Maker) (ks new : Keyset) (c : Operation) (k : Key) → Contains ks.key k → Becomes makes ks c new → (c ≡ commands.Delete k.key_id) ⊎ Any (Goes c k) new.key
kept_one makes ks new (commands.Add kt) k there h = inr (rw (h.is) (there_still (Goes (commands.Add kt) k) _ k (Contains-append_left ks.key _ k there) (inl refl)))
kept_one makes ks new (commands.Rotate kt) k there h = inr (rw (h.is) (there_still (Goes (commands.Rotate kt) k) _ k (Contains-append_left ks.key _ k there) (inl refl)))
kept_one makes ks new (commands.Enable id) k there h = inr (changed_by_command ks new is_live id (with_status Enabled) (commands.Enable id) k there h (λ now q. q))
kept_one makes ks new (commands.Disable id) k there h = inr (changed_by_command ks new is_live id (with_status Disabled) (commands.Disable id) k there h.1 (λ now q. q))
kept_one makes ks new (commands.Destroy id) k there h = inr (changed_by_command ks new is_known_status id as_destroyed (commands.Destroy id) k there h.1 (λ now q. (q.0, q.2)))
kept_one makes ks new (commands.Delete id) k there h = without_command ks new id k (has_id id k) refl there h.1
kept_one makes ks new (commands.SetPrimary id) k there h = inr (rw (h.1) (there_still (Goes (commands.SetPrimary id) k) ks.key k there (inl refl)))

-- ---- a command, and those behind it

kept_longer : (c : Operation) (cs : List Operation) (k now : Key) → IsKept cs k now → IsKept (c ∷ cs) k now
kept_longer c cs k now kept = record {
  id = kept.id;
  prefix = kept.prefix;
  status = ⊎_elim inl (λ a. inr (any_tail (SetsStatus k.key_id now.status) c cs a)) kept.status;
  key_data = ⊎_elim inl (λ gone. inr (gone.0, in_tail c (commands.Destroy k.key_id) cs gone.1)) kept.key_data;
  stays = kept.stays;
}

not_destroyed : (s : ℤ) → is_live s ≡ true → s ≡ status_number Destroyed → ⊥
not_destroyed s live is = let dead : is_live (pos 3) ≡ true = subst (λ x. is_live x ≡ true) is live in absurd (cc)

-- a status given first, and what follows
given : (c : Operation) (cs : List Operation) (id : ℕ) (now first : ℤ) → SetsStatus id first c → (now ≡ first) ⊎ Any (SetsStatus id now) cs → Any (SetsStatus id now) (c ∷ cs)
given c cs id now first gives h =
    ⊎_elim (λ same. any_head (SetsStatus id now) c cs (subst (λ s. SetsStatus id s c) (sym same) gives)) (λ a. any_tail (SetsStatus id now) c cs a) h

enabled_first : (c : Operation) (cs : List Operation) (k mid now : Key) (s : ℤ) → SetsStatus k.key_id s c → is_live k.status ≡ true → mid ≡ record k { status = s } → IsKept cs mid now → IsKept (c ∷ cs) k now
enabled_first c cs k mid now s gives live is was =
    let kept : IsKept cs (record k { status = s }) now = subst (λ x. IsKept cs x now) is was in
    record {
      id = kept.id;
      prefix = kept.prefix;
      status = inr (given c cs k.key_id now.status s gives kept.status);
      key_data = ⊎_elim inl (λ gone. inr (gone.0, in_tail c (commands.Destroy k.key_id) cs gone.1)) kept.key_data;
      stays = λ e. absurd (not_destroyed k.status live e);
    }

destroyed_first : (n : ℕ) (cs : List Operation) (k mid now : Key) → n ≡ k.key_id → mid ≡ as_destroyed k → IsKept cs mid now → IsKept (commands.Destroy n ∷ cs) k now
destroyed_first n cs k mid now same is was =
    let kept : IsKept cs (as_destroyed k) now = subst (λ x. IsKept cs x now) is was in
    let first : Contains (commands.Destroy n ∷ cs) (commands.Destroy k.key_id) = subst (λ id. Contains (commands.Destroy n ∷ cs) (commands.Destroy id)) same (in_head (commands.Destroy n) cs) in
    record {
      id = kept.id;
      prefix = kept.prefix;
      status = inr (given (commands.Destroy n) cs k.key_id now.status (status_number Destroyed) (same, refl) kept.status);
      key_data = ⊎_elim (λ none. inr (record { status = kept.stays refl; no_data = none }, first)) (λ gone. inr (gone.0, first)) kept.key_data;
      stays = λ _. kept.stays refl;
    }

after_change : (c : Operation) (cs : List Operation) (k mid now : Key) → Changes c k mid → IsKept cs mid now → IsKept (c ∷ cs) k now
after_change (commands.Add kt) cs k mid now h kept = absurd h
after_change (commands.Rotate kt) cs k mid now h kept = absurd h
after_change (commands.Enable n) cs k mid now h kept = enabled_first (commands.Enable n) cs k mid now (status_number Enabled) (h.0, refl) h.1 h.2 kept
after_change (commands.Disable n) cs k mid now h kept = enabled_first (commands.Disable n) cs k mid now (status_number Disabled) (h.0, refl) h.1 h.2 kept
after_change (commands.Destroy n) cs k mid now h kept = destroyed_first n cs k mid now h.0 h.1 kept
after_change (commands.Delete n) cs k mid now h kept = absurd h
after_change (commands.SetPrimary n) cs k mid now h kept = absurd h

same_id : (c : Operation) (k mid : Key) → Changes c k mid → mid.key_id ≡ k.key_id
same_id (commands.Add kt) k mid h = absurd h
same_id (commands.Rotate kt) k mid h = absurd h
same_id (commands.Enable n) k mid h = ap (λ x. x.key_id) h.2
same_id (commands.Disable n) k mid h = ap (λ x. x.key_id) h.2
same_id (commands.Destroy n) k mid h = ap (λ x. x.key_id) h.1
same_id (commands.Delete n) k mid h = absurd h
same_id (commands.SetPrimary n) k mid h = absurd h

later : (c : Operation) (cs : List Operation) (k mid : Key) (keys : List Key) → Goes c k mid → Contains cs (commands.Delete mid.key_id) ⊎ Any (IsKept cs mid) keys
    → Contains (c ∷ cs) (commands.Delete k.key_id) ⊎ Any (IsKept (c ∷ cs) k) keys
later c cs k mid keys goes h =
    let same : mid.key_id ≡ k.key_id = ⊎_elim (λ e. ap (λ (x : Key). x.key_id) e) (same_id c k mid) goes in
    let joins : (now : Key) → IsKept cs mid now → IsKept (c ∷ cs) k now =
    λ now kept. ⊎_elim (λ e. kept_longer c cs k now (subst (λ x. IsKept cs x now) e kept)) (λ q. after_change c cs k mid now q kept) goes in
    ⊎_elim
    (λ gone. inl (in_tail c (commands.Delete k.key_id) cs (subst (λ id. Contains cs (commands.Delete id)) same gone)))
    (λ kept. inr (any_weaker (IsKept cs mid) (IsKept (c ∷ cs) k) joins keys kept))
    h

kept_none : (k : Key) → IsKept [] k k
kept_none k = record { id = refl; prefix = refl; status = inl refl; key_data = inl refl; stays = λ e. e }

kept_all : (makes : Maker) (m : Managed) (cs : List Operation) (k : Key) → Contains m.keyset.key k → Contains cs (commands.Delete k.key_id) ⊎ Any (IsKept cs k) (after_all makes m cs).keyset.key
kept_all makes m [] k there = inr (there_still (IsKept [] k) m.keyset.key k there (kept_none k))
kept_all makes m (c ∷ cs) k there =
    let keys = (after_all makes (after makes m c) cs).keyset.key in
    ⊎_elim
    (λ same. later c cs k k keys (inl refl) (kept_all makes (after makes m c) cs k (subst (λ (ks : Keyset). Contains ks.key k) (sym same) there)))
    (λ becomes.
    ⊎_elim
    (λ deletes. inl (subst (Contains (c ∷ cs)) deletes (in_head c cs)))
    (λ one. later c cs k one.1 keys one.4 (kept_all makes (after makes m c) cs one.1 (one.0, one.2, one.3)))
    (kept_one makes m.keyset (keyset_after m.keyset (edit makes m.keyset c m.draws).0) c k there becomes))
    (step makes m.keyset c m.draws)

pub keeps_keys : KeepsKeys
keeps_keys makes m cs k there = kept_all makes m cs k there
