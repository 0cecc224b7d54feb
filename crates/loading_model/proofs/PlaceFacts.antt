-- The key that is chosen at a place stays so where commands leave it.
use Rattle.std.proofs.Common.{◌≡◌, ◌++◌, ◌-◌, ◌≤◌, ℕ, zero, suc, List, [], ◌∷◌, Bool, true, false, cond, Some, None, refl, sym, ap, subst, arith}
use Rattle.std.specs.declared.option.Option.{Option}
use Rattle.std.specs.Prelude.{find, nat_lt}
use Rattle.std.specs.Option.{option_map}
use Rattle.std.proofs.lemmas.Bool.Decides.{nat_tests}
use Rattle.tink_proto.specs.declared.enums.KeyStatusType.TheVariants.{Disabled, Enabled}
use Rattle.tink_proto.specs.declared.messages.keys.Key.{Key}
use Rattle.keyset_model.specs.Edits.{as_destroyed, status_of, with_first, with_status, without_first}
use Rattle.keyset_model.specs.Keys.{has_id}
use Rattle.stream_model.specs.Key.{StreamKey}
use Rattle.loading_model.specs.Loading.{LoadingRow}
use Rattle.loading_model.specs.Rotation.{BeginsUnder, BuildsKey, IsChosenAt, place_of, place_without}

-- ---- places

-- the place of a key that is taken out, seen from one place before
below_by : (less : Bool) (p place : ℕ) → nat_lt p place ≡ less
    → cond (nat_lt (suc p) (suc place)) (suc place - 1) (suc place) ≡ suc (cond less (place - 1) place)
below_by true p place is =
    let same : nat_lt (suc p) (suc place) ≡ true = grind (arith, nat_tests) in
    rw same (grind (arith, nat_tests))
below_by false p place is =
    let same : nat_lt (suc p) (suc place) ≡ false = grind (arith, nat_tests) in
    rw same refl

place_below : (o : Option ℕ) (place : ℕ) → place_without (option_map suc o) (suc place) ≡ suc (place_without o place)
place_below None place = refl
place_below (Some p) place = below_by (nat_lt p place) p place refl

stays_first : (o : Option ℕ) → place_without (option_map suc o) 0 ≡ 0
stays_first None = refl
stays_first (Some p) = let none : nat_lt (suc p) 0 ≡ false = grind (arith, nat_tests) in rw none refl

second_first : (place : ℕ) → place_without (Some 0) (suc place) ≡ place
second_first place = let some : nat_lt 0 (suc place) ≡ true = grind (arith, nat_tests) in rw some (omega arith)

pub none_taken : (id : ℕ) (keys : List Key) → status_of id keys ≡ None → place_of id keys ≡ None
none_taken id [] e = refl
none_taken id (k ∷ ks) e = by (has_id id k) (none_taken id ks) e
  where
    by : (here : Bool) → (status_of id ks ≡ None → place_of id ks ≡ None)
        → option_map (λ (x : Key). x.status) (cond here (Some k) (find (has_id id) ks)) ≡ None
        → cond here (Some 0) (option_map suc (place_of id ks)) ≡ None
    by true more e = absurd (cc)
    by false more e = ap (option_map suc) (more e)

no_zero : (o : Option ℕ) → option_map suc o ≡ Some 0 → ⊥
no_zero None e = absurd (cc)
no_zero (Some p) e = let same : suc p ≡ 0 = cc in absurd (omega (arith, same))

one_less : (o : Option ℕ) (place : ℕ) → option_map suc o ≡ Some (suc place) → o ≡ Some place
one_less None place e = absurd (cc)
one_less (Some p) place e =
    let same : suc p ≡ suc place = cc in
    let less : p ≡ place = omega (arith, same) in
    ap Some less

-- ---- the lists that commands make

module _ (rows : List LoadingRow) (aad S : List ℕ) where
  abbrev At : List Key → ℕ → ℕ → StreamKey → Type 0
  At keys place chosen key = IsChosenAt rows aad S keys place chosen key

  -- a command on the first key of an id acts at the place only where the key there has it
  pub of_place : (id : ℕ) (keys : List Key) (place chosen : ℕ) (key : StreamKey) → place_of id keys ≡ Some place
      → At keys place chosen key → id ≡ chosen
  of_place id [] place chosen key e at = absurd at
  of_place id (k ∷ ks) place chosen key e at = by (has_id id k) place refl (λ p. of_place id ks p chosen key) e at
    where
      by : (here : Bool) (place : ℕ) → has_id id k ≡ here
          → ((p : ℕ) → place_of id ks ≡ Some p → At ks p chosen key → id ≡ chosen)
          → cond here (Some 0) (option_map suc (place_of id ks)) ≡ Some place → At (k ∷ ks) place chosen key
          → id ≡ chosen
      by true zero is more e at = let own : k.key_id ≡ chosen = at.0 in grind (arith, nat_tests)
      by true (suc place) is more e at = absurd (cc)
      by false zero is more e at = absurd (no_zero (place_of id ks) e)
      by false (suc place) is more e at = more place (one_less (place_of id ks) place e) at.1

  -- keys behind the others
  pub at_before : (keys more : List Key) (place chosen : ℕ) (key : StreamKey) → At keys place chosen key
      → At (keys ++ more) place chosen key
  at_before [] more place chosen key at = absurd at
  at_before (k ∷ ks) more zero chosen key at = at
  at_before (k ∷ ks) more (suc place) chosen key at = (at.0, at_before ks more place chosen key at.1)

  -- another key changed, under which no stream begins any more
  pub at_with_other : (id : ℕ) (change : Key → Key) → ((k : Key) → BeginsUnder rows aad S (change k) → ⊥)
      → (keys : List Key) (place chosen : ℕ) (key : StreamKey)
      → (place_of id keys ≡ Some place → ⊥) → At keys place chosen key → At (with_first id change keys) place chosen key
  at_with_other id change off [] place chosen key other at = absurd at
  at_with_other id change off (k ∷ ks) place chosen key other at =
      by (has_id id k) place (λ p. at_with_other id change off ks p chosen key) other at
    where
      by : (here : Bool) (place : ℕ) → ((p : ℕ) → (place_of id ks ≡ Some p → ⊥) → At ks p chosen key
          → At (with_first id change ks) p chosen key)
          → (cond here (Some 0) (option_map suc (place_of id ks)) ≡ Some place → ⊥) → At (k ∷ ks) place chosen key
          → At (cond here (change k ∷ ks) (k ∷ with_first id change ks)) place chosen key
      by true zero more other at = absurd (other refl)
      by true (suc place) more other at = (off k, at.1)
      by false zero more other at = at
      by false (suc place) more other at = (at.0, more place (λ e. other (ap (option_map suc) e)) at.1)

  enabled_begins : (k : Key) (key : StreamKey) → BuildsKey rows k key → BuildsKey rows (with_status Enabled k) key
  enabled_begins k key h = record { enabled = refl; bare = h.bare; built = h.built; is = h.is }

  -- a key enabled, that one or one behind it
  pub at_enabled : (id : ℕ) (keys : List Key) (place chosen : ℕ) (key : StreamKey)
      → ((p : ℕ) → place_of id keys ≡ Some p → place ≤ p) → At keys place chosen key
      → At (with_first id (with_status Enabled) keys) place chosen key
  at_enabled id [] place chosen key behind at = absurd at
  at_enabled id (k ∷ ks) place chosen key behind at =
      by (has_id id k) place (λ q. at_enabled id ks q chosen key) behind at
    where
      by : (here : Bool) (place : ℕ) → ((q : ℕ) → ((p : ℕ) → place_of id ks ≡ Some p → q ≤ p) → At ks q chosen key
          → At (with_first id (with_status Enabled) ks) q chosen key)
          → ((p : ℕ) → cond here (Some 0) (option_map suc (place_of id ks)) ≡ Some p → place ≤ p)
          → At (k ∷ ks) place chosen key
          → At (cond here (with_status Enabled k ∷ ks) (k ∷ with_first id (with_status Enabled) ks)) place chosen key
      by true zero more behind at = (at.0, enabled_begins k key at.1, at.2)
      by true (suc place) more behind at = let none = behind 0 refl in absurd (omega (arith, none))
      by false zero more behind at = at
      by false (suc place) more behind at =
          (at.0, more place (λ p e. let next = behind (suc p) (ap (option_map suc) e) in omega (arith, next)) at.1)

  -- another key taken out
  pub at_without : (id : ℕ) (keys : List Key) (place chosen : ℕ) (key : StreamKey)
      → (place_of id keys ≡ Some place → ⊥) → At keys place chosen key
      → At (without_first id keys) (place_without (place_of id keys) place) chosen key
  at_without id [] place chosen key other at = absurd at
  at_without id (k ∷ ks) place chosen key other at =
      by (has_id id k) place (λ p. at_without id ks p chosen key) other at
    where
      by : (here : Bool) (place : ℕ) → ((p : ℕ) → (place_of id ks ≡ Some p → ⊥) → At ks p chosen key
          → At (without_first id ks) (place_without (place_of id ks) p) chosen key)
          → (cond here (Some 0) (option_map suc (place_of id ks)) ≡ Some place → ⊥) → At (k ∷ ks) place chosen key
          → At (cond here ks (k ∷ without_first id ks))
          (place_without (cond here (Some 0) (option_map suc (place_of id ks))) place) chosen key
      by true zero more other at = absurd (other refl)
      by true (suc place) more other at = subst (λ p. At ks p chosen key) (sym (second_first place)) at.1
      by false zero more other at =
          subst (λ p. At (k ∷ without_first id ks) p chosen key) (sym (stays_first (place_of id ks))) at
      by false (suc place) more other at =
          subst (λ p. At (k ∷ without_first id ks) p chosen key) (sym (place_below (place_of id ks) place))
          (at.0, more place (λ e. other (ap (option_map suc) e)) at.1)

  -- ---- a disabled or destroyed key begins no stream

  pub disabled_off : (k : Key) → BeginsUnder rows aad S (with_status Disabled k) → ⊥
  disabled_off k h = let on = h.1.enabled in absurd (cc)

  pub destroyed_off : (k : Key) → BeginsUnder rows aad S (as_destroyed k) → ⊥
  destroyed_off k h = let on = h.1.enabled in absurd (cc)
