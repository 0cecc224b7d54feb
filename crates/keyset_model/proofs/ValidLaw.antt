-- A valid keyset stays valid.
use Rattle.std.proofs.Common.{◌≡◌, ◌&&◌, ◌||◌, ◌+◌, ◌≤◌, ℕ, ℤ, pos, List, [], ◌∷◌, length, Bool, true, false, not, Option, Some, None, cond, refl, sym, ap, subst, ◌∙◌, arith}
use Rattle.std.specs.Prelude.{count_by, fold, is_some, nat_eq}
use Rattle.std.specs.Ordering.{int_eq}
use Rattle.std.proofs.lemmas.Bool.{le-leb}
use Rattle.std.specs.Cmp.{nat_eq_equiv}
use Rattle.std.specs.List.{AllByRecursion, IsDistinct, list_all, list_any}
use Rattle.std.proofs.lemmas.Bool.Decides.{nat_tests}
use Rattle.std.proofs.lemmas.Map.Keys.{IsDistinct-head, IsDistinct-tail}
use Rattle.tink_proto.specs.declared.enums.KeyStatusType.{KeyStatusType}
use Rattle.tink_proto.specs.declared.enums.KeyStatusType.TheVariants.{Destroyed, Disabled, Enabled}
use Rattle.tink_proto.specs.declared.messages.keys.Key.{Key}
use Rattle.tink_proto.specs.declared.messages.keys.KeyData.{KeyData}
use Rattle.tink_proto.specs.declared.messages.keys.KeyTemplate.{KeyTemplate}
use Rattle.tink_proto.specs.declared.messages.keys.Keyset.{Keyset}
use Rattle.tink_proto.specs.Enums.{status_number}
use Rattle.keyset_model.specs.Adding.{new_key}
use Rattle.keyset_model.specs.Operations as commands
use Rattle.keyset_model.specs.Operations.{Operation, Maker, Managed, after_all}
use Rattle.keyset_model.specs.Edits.{as_destroyed, is_live, status_of, with_first, with_status}
use Rattle.keyset_model.specs.Entries.{is_known_prefix}
use Rattle.keyset_model.specs.Keys.{has_id, ids_of, is_enabled, is_enabled_with}
use Rattle.keyset_model.specs.Laws.{AreOwnIds, GivesHeld, KeepsValid}
use Rattle.keyset_model.specs.Validity.{are_well_formed, has_a_key, has_a_primary, has_an_enabled_key, has_at_most_one_primary, has_its_data, is_all_public, is_from_to, fits_handle, is_held_keyset, is_valid, is_validated, is_well_formed}
use Rattle.keyset_model.proofs.EditLaws.{all_first, all_more, all_without, both, held_as_destroyed, held_more, held_with_status, held_without, joined, not_both}
use Rattle.keyset_model.proofs.IdsLaw.{own_by_one}
use Rattle.keyset_model.proofs.PrimaryLaw.{passes, primary_by_one}
use Rattle.keyset_model.proofs.Steps.{Becomes, kept_by_all}

-- ---- at most one enabled key has the primary id

off_by : (a b : Bool) → b ≡ false → (a && b) ≡ false
off_by true b e = e
off_by false b e = refl

off : (p : ℕ) (k : Key) → nat_eq p k.key_id ≡ false → is_enabled_with p k ≡ false
off p k e = off_by (is_enabled k) (nat_eq k.key_id p) (nat_eq_equiv.symm k.key_id p ∙ e)

none_from : (p n : ℕ) (ks : List Key) → AllByRecursion (λ y. nat_eq p y ≡ false) (ids_of ks) → fold (λ a k. a + cond (is_enabled_with p k) 1 0) n ks ≡ n
none_from p n [] h = refl
none_from p n (k ∷ ks) h = let e : n + 0 ≡ n = omega arith in rw (off p k h.0, e) (none_from p n ks h.1)

one_id : (p : ℕ) (k : Key) → is_enabled_with p k ≡ true → k.key_id ≡ p
one_id p k e = let is : nat_eq k.key_id p ≡ true = (both (is_enabled k) (has_id p k) e).1 in grind (arith, nat_tests)

one_by : (p : ℕ) (k : Key) (ks : List Key) (here : Bool) → is_enabled_with p k ≡ here → AllByRecursion (λ y. nat_eq k.key_id y ≡ false) (ids_of ks) → count_by (is_enabled_with p) ks ≤ 1
    → fold (λ a x. a + cond (is_enabled_with p x) 1 0) (0 + cond here 1 0) ks ≤ 1
one_by p k ks true is apart rest =
    let same : k.key_id ≡ p = one_id p k is in
    rw (none_from p 1 ks (subst (λ n. AllByRecursion (λ y. nat_eq n y ≡ false) (ids_of ks)) same apart)) (omega arith)
one_by p k ks false is apart rest = rest

at_most_one : (p : ℕ) (keys : List Key) → IsDistinct nat_eq (ids_of keys) → count_by (is_enabled_with p) keys ≤ 1
at_most_one p [] h = omega arith
at_most_one p (k ∷ ks) h = one_by p k ks (is_enabled_with p k) refl (IsDistinct-head nat_eq k.key_id (ids_of ks) h) (at_most_one p ks (IsDistinct-tail nat_eq k.key_id (ids_of ks) h))

-- ---- what follows of the primary key

some_enabled : (p : ℕ) (keys : List Key) → list_any (is_enabled_with p) keys ≡ true → list_any is_enabled keys ≡ true
some_enabled p [] e = absurd (cc)
some_enabled p (k ∷ ks) e = passes (is_enabled_with p k) (is_enabled k) (list_any (is_enabled_with p) ks) (list_any is_enabled ks) e (λ h. (both (is_enabled k) (has_id p k) h).0) (some_enabled p ks)

some_key : (p : ℕ) (keys : List Key) → list_any (is_enabled_with p) keys ≡ true → not (nat_eq (length keys) 0) ≡ true
some_key p [] e = absurd (cc)
some_key p (k ∷ ks) e = let more : nat_eq (length (k ∷ ks)) 0 ≡ false = grind (arith, nat_tests) in rw more refl

-- ---- well-formed keys

four_parts : (a b c d : Bool) → (a && b && c && d) ≡ true → (a ≡ true) × (b ≡ true) × (c ≡ true) × (d ≡ true)
four_parts a b c d e =
    let last = both (a && b && c) d e in
    let third = both (a && b) c last.0 in
    let first = both a b third.0 in
    (first.0, first.1, third.1, last.1)

four : (a b c d : Bool) → a ≡ true → b ≡ true → c ≡ true → d ≡ true → (a && b && c && d) ≡ true
four a b c d p q r s = joined (a && b && c) d (joined (a && b) c (joined a b p q) r) s

-- the parts of a well-formed key
parts : (k : Key) → is_well_formed k ≡ true → (has_its_data k ≡ true) × (not (nat_eq k.key_id 0) ≡ true) × (is_from_to (pos 1) (pos 4) k.output_prefix_type ≡ true) × (is_from_to (pos 1) (pos 3) k.status ≡ true)
parts k e = four_parts (has_its_data k) (not (nat_eq k.key_id 0)) (is_from_to (pos 1) (pos 4) k.output_prefix_type) (is_from_to (pos 1) (pos 3) k.status) e

live_data : (d : Option KeyData) (s t : ℤ) → is_live s ≡ true → (is_some d || int_eq s (status_number Destroyed)) ≡ true → (is_some d || int_eq t (status_number Destroyed)) ≡ true
live_data (Some d) s t live e = refl
live_data None s t live e = absurd (not_both s live e)

formed_with_status : (status : KeyStatusType) → is_from_to (pos 1) (pos 3) (status_number status) ≡ true → (k : Key) → is_live k.status ≡ true → is_well_formed k ≡ true → is_well_formed (with_status status k) ≡ true
formed_with_status status within k live e =
    let p = parts k e in
    four (has_its_data (with_status status k)) (not (nat_eq k.key_id 0)) (is_from_to (pos 1) (pos 4) k.output_prefix_type) (is_from_to (pos 1) (pos 3) (status_number status))
    (live_data k.key_data k.status (status_number status) live p.0) p.1 p.2 within

formed_destroyed : (k : Key) → is_well_formed k ≡ true → is_well_formed (as_destroyed k) ≡ true
formed_destroyed k e = let p = parts k e in four true (not (nat_eq k.key_id 0)) (is_from_to (pos 1) (pos 4) k.output_prefix_type) true refl p.1 p.2 refl

formed_new : (kt : KeyTemplate) (d : KeyData) (id : ℕ) → (id ≡ 0 → ⊥) → is_known_prefix kt.output_prefix_type ≡ true → is_well_formed (new_key kt d id) ≡ true
formed_new kt d id other known =
    let not_zero : nat_eq id 0 ≡ false = grind (arith, nat_tests) in
    four true (not (nat_eq id 0)) (is_from_to (pos 1) (pos 4) kt.output_prefix_type) true refl (ap not not_zero) known refl

-- ---- one command

abbrev All : (Key → Bool) → Keyset → Type 0
All test ks = list_all test ks.key ≡ true

-- what is kept besides
record IsGood (ks : Keyset) : Type 0 where
  own : AreOwnIds (ids_of ks.key)
  primary : has_a_primary ks ≡ true
  held : All fits_handle ks
  formed : All is_well_formed ks

held_by_one : (makes : Maker) → GivesHeld makes → (ks new : Keyset) (c : Operation) → All fits_handle ks → Becomes makes ks c new → All fits_handle new
held_by_one makes gives ks new (commands.Add kt) held h = rw (h.is) (held_more ks.key (new_key kt h.key_data h.id) (gives kt h.draws h.key_data h.made).0 held)
held_by_one makes gives ks new (commands.Rotate kt) held h = rw (h.is) (held_more ks.key (new_key kt h.key_data h.id) (gives kt h.draws h.key_data h.made).0 held)
held_by_one makes gives ks new (commands.Enable id) held h = rw (h.3) (held_with_status Enabled id ks.key h.0 h.1 h.2 held)
held_by_one makes gives ks new (commands.Disable id) held h = rw (h.1.3) (held_with_status Disabled id ks.key h.1.0 h.1.1 h.1.2 held)
held_by_one makes gives ks new (commands.Destroy id) held h = rw (h.1.3) (held_as_destroyed id ks.key h.1.0 h.1.1 held)
held_by_one makes gives ks new (commands.Delete id) held h = rw (h.1) (held_without id ks.key held)
held_by_one makes gives ks new (commands.SetPrimary id) held h = rw (h.1) held

formed_first : (status : KeyStatusType) → is_from_to (pos 1) (pos 3) (status_number status) ≡ true → (id : ℕ) (keys : List Key) (s : ℤ) → status_of id keys ≡ Some s → is_live s ≡ true
    → list_all is_well_formed keys ≡ true → list_all is_well_formed (with_first id (with_status status) keys) ≡ true
formed_first status within id keys s at live formed =
    all_first is_well_formed (with_status status) s (λ k q e. formed_with_status status within k (subst (λ x. is_live x ≡ true) (sym q) live) e) id keys at formed

formed_by_one : (makes : Maker) → GivesHeld makes → (ks new : Keyset) (c : Operation) → All is_well_formed ks → Becomes makes ks c new → All is_well_formed new
formed_by_one makes gives ks new (commands.Add kt) formed h =
    rw (h.is) (all_more is_well_formed ks.key (new_key kt h.key_data h.id) (formed_new kt h.key_data h.id h.fresh.not_zero (gives kt h.draws h.key_data h.made).1) formed)
formed_by_one makes gives ks new (commands.Rotate kt) formed h =
    rw (h.is) (all_more is_well_formed ks.key (new_key kt h.key_data h.id) (formed_new kt h.key_data h.id h.fresh.not_zero (gives kt h.draws h.key_data h.made).1) formed)
formed_by_one makes gives ks new (commands.Enable id) formed h = rw (h.3) (formed_first Enabled refl id ks.key h.0 h.1 h.2 formed)
formed_by_one makes gives ks new (commands.Disable id) formed h = rw (h.1.3) (formed_first Disabled refl id ks.key h.1.0 h.1.1 h.1.2 formed)
formed_by_one makes gives ks new (commands.Destroy id) formed h = rw (h.1.3) (all_first is_well_formed as_destroyed h.1.0 (λ k q e. formed_destroyed k e) id ks.key h.1.1 formed)
formed_by_one makes gives ks new (commands.Delete id) formed h = rw (h.1) (all_without is_well_formed id ks.key formed)
formed_by_one makes gives ks new (commands.SetPrimary id) formed h = rw (h.1) formed

good_by_one : (makes : Maker) → GivesHeld makes → (ks new : Keyset) (c : Operation) → IsGood ks → Becomes makes ks c new → IsGood new
good_by_one makes gives ks new c good h = record {
  own = own_by_one makes ks new c good.own h;
  primary = primary_by_one makes ks new c good.primary h;
  held = held_by_one makes gives ks new c good.held h;
  formed = formed_by_one makes gives ks new c good.formed h;
}

-- ---- the law

valid : (ks : Keyset) → IsGood ks → is_valid ks ≡ true
valid ks good =
    let one : has_at_most_one_primary ks ≡ true = le-leb (count_by (is_enabled_with ks.primary_key_id) ks.key) 1 (at_most_one ks.primary_key_id ks.key good.own.distinct) in
    let primary : (has_a_primary ks || is_all_public ks) ≡ true = rw (good.primary) refl in
    joined (is_held_keyset ks) (is_validated ks) good.held
    (joined (has_a_key ks && are_well_formed ks && has_at_most_one_primary ks && has_an_enabled_key ks) (has_a_primary ks || is_all_public ks)
    (four (has_a_key ks) (are_well_formed ks) (has_at_most_one_primary ks) (has_an_enabled_key ks) (some_key ks.primary_key_id ks.key good.primary) good.formed one (some_enabled ks.primary_key_id ks.key good.primary)) primary)

formed_of : (ks : Keyset) → is_valid ks ≡ true → All is_well_formed ks
formed_of ks is =
    let validated : is_validated ks ≡ true = (both (is_held_keyset ks) (is_validated ks) is).1 in
    let front = (both (has_a_key ks && are_well_formed ks && has_at_most_one_primary ks && has_an_enabled_key ks) (has_a_primary ks || is_all_public ks) validated).0 in
    (four_parts (has_a_key ks) (are_well_formed ks) (has_at_most_one_primary ks) (has_an_enabled_key ks) front).1

pub keeps_valid : KeepsValid
keeps_valid makes gives m cs own there is =
    valid (after_all makes m cs).keyset
    (kept_by_all IsGood makes (good_by_one makes gives) m cs
    (record { own = own; primary = there; held = (both (is_held_keyset m.keyset) (is_validated m.keyset) is).0; formed = formed_of m.keyset is }))
