-- A keyset that fits the wire format does so after any commands.
use Rattle.std.proofs.Common.{◌≡◌, ◌∙◌, ◌&&◌, ◌||◌, ◌++◌, ◌+◌, ◌<◌, ◌≤◌, ◌^◌, ℕ, zero, suc, ℤ, pos, List, [], ◌∷◌, length, take, drop, get_or, map, Bool, true, false, cond, Option, Some, None, Result, Ok, Err, refl, sym, ap, subst, ⊎_elim, arith, length-append}
use Rattle.std.specs.Prelude.{⊤, find, nat_lt, nat_le}
use Rattle.std.specs.Int.{cast_unsigned, w32, w64, from_be_bytes}
use Rattle.std.specs.List.{list_all}
use Rattle.std.specs.Option.{option_map}
use Rattle.std.specs.Ordering.{int_eq}
use Rattle.std.proofs.lemmas.Bool.{cases_lt}
use Rattle.std.proofs.lemmas.Bool.Decides.{Decides-int_eq, Decides-ltb, nat_tests}
use Rattle.std.proofs.lemmas.List.{get_or_past}
use Rattle.std.proofs.lemmas.List.Elements.{All-drop, All-get_or, All-take}
use Rattle.tink_io.specs.declared.error.Kind.{Kind}
use Rattle.tink_io.specs.declared.error.Kind.TheVariants.{RandomFault}
use Rattle.tink_proto.specs.declared.enums.KeyStatusType.{KeyStatusType}
use Rattle.tink_proto.specs.declared.enums.KeyStatusType.TheVariants.{Enabled, Disabled}
use Rattle.tink_proto.specs.declared.messages.keys.Key.{Key}
use Rattle.tink_proto.specs.declared.messages.keys.KeyData.{KeyData}
use Rattle.tink_proto.specs.declared.messages.keys.KeyTemplate.{KeyTemplate}
use Rattle.tink_proto.specs.declared.messages.keys.Keyset.{Keyset}
use Rattle.tink_proto.specs.Enums.{status_number}
use Rattle.tink_proto.specs.Messages.{key, key_data, keyset}
use Rattle.wire_format.specs.Columns.{at}
use Rattle.wire_format.specs.Grammar.{Field}
use Rattle.wire_format.specs.Grammar.Content.{Varint}
use Rattle.wire_format.specs.Values.{fit_bodies, fits_body, fits_enum, fits_number, fits_option, option_body, unless_zero}
use Rattle.wire_format.specs.Writing.{field, spelling, varint, varint_within}
use Rattle.wire_format.proofs.WritingLaws.{spelling_append, spelling_none}
use Rattle.keyset_model.specs.Adding.{added, added_by_data, added_by_id, drawn_id, fresh_id, is_taken, keyset_reply, new_key}
use Rattle.keyset_model.specs.Operations as commands
use Rattle.keyset_model.specs.Operations.{Operation, Maker, Managed, after, after_all, edit, keyset_after}
use Rattle.keyset_model.specs.Edits.{as_destroyed, is_known_status, is_live, status_of, with_status}
use Rattle.keyset_model.specs.Keys.{has_id}
use Rattle.keyset_model.proofs.EditLaws.{all_first, all_more, all_without, both, joined}
use Rattle.keyset_model.proofs.Steps.{Becomes, HasChanged, step}
use Rattle.tink_run.specs.Fitting.{AreByteValues, GivesFitting, KeepsFit}

-- ---- ids that are drawn

byte_at : (bytes : List ℕ) (i : ℕ) → AreByteValues bytes → get_or bytes i 0 < 256
byte_at bytes i h =
    ⊎_elim
    (λ lt. All-get_or (λ b. b < 256) bytes i 0 lt h)
    (λ le. subst (λ (b : ℕ). b < 256) (sym (get_or_past bytes i 0 le)) (omega arith))
    (cases_lt i (length bytes))

small_id : (bytes : List ℕ) → AreByteValues bytes → from_be_bytes w32 bytes < 2 ^ 32
small_id bytes h = omega (arith, byte_at bytes 0 h, byte_at bytes 1 h, byte_at bytes 2 h, byte_at bytes 3 h)

-- an id is of 32 bits, and what is left are bytes
abbrev IsDrawn : Result ℕ Kind × List ℕ → Type 0
IsDrawn r = ((id : ℕ) → r.0 ≡ Ok id → id < 2 ^ 32) × AreByteValues r.1

is_drawn : (keys : List Key) (takes : ℕ) (draws : List ℕ) → AreByteValues draws → IsDrawn (fresh_id keys takes draws)
unfolding fresh_id
is_drawn keys zero draws h = (λ id e. absurd (cc), h)
is_drawn keys (suc takes) draws h =
    by (nat_le 4 (length draws)) (is_taken keys (drawn_id draws))
    (is_drawn keys takes (drop 4 draws) (All-drop (λ b. b < 256) 4 draws h))
  where
    by : (enough taken : Bool) → IsDrawn (fresh_id keys takes (drop 4 draws))
        → IsDrawn (cond enough (cond taken (fresh_id keys takes (drop 4 draws)) (Ok (drawn_id draws), drop 4 draws))
        (Err RandomFault, draws))
    by false taken more = (λ id e. absurd (cc), h)
    by true true more = more
    by true false more =
        let small = small_id (take 4 draws) (All-take (λ b. b < 256) 4 draws h) in (
          λ id e. let same : drawn_id draws ≡ id = cc in subst (λ (n : ℕ). n < 2 ^ 32) same small,
          All-drop (λ b. b < 256) 4 draws h,
        )

abbrev Adds : Operation → Type 0
Adds (commands.Add _) = ⊤
Adds (commands.Rotate _) = ⊤
Adds (commands.Enable _) = ⊥
Adds (commands.Disable _) = ⊥
Adds (commands.Destroy _) = ⊥
Adds (commands.Delete _) = ⊥
Adds (commands.SetPrimary _) = ⊥

-- ---- a key whose status changes

size : Key → ℕ
size k = length (spelling (key.write k))

abbrev key_of : Option KeyData → ℤ → ℕ → ℤ → Key
key_of d s id prefix = record { key_data = d; status = s; key_id = id; output_prefix_type = prefix }

abbrev data_fields : Option KeyData → List Field
data_fields d = map (at 1) (option_body key_data d)

abbrev other_fields : ℕ → ℤ → List Field
other_fields id prefix = map (at 3) (unless_zero id) ++ map (at 4) (unless_zero (cast_unsigned w64 prefix))

-- the bytes of a key whose status takes two, by those of its other fields
abbrev with_two : Option KeyData → ℕ → ℤ → ℕ
with_two d id prefix = length (spelling (data_fields d)) + (2 + length (spelling (other_fields id prefix)))

enabled_two : length (spelling (at 2 (Varint 1) ∷ [])) ≡ 2
unfolding spelling field varint varint_within
enabled_two = refl

disabled_two : length (spelling (at 2 (Varint 2) ∷ [])) ≡ 2
unfolding spelling field varint varint_within
disabled_two = refl

destroyed_two : length (spelling (at 2 (Varint 3) ∷ [])) ≡ 2
unfolding spelling field varint varint_within
destroyed_two = refl

parts_size : (d : Option KeyData) (f : Field) (id : ℕ) (prefix : ℤ) → length (spelling (f ∷ [])) ≡ 2
    → length (spelling (data_fields d ++ ((f ∷ []) ++ other_fields id prefix))) ≡ with_two d id prefix
parts_size d f id prefix two =
    let a = spelling (data_fields d) in
    let c = spelling (other_fields id prefix) in
    ap length (spelling_append (data_fields d) ((f ∷ []) ++ other_fields id prefix))
    ∙ length-append a (spelling ((f ∷ []) ++ other_fields id prefix))
    ∙ ap (λ n. length a + n)
    (ap length (spelling_append (f ∷ []) (other_fields id prefix)) ∙ length-append (spelling (f ∷ [])) c)
    ∙ ap (λ n. length a + (n + length c)) two

-- a key of a known status, in bytes
known_size : (d : Option KeyData) (s : ℤ) (id : ℕ) (prefix : ℤ) → is_known_status s ≡ true
    → size (key_of d s id prefix) ≡ with_two d id prefix
unfolding size
known_size d s id prefix known = by (int_eq s (pos 1)) (int_eq s (pos 2)) (int_eq s (pos 3)) refl refl refl known
  where
    same : (n : ℤ) → int_eq s n ≡ true → length (spelling (key.write (key_of d n id prefix))) ≡ with_two d id prefix
        → length (spelling (key.write (key_of d s id prefix))) ≡ with_two d id prefix
    same n is e = ap (λ (x : ℤ). length (spelling (key.write (key_of d x id prefix)))) ((Decides-int_eq s n).0 is) ∙ e

    by : (a b c : Bool) → int_eq s (pos 1) ≡ a → int_eq s (pos 2) ≡ b → int_eq s (pos 3) ≡ c
        → ((a || b) || c) ≡ true → length (spelling (key.write (key_of d s id prefix))) ≡ with_two d id prefix
    by true b c p q r known = same (pos 1) p (parts_size d (at 2 (Varint 1)) id prefix enabled_two)
    by false true c p q r known = same (pos 2) q (parts_size d (at 2 (Varint 2)) id prefix disabled_two)
    by false false true p q r known = same (pos 3) r (parts_size d (at 2 (Varint 3)) id prefix destroyed_two)
    by false false false p q r known = absurd (cc)

-- no longer than a key that fits
no_longer : (d e : Option KeyData) (s t : ℤ) (id : ℕ) (prefix : ℤ) → fits_body key (key_of d s id prefix) ≡ true
    → fits_option key_data e ≡ true → fits_enum t ≡ true
    → size (key_of e t id prefix) ≤ size (key_of d s id prefix) → fits_body key (key_of e t id prefix) ≡ true
unfolding size
no_longer d e s t id prefix fits has status less =
    let was = length (spelling (key.write (key_of d s id prefix))) in
    let is = length (spelling (key.write (key_of e t id prefix))) in
    let whole = both (key.fits (key_of d s id prefix)) (nat_lt was (2 ^ 64)) fits in
    let rest = both (fits_option key_data d) (fits_enum s && (fits_number id && fits_enum prefix)) whole.0 in
    let others = both (fits_enum s) (fits_number id && fits_enum prefix) rest.1 in
    let long = (Decides-ltb was (2 ^ 64)).0 whole.1 in
    joined (key.fits (key_of e t id prefix)) (nat_lt is (2 ^ 64))
    (joined (fits_option key_data e) (fits_enum t && (fits_number id && fits_enum prefix)) has
    (joined (fits_enum t) (fits_number id && fits_enum prefix) status others.1))
    ((Decides-ltb is (2 ^ 64)).1 (omega (arith, less, long)))

live_known : (s : ℤ) → is_live s ≡ true → is_known_status s ≡ true
live_known s live = rw live refl

fits_data : (k : Key) → fits_body key k ≡ true → fits_option key_data k.key_data ≡ true
fits_data k fits = (both (fits_option key_data k.key_data) _ (both (key.fits k) _ fits).0).0

fits_with_status : (status : KeyStatusType) → is_known_status (status_number status) ≡ true
    → fits_enum (status_number status) ≡ true → (k : Key) → is_known_status k.status ≡ true
    → fits_body key k ≡ true → fits_body key (with_status status k) ≡ true
fits_with_status status known small k was fits =
    let before = known_size k.key_data k.status k.key_id k.output_prefix_type was in
    let behind = known_size k.key_data (status_number status) k.key_id k.output_prefix_type known in
    no_longer k.key_data k.key_data k.status (status_number status) k.key_id k.output_prefix_type fits
    (fits_data k fits) small (omega (arith, before, behind))

fits_destroyed : (k : Key) → is_known_status k.status ≡ true → fits_body key k ≡ true
    → fits_body key (as_destroyed k) ≡ true
fits_destroyed k was fits =
    let before = known_size k.key_data k.status k.key_id k.output_prefix_type was in
    let behind = known_size None (pos 3) k.key_id k.output_prefix_type refl in
    let none : length (spelling []) ≡ 0 = ap length spelling_none in
    no_longer k.key_data None k.status (pos 3) k.key_id k.output_prefix_type fits refl refl
    (omega (arith, before, behind, none))

-- ---- keysets

all_fit : (ks : List Key) → fit_bodies key ks ≡ list_all (fits_body key) ks
all_fit [] = refl
all_fit (k ∷ ks) = ap (λ b. fits_body key k && b) (all_fit ks)

abbrev IsFit : Keyset → Type 0
IsFit ks = (fits_number ks.primary_key_id ≡ true) × (list_all (fits_body key) ks.key ≡ true)

to_fit : (ks : Keyset) → keyset.fits ks ≡ true → IsFit ks
to_fit ks h =
    let parts = both (fits_number ks.primary_key_id) (fit_bodies key ks.key) h in
    (parts.0, sym (all_fit ks.key) ∙ parts.1)

from_fit : (ks : Keyset) → IsFit ks → keyset.fits ks ≡ true
from_fit ks h = joined (fits_number ks.primary_key_id) (fit_bodies key ks.key) h.0 (all_fit ks.key ∙ h.1)

fits_id : (k : Key) → fits_body key k ≡ true → fits_number k.key_id ≡ true
fits_id k fits =
    let whole = both (key.fits k) _ fits in
    let rest = both (fits_option key_data k.key_data) _ whole.0 in
    let others = both (fits_enum k.status) _ rest.1 in
    (both (fits_number k.key_id) _ others.1).0

-- an id that a key has fits
id_fits : (id : ℕ) (keys : List Key) (s : ℤ) → status_of id keys ≡ Some s → list_all (fits_body key) keys ≡ true
    → fits_number id ≡ true
id_fits id [] s e all = absurd (cc)
id_fits id (k ∷ ks) s e all =
    let parts = both (fits_body key k) (list_all (fits_body key) ks) all in
    by (has_id id k) refl e (fits_id k parts.0) (λ q. id_fits id ks s q parts.1)
  where
    by : (here : Bool) → has_id id k ≡ here
        → option_map (λ (x : Key). x.status) (cond here (Some k) (find (has_id id) ks)) ≡ Some s
        → fits_number k.key_id ≡ true
        → (status_of id ks ≡ Some s → fits_number id ≡ true) → fits_number id ≡ true
    by true is e here later =
        let same : k.key_id ≡ id = grind (arith, nat_tests) in
        subst (λ n. fits_number n ≡ true) same here
    by false is e here later = later e

-- ---- one command

changed_fits : (ks new : Keyset) (test : ℤ → Bool) (id : ℕ) (change : Key → Key)
    → ((s : ℤ) → test s ≡ true → is_known_status s ≡ true)
    → ((k : Key) → is_known_status k.status ≡ true → fits_body key k ≡ true → fits_body key (change k) ≡ true)
    → IsFit ks → HasChanged ks test id change new → IsFit new
changed_fits ks new test id change known each fit h =
    let one : (k : Key) → k.status ≡ h.0 → fits_body key k ≡ true → fits_body key (change k) ≡ true =
    λ k q fits. each k (known k.status (subst (λ s. test s ≡ true) (sym q) h.2)) fits in
    subst IsFit (sym h.3) (fit.0, all_first (fits_body key) change h.0 one id ks.key h.1 fit.1)

becomes_fit : (makes : Maker) (ks new : Keyset) (c : Operation) → Becomes makes ks c new → (Adds c → ⊥) → IsFit ks
    → IsFit new
becomes_fit makes ks new (commands.Add kt) h not fit = absurd (not tt)
becomes_fit makes ks new (commands.Rotate kt) h not fit = absurd (not tt)
becomes_fit makes ks new (commands.Enable id) h not fit =
    changed_fits ks new is_live id (with_status Enabled) live_known (fits_with_status Enabled refl refl) fit h
becomes_fit makes ks new (commands.Disable id) h not fit =
    changed_fits ks new is_live id (with_status Disabled) live_known (fits_with_status Disabled refl refl) fit h.1
becomes_fit makes ks new (commands.Destroy id) h not fit =
    changed_fits ks new is_known_status id as_destroyed (λ s e. e) fits_destroyed fit h.1
becomes_fit makes ks new (commands.Delete id) h not fit =
    subst IsFit (sym h.1) (fit.0, all_without (fits_body key) id ks.key fit.1)
becomes_fit makes ks new (commands.SetPrimary id) h not fit =
    subst IsFit (sym h.1) (id_fits id ks.key (status_number Enabled) h.0 fit.1, fit.1)

-- the keyset fits, and what is left of the draws are bytes
abbrev GoesOn : Keyset → Result Keyset Kind × List ℕ → Type 0
GoesOn ks r = IsFit (keyset_after ks r.0) × AreByteValues r.1

module _ (makes : Maker) (gives : GivesFitting makes) where
  by_id : (ks : Keyset) (kt : KeyTemplate) (as_primary : Bool) (draws : List ℕ) (d : KeyData) → AreByteValues draws
      → (makes kt draws).0 ≡ Ok d → IsFit ks
      → (r : Result ℕ Kind) (left : List ℕ) → IsDrawn (r, left)
      → GoesOn ks (keyset_reply (added_by_id ks kt as_primary d r left))
  by_id ks kt as_primary draws d bytes made fit (Err kind) left drawn = (fit, drawn.1)
  by_id ks kt as_primary draws d bytes made fit (Ok id) left drawn =
      let small = drawn.0 id refl in
      let more = all_more (fits_body key) ks.key (new_key kt d id) (gives.fits kt draws d id bytes made small) fit.1 in
      ((primary as_primary ((Decides-ltb id (2 ^ 32)).1 small), more), drawn.1)
    where
      primary : (b : Bool) → fits_number id ≡ true → fits_number (cond b id ks.primary_key_id) ≡ true
      primary true new = new
      primary false new = fit.0

  by_data : (ks : Keyset) (kt : KeyTemplate) (as_primary : Bool) (draws : List ℕ) → AreByteValues draws → IsFit ks
      → (r : Result KeyData Kind) (left : List ℕ) → (makes kt draws).0 ≡ r → AreByteValues left
      → GoesOn ks (keyset_reply (added_by_data ks kt as_primary r left))
  by_data ks kt as_primary draws bytes fit (Err kind) left made rest = (fit, rest)
  by_data ks kt as_primary draws bytes fit (Ok d) left made rest =
      by_id ks kt as_primary draws d bytes made fit (fresh_id ks.key 128 left).0 (fresh_id ks.key 128 left).1
      (is_drawn ks.key 128 left rest)

  adding : (ks : Keyset) (kt : KeyTemplate) (as_primary : Bool) (draws : List ℕ) → AreByteValues draws → IsFit ks
      → GoesOn ks (keyset_reply (added ks kt as_primary (makes kt draws)))
  adding ks kt as_primary draws bytes fit =
      by_data ks kt as_primary draws bytes fit (makes kt draws).0 (makes kt draws).1 refl (gives.left kt draws bytes)

  editing : (ks : Keyset) (c : Operation) (draws : List ℕ) → (Adds c → ⊥) → IsFit ks
      → IsFit (keyset_after ks (edit makes ks c draws).0)
  editing ks c draws not fit =
      ⊎_elim (λ same. subst IsFit (sym same) fit) (λ becomes. becomes_fit makes ks _ c becomes not fit)
      (step makes ks c draws)

  one : (ks : Keyset) (c : Operation) (draws : List ℕ) → AreByteValues draws → IsFit ks → GoesOn ks (edit makes ks c draws)
  one ks (commands.Add kt) draws bytes fit = adding ks kt false draws bytes fit
  one ks (commands.Rotate kt) draws bytes fit = adding ks kt true draws bytes fit
  one ks (commands.Enable id) draws bytes fit = (editing ks (commands.Enable id) draws (λ h. h) fit, bytes)
  one ks (commands.Disable id) draws bytes fit = (editing ks (commands.Disable id) draws (λ h. h) fit, bytes)
  one ks (commands.Destroy id) draws bytes fit = (editing ks (commands.Destroy id) draws (λ h. h) fit, bytes)
  one ks (commands.Delete id) draws bytes fit = (editing ks (commands.Delete id) draws (λ h. h) fit, bytes)
  one ks (commands.SetPrimary id) draws bytes fit = (editing ks (commands.SetPrimary id) draws (λ h. h) fit, bytes)

  all : (m : Managed) (cs : List Operation) → AreByteValues m.draws → IsFit m.keyset → IsFit (after_all makes m cs).keyset
  all m [] bytes fit = fit
  all m (c ∷ cs) bytes fit = let next = one m.keyset c m.draws bytes fit in all (after makes m c) cs next.1 next.0

pub keeps_fit : KeepsFit
keeps_fit makes gives m cs bytes fits =
    from_fit (after_all makes m cs).keyset (all makes gives m cs bytes (to_fit m.keyset fits))
