-- From the calls of a manager to the keyset that is made.
use Rattle.std.proofs.Common.{◌≡◌, ◌⊎◌, inl, inr, ◌≤◌, ℕ, List, [], Bool, true, false, Some, None, Ok, Err, Result, cond, length, refl, arith, ap, subst, sym, ◌∙◌}
use Rattle.std.specs.declared.option.Option.{Option}
use Rattle.std.specs.Prelude.{IfErr, IfOk}
use Rattle.tink_io.specs.declared.error.Kind.{Kind}
use Rattle.tink_io.specs.declared.error.Kind.TheVariants.{NoFreshId, OutOfMemory, UnknownTemplate, UnknownPrefix}
use Rattle.tink_io.specs.declared.error.TinkError.{TinkError}
use Rattle.tink_io.specs.Answering.{Answers, IsShort}
use Rattle.tink_proto.specs.declared.messages.keys.KeyData.{KeyData}
use Rattle.tink_proto.specs.declared.messages.keys.KeyTemplate.{KeyTemplate}
use Rattle.tink_proto.specs.declared.messages.keys.Keyset.{Keyset}
use Rattle.keyset_model.specs.Adding.{added, keyset_reply, reply, Added}
use Rattle.keyset_model.specs.Adding as adding
use Rattle.keyset_model.specs.Entries.{is_known_prefix}
use Rattle.keyset_model.specs.Validity.{are_well_formed, has_a_primary, is_held_keyset, is_valid, is_validated, IsValid, FitsHandle}
use Rattle.keyset_model.proofs.EditLaws.{joined}
use Rattle.tink_registry.specs.Listed.{manager_of, template_of, Registered}
use Rattle.tink_keysets.specs.Encrypted.{chained}
use Rattle.tink_keysets.specs.Managed.{added_by}
use Rattle.tink_keysets.specs.Through.{LeavesDraws}
use Rattle.tink.specs.Managers.{row_of}
use Rattle.tink.specs.Registered.{with_everything}
use Rattle.tink.specs.declared.managers.Managers.{Managers}
use Rattle.tink_keygen.specs.NamedTemplates.{data_by_all, template_named}
use Rattle.tink_keygen.specs.Rotating.{grown, grown_by, left_grown, left_grown_by, rotated, rotated_by, rotated_where, IsNotRotated}
use Rattle.tink_keygen.proofs.IdFacts.{refused_by_ids}
use Rattle.tink_keygen.proofs.TemplateFacts.{named_makes, MakesKeys}
use Rattle.tink_keygen.proofs.ValidatedFacts.{formed_of, validated, validated_beside}

-- adding by the managers of the registry of all
abbrev added_of : Bool → Registered Managers → Keyset → KeyTemplate → List ℕ → Added
added_of p r ks kt draws = added_by (λ m. (row_of m).url) (λ m. (row_of m).made_data) r.managers ks kt p draws

pub added_by_all : (p : Bool) (r : Registered Managers) (ks : Keyset) (kt : KeyTemplate) (draws : List ℕ) → r ≡ with_everything → added_of p r ks kt draws ≡ added ks kt p (data_by_all kt draws)
unfolding data_by_all
added_by_all p r ks kt draws is = ap (λ (x : Registered Managers). added_of p x ks kt draws) is

-- the template of a name, of the registry of all
pub named_by_all : (r : Registered Managers) (name : List ℕ) → r ≡ with_everything → template_of name r.templates ≡ template_named name
unfolding template_named
named_by_all r name is = ap (λ (x : Registered Managers). template_of name x.templates) is

refused_reply : (a : Added) (kind : Kind) → a.answer ≡ Err kind → (keyset_reply a).0 ≡ Err kind
refused_reply a kind is = rw is refl

given_reply : (a : Added) (id : ℕ) (ks : Keyset) → a.answer ≡ Ok id → a.keyset ≡ ks → (keyset_reply a).0 ≡ Ok ks
given_reply a id ks is same = rw (is, same) refl

-- a manager that refuses to add a key
pub not_grown : (p : Bool) (r : Registered Managers) (ks : Keyset) (kt : KeyTemplate) (draws now : List ℕ) (e : TinkError) → r ≡ with_everything
    → IsShort e.kind draws now ⊎ ((reply (added_of p r ks kt draws)).0 ≡ Err e.kind) × (now ≡ (reply (added_of p r ks kt draws)).1) → (e.kind ≡ OutOfMemory) ⊎ (grown p kt draws ks ≡ Err e.kind)
not_grown p r ks kt draws now e is (inl short) = inl short.kind
not_grown p r ks kt draws now e is (inr told) = inr (refused_reply (added ks kt p (data_by_all kt draws)) e.kind (rw (sym (added_by_all p r ks kt draws is)) told.0))

-- a manager that adds one, and its keyset afterwards
pub is_grown : (p : Bool) (r : Registered Managers) (ks new : Keyset) (kt : KeyTemplate) (draws : List ℕ) (id : ℕ) → r ≡ with_everything
    → (reply (added_of p r ks kt draws)).0 ≡ Ok id → new ≡ (added_of p r ks kt draws).keyset → grown p kt draws ks ≡ Ok new
is_grown p r ks new kt draws id is told same =
    let all = added_by_all p r ks kt draws is in
    given_reply (added ks kt p (data_by_all kt draws)) id new (rw (sym all) told) (rw (sym all) (sym same))

-- ---- a keyset that is made is valid

-- data is made where the template's prefix is known
pub known_by : (kt : KeyTemplate) (draws : List ℕ) (o : Option Managers) (d : KeyData)
    → (adding.new_data (λ m. (row_of m).made_data) kt draws o).0 ≡ Ok d → is_known_prefix kt.output_prefix_type ≡ true
known_by kt draws None d is = absurd (cc)
known_by kt draws (Some m) d is = by_test (is_known_prefix kt.output_prefix_type) refl is
  where
    by_test : (known : Bool) → is_known_prefix kt.output_prefix_type ≡ known
        → (cond known ((row_of m).made_data kt.value draws) (Err UnknownPrefix, draws)).0 ≡ Ok d → is_known_prefix kt.output_prefix_type ≡ true
    by_test true known is = known
    by_test false known is = absurd (cc)

known_prefix : (kt : KeyTemplate) (draws : List ℕ) (d : KeyData) → (data_by_all kt draws).0 ≡ Ok d → is_known_prefix kt.output_prefix_type ≡ true
unfolding data_by_all
known_prefix kt draws d is = known_by kt draws (manager_of (λ m. (row_of m).url) kt.type_url with_everything.managers) d is

-- what is made and may be held is valid
abbrev MakesValid : Bool → KeyTemplate → List ℕ → Keyset → Type 0
MakesValid p kt draws ks = (new : Keyset) → grown p kt draws ks ≡ Ok new → is_held_keyset new ≡ true → is_valid new ≡ true

pub rotated_valid : (p : Bool) (ks : Keyset) (kt : KeyTemplate) (draws : List ℕ) → p ≡ true → are_well_formed ks ≡ true → MakesValid p kt draws ks
rotated_valid p ks kt draws primary formed new is held =
    joined (is_held_keyset new) (is_validated new) held
    (validated ks new kt (data_by_all kt draws) (known_prefix kt draws) formed (subst (λ (q : Bool). grown q kt draws ks ≡ Ok new) primary is))

pub beside_valid : (p : Bool) (ks : Keyset) (kt : KeyTemplate) (draws : List ℕ) → p ≡ false → is_valid ks ≡ true → has_a_primary ks ≡ true → MakesValid p kt draws ks
beside_valid p ks kt draws other valid has new is held =
    joined (is_held_keyset new) (is_validated new) held
    (validated_beside ks new kt (data_by_all kt draws) (known_prefix kt draws) valid has (subst (λ (q : Bool). grown q kt draws ks ≡ Ok new) other is))

-- ---- why a keyset is not made

pub unmade_by : (p : Bool) (kt : KeyTemplate) (ks : Keyset) (draws : List ℕ) (kind : Kind) → MakesKeys kt → 576 ≤ length draws → grown p kt draws ks ≡ Err kind → kind ≡ NoFreshId
unmade_by p kt ks draws kind makes enough is =
    let made = makes draws (omega arith) in
    refused_by_ids p ks kt made.0 made.1 kind (omega (arith, made.3)) (rw made.2 at is)

unmade_from : (name : List ℕ) (kt : KeyTemplate) (start : Result Keyset Kind) (draws : List ℕ) (kind : Kind) → MakesKeys kt → 576 ≤ length draws
    → chained (rotated kt draws) start ≡ Err kind → IsNotRotated name start kind
unmade_from name kt (Ok ks) draws kind makes enough is = inr (inr (unmade_by true kt ks draws kind makes enough is))
unmade_from name kt (Err by) draws kind makes enough is = inr (inl is)

unmade_where : (name : List ℕ) (o : Option KeyTemplate) (start : Result Keyset Kind) (draws : List ℕ) (kind : Kind) → template_named name ≡ o → 576 ≤ length draws
    → rotated_where o start draws ≡ Err kind → IsNotRotated name start kind
unmade_where name None start draws kind named enough is = let same : kind ≡ UnknownTemplate = cc in inl (same, named)
unmade_where name (Some kt) start draws kind named enough is = unmade_from name kt start draws kind (named_makes name kt named) enough is

pub unmade : (name : List ℕ) (start : Result Keyset Kind) (draws : List ℕ) (kind : Kind) → 576 ≤ length draws → rotated_by name start draws ≡ Err kind → IsNotRotated name start kind
unmade name start draws kind enough is = unmade_where name (template_named name) start draws kind refl enough is

pub causes : (name : List ℕ) (start : Result Keyset Kind) (draws : List ℕ) (result : Result Keyset TinkError) → Answers result (rotated_by name start draws)
    → 576 ≤ length draws → IfErr result (λ e. (e.kind ≡ OutOfMemory) ⊎ IsNotRotated name start e.kind)
causes name start draws (Ok ks) answers enough = tt
causes name start draws (Err e) (inl want) enough = inl want
causes name start draws (Err e) (inr told) enough = inr (unmade name start draws e.kind enough told)

-- ---- the answers

-- a copy of the given keyset
pub copied : (told : Result Keyset Kind) (ks h : Keyset) (result : Result Keyset TinkError) → told ≡ Ok ks → h ≡ ks → IfOk result (λ x. x ≡ h) → IfErr result (λ e. e ≡ record { kind = OutOfMemory }) → Answers result told
copied told ks h (Ok x) is same copy want = is ∙ ap (λ (y : Keyset). Ok y) (sym (copy ∙ same))
copied told ks h (Err e) is same copy want = inl (ap (λ (x : TinkError). x.kind) want)

-- it is valid, where each keyset that is made so is
pub copied_valid : (p : Bool) (ks new h : Keyset) (kt : KeyTemplate) (draws : List ℕ) (result : Result Keyset TinkError) → MakesValid p kt draws ks
    → grown p kt draws ks ≡ Ok new → h ≡ new → IfOk result (λ x. x ≡ h) → IfOk result FitsHandle → IfOk result IsValid
copied_valid p ks new h kt draws (Ok x) makes is same copy held = makes x (is ∙ ap (λ (y : Keyset). Ok y) (sym (copy ∙ same))) held
copied_valid p ks new h kt draws (Err e) makes is same copy held = tt

-- no template has the name
pub unknown : (p : Bool) (name : List ℕ) (start : Result Keyset Kind) (draws : List ℕ) (e : TinkError) → e.kind ≡ UnknownTemplate → template_named name ≡ None → (e.kind ≡ OutOfMemory) ⊎ (grown_by p name start draws ≡ Err e.kind)
unknown p name start draws e is none = inr (rw none (ap (λ (k : Kind). Err k) (sym is)))

-- one has it, and the keyset was not refused
pub known : (p : Bool) (name : List ℕ) (kt : KeyTemplate) (start : Result Keyset Kind) (ks m : Keyset) (draws : List ℕ) (result : Result Keyset TinkError) → template_named name ≡ Some kt → start ≡ Ok ks → m ≡ ks
    → Answers result (grown p kt draws m) → Answers result (grown_by p name start draws)
known p name kt start ks m draws result named is same answers = rw (named, is, sym same) answers

-- or it was
pub start_refused : (p : Bool) (name : List ℕ) (kt : KeyTemplate) (start : Result Keyset Kind) (draws : List ℕ) (e : TinkError) → template_named name ≡ Some kt
    → (e.kind ≡ OutOfMemory) ⊎ (start ≡ Err e.kind) → (e.kind ≡ OutOfMemory) ⊎ (grown_by p name start draws ≡ Err e.kind)
start_refused p name kt start draws e named (inl want) = inl want
start_refused p name kt start draws e named (inr is) = inr (rw (named, is) refl)

-- a manager of a valid keyset has well-formed keys
pub formed_manager : (h m : Keyset) → is_valid h ≡ true → m ≡ h → are_well_formed m ≡ true
formed_manager h m valid same = subst (λ x. are_well_formed x ≡ true) (sym same) (formed_of h valid)

-- ---- the draws that are left

-- what adding leaves
pub left_told : (p : Bool) (r : Registered Managers) (ks : Keyset) (kt : KeyTemplate) (draws now : List ℕ) → r ≡ with_everything
    → now ≡ (reply (added_of p r ks kt draws)).1 → now ≡ left_grown p kt draws ks
left_told p r ks kt draws now is left = left ∙ ap (λ (a : Added). a.left) (added_by_all p r ks kt draws is)

-- what a manager leaves that refuses to add a key
pub left_refused : (p : Bool) (r : Registered Managers) (ks : Keyset) (kt : KeyTemplate) (draws now : List ℕ) (e : TinkError) → r ≡ with_everything
    → IsShort e.kind draws now ⊎ ((reply (added_of p r ks kt draws)).0 ≡ Err e.kind) × (now ≡ (reply (added_of p r ks kt draws)).1)
    → IsShort e.kind draws now ⊎ (now ≡ left_grown p kt draws ks)
left_refused p r ks kt draws now e is (inl short) = inl short
left_refused p r ks kt draws now e is (inr told) = inr (left_told p r ks kt draws now is told.1)

-- whatever is answered, where the given draws are left
pub leaves_told : {T : Type 0} (result : Result T TinkError) (left before now : List ℕ) → now ≡ left → LeavesDraws result left before now
leaves_told (Ok v) left before now same = same
leaves_told (Err e) left before now same = inr same

-- nothing is drawn where there is no memory
pub undrawn : (kind : Kind) (draws : List ℕ) → kind ≡ OutOfMemory → IsShort kind draws draws
undrawn kind draws is = record { kind = is; ends = ([], refl) }

-- nor where no template has the name
pub left_unknown : (p : Bool) (name : List ℕ) (start : Result Keyset Kind) (draws : List ℕ) → template_named name ≡ None → draws ≡ left_grown_by p name start draws
left_unknown p name start draws none = rw none refl

-- nor where the keyset was refused
pub left_start : (p : Bool) (name : List ℕ) (kt : KeyTemplate) (start : Result Keyset Kind) (draws : List ℕ) (e : TinkError) → template_named name ≡ Some kt
    → (e.kind ≡ OutOfMemory) ⊎ (start ≡ Err e.kind) → IsShort e.kind draws draws ⊎ (draws ≡ left_grown_by p name start draws)
left_start p name kt start draws e named (inl want) = inl (undrawn e.kind draws want)
left_start p name kt start draws e named (inr is) = inr (rw (named, is) refl)

-- else what adding leaves is left
pub left_known : (p : Bool) (name : List ℕ) (kt : KeyTemplate) (start : Result Keyset Kind) (ks m : Keyset) (draws now : List ℕ) (result : Result Keyset TinkError)
    → template_named name ≡ Some kt → start ≡ Ok ks → m ≡ ks → LeavesDraws result (left_grown p kt draws m) draws now → LeavesDraws result (left_grown_by p name start draws) draws now
left_known p name kt start ks m draws now result named is same leaves = rw (named, is, sym same) leaves
