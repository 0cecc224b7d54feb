-- Why a key is not added beside the primary one, none of the same primitive is made, and none with another output prefix, where draws suffice.
use Rattle.std.proofs.Common.{◌≡◌, ◌⊎◌, ◌≤◌, ℕ, ℤ, List, Bool, true, false, Option, Some, None, Ok, Err, Result, ap, arith, inl, inr, length, refl}
use Rattle.std.specs.Prelude.{cond, IfErr}
use Rattle.tink_io.specs.Answering.{Answers}
use Rattle.tink_io.specs.declared.error.Kind.{Kind}
use Rattle.tink_io.specs.declared.error.Kind.TheVariants.{NoPrimary, OutOfMemory, UnknownPrefix, UnknownTemplate, WrongPrimitive}
use Rattle.tink_io.specs.declared.error.TinkError.{TinkError}
use Rattle.tink_proto.specs.Enums.{prefix_number}
use Rattle.tink_proto.specs.declared.enums.OutputPrefixType.{OutputPrefixType}
use Rattle.tink_proto.specs.declared.enums.OutputPrefixType.TheVariants as prefixes
use Rattle.tink_proto.specs.declared.messages.keys.KeyData.{KeyData}
use Rattle.tink_proto.specs.declared.messages.keys.KeyTemplate.{KeyTemplate}
use Rattle.tink_proto.specs.declared.messages.keys.Keyset.{Keyset}
use Rattle.keyset_model.specs.Adding as adding
use Rattle.keyset_model.specs.Entries.{is_known_prefix}
use Rattle.keyset_model.specs.Validity.{has_a_primary}
use Rattle.tink_registry.specs.Listed.{manager_of}
use Rattle.tink_keysets.specs.Encrypted.{chained}
use Rattle.tink_keysets.specs.Managed.{no_keys}
use Rattle.tink.specs.Managers.{row_of}
use Rattle.tink.specs.Registered.{with_everything}
use Rattle.tink.specs.declared.managers.Managers.{Managers}
use Rattle.tink_keygen.specs.Growing.{grown_beside, grown_beside_by, grown_beside_where, is_alike, prefixed, prefixed_by, prefixed_where, rotated_alike, rotated_alike_by, rotated_alike_where, IsNotAdded, IsNotAlike, IsNotPrefixed}
use Rattle.tink_keygen.specs.NamedTemplates.{data_by_all, template_named}
use Rattle.tink_keygen.specs.Rotating.{grown, rotated, IsNotRotated}
use Rattle.tink_keygen.proofs.RotatingSteps.{known_by, unmade_by}
use Rattle.tink_keygen.proofs.TemplateFacts.{named_makes, MakesKeys}

-- the cause of an error, from that of the answer that is wanted
caused : (wanted : Result Keyset Kind) (Is : Kind → Type 0) (result : Result Keyset TinkError) → Answers result wanted → ((kind : Kind) → wanted ≡ Err kind → Is kind)
    → IfErr result (λ e. (e.kind ≡ OutOfMemory) ⊎ Is e.kind)
caused wanted Is (Ok ks) answers because = tt
caused wanted Is (Err e) (inl want) because = inl want
caused wanted Is (Err e) (inr is) because = inr (because e.kind is)

-- ---- beside the primary key

beside_if : (name : List ℕ) (kt : KeyTemplate) (ks : Keyset) (draws : List ℕ) (kind : Kind) (has : Bool) → MakesKeys kt → 576 ≤ length draws → has_a_primary ks ≡ has
    → cond has (grown false kt draws ks) (Err NoPrimary) ≡ Err kind → IsNotAdded name (Ok ks) kind
beside_if name kt ks draws kind true makes enough test is = inl (inr (inr (unmade_by false kt ks draws kind makes enough is)))
beside_if name kt ks draws kind false makes enough test is = let same : kind ≡ NoPrimary = cc in inr (same, (ks, refl, test))

beside_from : (name : List ℕ) (kt : KeyTemplate) (start : Result Keyset Kind) (draws : List ℕ) (kind : Kind) → MakesKeys kt → 576 ≤ length draws
    → chained (grown_beside kt draws) start ≡ Err kind → IsNotAdded name start kind
beside_from name kt (Ok ks) draws kind makes enough is = beside_if name kt ks draws kind (has_a_primary ks) makes enough refl is
beside_from name kt (Err by) draws kind makes enough is = inl (inr (inl is))

beside_where : (name : List ℕ) (o : Option KeyTemplate) (start : Result Keyset Kind) (draws : List ℕ) (kind : Kind) → template_named name ≡ o → 576 ≤ length draws
    → grown_beside_where o start draws ≡ Err kind → IsNotAdded name start kind
beside_where name None start draws kind named enough is = let same : kind ≡ UnknownTemplate = cc in inl (inl (same, named))
beside_where name (Some kt) start draws kind named enough is = beside_from name kt start draws kind (named_makes name kt named) enough is

pub beside_causes : (name : List ℕ) (start : Result Keyset Kind) (draws : List ℕ) (result : Result Keyset TinkError) → Answers result (grown_beside_by name start draws)
    → 576 ≤ length draws → IfErr result (λ e. (e.kind ≡ OutOfMemory) ⊎ IsNotAdded name start e.kind)
beside_causes name start draws result answers enough =
    caused (grown_beside_by name start draws) (IsNotAdded name start) result answers (λ kind is. beside_where name (template_named name) start draws kind refl enough is)

-- ---- of the same primitive

alike_if : (name : List ℕ) (kt : KeyTemplate) (ks : Keyset) (draws : List ℕ) (kind : Kind) (alike : Bool) → MakesKeys kt → template_named name ≡ Some kt → 576 ≤ length draws
    → is_alike ks kt ≡ alike → cond alike (rotated kt draws ks) (Err WrongPrimitive) ≡ Err kind → IsNotAlike name (Ok ks) kind
alike_if name kt ks draws kind true makes named enough test is = inl (inr (inr (unmade_by true kt ks draws kind makes enough is)))
alike_if name kt ks draws kind false makes named enough test is = let same : kind ≡ WrongPrimitive = cc in inr (same, (ks, kt, refl, named, test))

alike_from : (name : List ℕ) (kt : KeyTemplate) (start : Result Keyset Kind) (draws : List ℕ) (kind : Kind) → MakesKeys kt → template_named name ≡ Some kt → 576 ≤ length draws
    → chained (rotated_alike kt draws) start ≡ Err kind → IsNotAlike name start kind
alike_from name kt (Ok ks) draws kind makes named enough is = alike_if name kt ks draws kind (is_alike ks kt) makes named enough refl is
alike_from name kt (Err by) draws kind makes named enough is = inl (inr (inl is))

alike_where : (name : List ℕ) (o : Option KeyTemplate) (start : Result Keyset Kind) (draws : List ℕ) (kind : Kind) → template_named name ≡ o → 576 ≤ length draws
    → rotated_alike_where o start draws ≡ Err kind → IsNotAlike name start kind
alike_where name None start draws kind named enough is = let same : kind ≡ UnknownTemplate = cc in inl (inl (same, named))
alike_where name (Some kt) start draws kind named enough is = alike_from name kt start draws kind (named_makes name kt named) named enough is

pub alike_causes : (name : List ℕ) (start : Result Keyset Kind) (draws : List ℕ) (result : Result Keyset TinkError) → Answers result (rotated_alike_by name start draws)
    → 576 ≤ length draws → IfErr result (λ e. (e.kind ≡ OutOfMemory) ⊎ IsNotAlike name start e.kind)
alike_causes name start draws result answers enough =
    caused (rotated_alike_by name start draws) (IsNotAlike name start) result answers (λ kind is. alike_where name (template_named name) start draws kind refl enough is)

-- ---- with another output prefix

abbrev data_by : KeyTemplate → List ℕ → Option Managers → Result KeyData Kind × List ℕ
data_by kt draws o = adding.new_data (λ m. (row_of m).made_data) kt draws o

-- the same data is made for another known prefix
same_data : (kt : KeyTemplate) (n : ℤ) (draws : List ℕ) (o : Option Managers) (d : KeyData) → is_known_prefix n ≡ true → (data_by kt draws o).0 ≡ Ok d
    → data_by (record kt { output_prefix_type = n }) draws o ≡ data_by kt draws o
same_data kt n draws None d known is = refl
same_data kt n draws (Some m) d known is = rw (known, known_by kt draws (Some m) d is) refl

-- and none for an unknown one
no_data : (kt : KeyTemplate) (n : ℤ) (draws : List ℕ) (o : Option Managers) (d : KeyData) → is_known_prefix n ≡ false → (data_by kt draws o).0 ≡ Ok d
    → data_by (record kt { output_prefix_type = n }) draws o ≡ (Err UnknownPrefix, draws)
no_data kt n draws None d unknown is = absurd (cc)
no_data kt n draws (Some m) d unknown is = rw unknown refl

managed : KeyTemplate → Option Managers
managed kt = manager_of (λ m. (row_of m).url) kt.type_url with_everything.managers

with_known : (kt : KeyTemplate) (n : ℤ) → is_known_prefix n ≡ true → MakesKeys kt → MakesKeys (record kt { output_prefix_type = n })
unfolding data_by_all managed
with_known kt n known makes draws enough =
    let made = makes draws enough in
    let same = same_data kt n draws (managed kt) made.0 known (ap (λ (x : Result KeyData Kind × List ℕ). x.0) made.2) in
    rw same made

refused_unknown : (ks : Keyset) (kind : Kind) → adding.keyset_or (Err UnknownPrefix) ks ≡ Err kind → kind ≡ UnknownPrefix
refused_unknown ks kind is = cc

refused_prefix : (kt : KeyTemplate) (ks : Keyset) (draws : List ℕ) (kind : Kind) (made : Result KeyData Kind × List ℕ) → made ≡ (Err UnknownPrefix, draws)
    → (adding.keyset_reply (adding.added ks kt true made)).0 ≡ Err kind → kind ≡ UnknownPrefix
refused_prefix kt ks draws kind made same is = refused_unknown ks kind (rw same at is)

unknown_prefix : (kt : KeyTemplate) (draws : List ℕ) (kind : Kind) → MakesKeys kt → 576 ≤ length draws → rotated (prefixed (Some prefixes.UnknownPrefix) kt) draws no_keys ≡ Err kind → kind ≡ UnknownPrefix
unfolding data_by_all managed
unknown_prefix kt draws kind makes enough is =
    let made = makes draws (omega arith) in
    let none = no_data kt (prefix_number prefixes.UnknownPrefix) draws (managed kt) made.0 refl (ap (λ (x : Result KeyData Kind × List ℕ). x.0) made.2) in
    refused_prefix (prefixed (Some prefixes.UnknownPrefix) kt) no_keys draws kind (data_by_all (prefixed (Some prefixes.UnknownPrefix) kt) draws) none is

prefixed_from : (name : List ℕ) (prefix : Option OutputPrefixType) (kt : KeyTemplate) (draws : List ℕ) (kind : Kind) → MakesKeys kt → 576 ≤ length draws
    → rotated (prefixed prefix kt) draws no_keys ≡ Err kind → IsNotPrefixed prefix name kind
prefixed_from name None kt draws kind makes enough is = inl (inr (inr (unmade_by true kt no_keys draws kind makes enough is)))
prefixed_from name (Some prefixes.UnknownPrefix) kt draws kind makes enough is = inr (unknown_prefix kt draws kind makes enough is, refl)
prefixed_from name (Some prefixes.Tink) kt draws kind makes enough is =
    inl (inr (inr (unmade_by true (prefixed (Some prefixes.Tink) kt) no_keys draws kind (with_known kt (prefix_number prefixes.Tink) refl makes) enough is)))
prefixed_from name (Some prefixes.Legacy) kt draws kind makes enough is =
    inl (inr (inr (unmade_by true (prefixed (Some prefixes.Legacy) kt) no_keys draws kind (with_known kt (prefix_number prefixes.Legacy) refl makes) enough is)))
prefixed_from name (Some prefixes.Raw) kt draws kind makes enough is =
    inl (inr (inr (unmade_by true (prefixed (Some prefixes.Raw) kt) no_keys draws kind (with_known kt (prefix_number prefixes.Raw) refl makes) enough is)))
prefixed_from name (Some prefixes.Crunchy) kt draws kind makes enough is =
    inl (inr (inr (unmade_by true (prefixed (Some prefixes.Crunchy) kt) no_keys draws kind (with_known kt (prefix_number prefixes.Crunchy) refl makes) enough is)))

prefixed_by_name : (name : List ℕ) (prefix : Option OutputPrefixType) (o : Option KeyTemplate) (draws : List ℕ) (kind : Kind) → template_named name ≡ o → 576 ≤ length draws
    → prefixed_where prefix o draws ≡ Err kind → IsNotPrefixed prefix name kind
prefixed_by_name name prefix None draws kind named enough is = let same : kind ≡ UnknownTemplate = cc in inl (inl (same, named))
prefixed_by_name name prefix (Some kt) draws kind named enough is = prefixed_from name prefix kt draws kind (named_makes name kt named) enough is

pub prefixed_causes : (name : List ℕ) (prefix : Option OutputPrefixType) (draws : List ℕ) (result : Result Keyset TinkError) → Answers result (prefixed_by prefix name draws)
    → 576 ≤ length draws → IfErr result (λ e. (e.kind ≡ OutOfMemory) ⊎ IsNotPrefixed prefix name e.kind)
prefixed_causes name prefix draws result answers enough =
    caused (prefixed_by prefix name draws) (IsNotPrefixed prefix name) result answers (λ kind is. prefixed_by_name name prefix (template_named name) draws kind refl enough is)
