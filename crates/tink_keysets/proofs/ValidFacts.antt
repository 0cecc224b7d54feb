-- A keyset that was validated is valid.
use Rattle.std.proofs.Common.{◌≡◌, ◌∙◌, ◌&&◌, inr, Bool, true, false, cond, refl, subst, sym}
use Rattle.std.specs.Prelude.{Result, Ok, Err, IfOk}
use Rattle.tink_io.specs.declared.error.Kind.{Kind}
use Rattle.tink_io.specs.declared.error.Kind.TheVariants.{InvalidKeyset}
use Rattle.tink_io.specs.declared.error.TinkError.{TinkError}
use Rattle.tink_io.specs.Answering.{Answers, Tells}
use Rattle.tink_proto.specs.declared.messages.keys.Keyset.{Keyset}
use Rattle.keyset_model.specs.Validity.{has_a_key, is_held_keyset, is_valid, is_validated, IsValid}
use Rattle.wire_format.specs.ColumnLaws.{and_left}
use Rattle.tink_keysets.specs.Handles.{handle_of_keys}
use Rattle.tink_keysets.specs.Valid.{valid_or_refused}

by_test : (ks h : Keyset) (valid : Bool) → is_valid ks ≡ valid → cond valid (Ok ks) (Err InvalidKeyset) ≡ Ok h → is_valid h ≡ true
by_test ks h true valid is = let same : ks ≡ h = cc in subst (λ x. is_valid x ≡ true) same valid
by_test ks h false valid is = absurd (cc)

pub answers_valid : (ks : Keyset) (result : Result Keyset TinkError) → Answers result (valid_or_refused ks) → IfOk result IsValid
answers_valid ks (Ok h) is = by_test ks h (is_valid ks) refl is
answers_valid ks (Err e) is = tt

by_tests : {T : Type 0} (there held valid : Bool) (given none : T) → there ≡ true → valid ≡ true → cond there (cond held given none) none ≡ cond (held && valid) given none
by_tests true true true given none a b = refl
by_tests true false true given none a b = refl
by_tests true held false given none a b = absurd (cc)
by_tests false held valid given none a b = absurd (cc)

tells_answers : {T : Type 0} (r : Result T TinkError) (told other : Result T Kind) → told ≡ other → Tells r told → Answers r other
tells_answers (Ok v) told other same h = sym same ∙ h
tells_answers (Err e) told other same h = inr (sym same ∙ h)

-- a validated keyset has a key
has_key : (ks : Keyset) → is_validated ks ≡ true → has_a_key ks ≡ true
has_key ks valid = and_left _ _ (and_left _ _ (and_left _ _ (and_left _ _ valid)))

pub validated_answers : (ks : Keyset) (r : Result Keyset TinkError) → is_validated ks ≡ true → Tells r (handle_of_keys ks) → Answers r (valid_or_refused ks)
validated_answers ks r valid h =
    tells_answers r (handle_of_keys ks) (valid_or_refused ks) (by_tests (has_a_key ks) (is_held_keyset ks) (is_validated ks) (Ok ks) (Err InvalidKeyset) (has_key ks valid) valid) h
