-- From the calls that make a keyset and write its line to their answers.
use Rattle.std.proofs.Common.{◌≡◌, ◌⊎◌, inl, inr, ◌≤◌, ℕ, List, length, Bool, true, false, Some, None, cond, refl, sym, ◌∙◌, ap, subst, arith}
use Rattle.std.specs.Prelude.{Ok, Err, Option, Result, IfErr, IfOk, OnErr, OnOk, Vec}
use Rattle.std.specs.Io.KnownBytes.{Appends}
use Rattle.wire_format.specs.Message.{decoded}
use Rattle.tink_io.specs.Faults.{Rose}
use Rattle.tink_io.specs.Answering.{or_refused}
use Rattle.tink_io.specs.Written.{AppendsPrefix}
use Rattle.tink_io.specs.declared.error.Kind.{Kind}
use Rattle.tink_io.specs.declared.error.Kind.TheVariants.{OutOfMemory, WriteFault, BadKeyset, InvalidKeyset, UnknownTemplate, NoFreshId}
use Rattle.tink_io.specs.declared.error.TinkError.{TinkError}
use Rattle.tink_proto.specs.Messages as messages
use Rattle.tink_proto.specs.declared.messages.keys.Keyset.{Keyset}
use Rattle.keyset_model.specs.Validity.{is_valid}
use Rattle.tink_keysets.specs.Encrypted.{chained}
use Rattle.tink_keysets.specs.Managed.{no_keys}
use Rattle.tink_keysets.specs.Valid.{valid_keyset, valid_or_refused}
use Rattle.tink_keygen.specs.Rotating.{key_line, rotated_by, IsNotRotated}
use Rattle.tink_program_core.specs.Draws.{draws_in}
use Rattle.tink_tokens.specs.Inputs.{IsUnwritten}
use Rattle.tink_program_core.specs.Keysets.{made_keyset, GivesLine, IsLine, RefusesRotation, IsUnmadeBy, RefusesLine, Rotation, WritesLine}
use Rattle.tink_program_core.proofs.StreamLemmas.{length-draws_in}

-- ---- by which kinds a keyset is not made

-- how a given keyset is refused
abbrev pub RefusesGiven : Result Keyset Kind → Type 0
RefusesGiven start = (kind : Kind) → start ≡ Err kind → (kind ≡ BadKeyset) ⊎ (kind ≡ InvalidKeyset)

pub no_keys_given : RefusesGiven (Ok no_keys)
no_keys_given kind is = absurd (cc is)

valid_given : (ks : Keyset) (valid : Bool) → RefusesGiven (cond valid (Ok ks) (Err InvalidKeyset))
valid_given ks true kind is = absurd (cc is)
valid_given ks false kind is = let same : kind ≡ InvalidKeyset = cc is in inr same

decoded_given : (o : Option Keyset) → RefusesGiven (chained valid_or_refused (or_refused BadKeyset o))
decoded_given None kind is = let same : kind ≡ BadKeyset = cc is in inl same
decoded_given (Some ks) kind is = valid_given ks (is_valid ks) kind is

pub keyset_given : (bytes : List ℕ) → RefusesGiven (valid_keyset bytes)
keyset_given bytes = decoded_given (decoded messages.keyset.read bytes)

as_refusal : (r : Rotation) (kind to : Kind) → kind ≡ to → IsUnmadeBy r kind → (IsUnmadeBy r to → RefusesRotation r to) → RefusesRotation r kind
as_refusal r kind to is unmade gives = subst (λ k. RefusesRotation r k) (sym is) (gives (subst (λ k. IsUnmadeBy r k) is unmade))

by_given : (r : Rotation) (kind : Kind) → IsUnmadeBy r kind → (kind ≡ BadKeyset) ⊎ (kind ≡ InvalidKeyset) → RefusesRotation r kind
by_given r kind unmade (inl is) = as_refusal r kind BadKeyset is unmade (λ m. m)
by_given r kind unmade (inr is) = as_refusal r kind InvalidKeyset is unmade (λ m. m)

by_cause : (r : Rotation) (kind : Kind) → RefusesGiven r.start → IsUnmadeBy r kind → IsNotRotated r.template r.start kind → RefusesRotation r kind
by_cause r kind given unmade (inl p) = as_refusal r kind UnknownTemplate p.0 unmade (λ m. m)
by_cause r kind given unmade (inr (inl is)) = by_given r kind unmade (given kind is)
by_cause r kind given unmade (inr (inr is)) = as_refusal r kind NoFreshId is unmade (λ m. m)

pub want_refusal : (r : Rotation) (kind : Kind) → kind ≡ OutOfMemory → RefusesRotation r kind
want_refusal r kind is = subst (λ k. RefusesRotation r k) (sym is) tt

-- the values that a call was handed are those of the rotation
same_made : (r : Rotation) (t : List ℕ) (start : Result Keyset Kind) (d : List ℕ) → t ≡ r.template → start ≡ r.start → d ≡ draws_in r.seed 256 → rotated_by t start d ≡ made_keyset r
same_made r t start d template_is start_is draws_are =
    ap (λ x. rotated_by x start d) template_is ∙ ap (λ x. rotated_by r.template x d) start_is ∙ ap (λ x. rotated_by r.template r.start x) draws_are

same_cause : (r : Rotation) (t : List ℕ) (start : Result Keyset Kind) (kind : Kind) → t ≡ r.template → start ≡ r.start → IsNotRotated t start kind → IsNotRotated r.template r.start kind
same_cause r t start kind template_is start_is cause =
    subst (λ x. IsNotRotated r.template x kind) start_is (subst (λ x. IsNotRotated x start kind) template_is cause)

-- a refusal of the call that makes the keyset
pub refusal : (r : Rotation) (t : List ℕ) (start : Result Keyset Kind) (d : List ℕ) (e : TinkError) → RefusesGiven r.start → t ≡ r.template → start ≡ r.start → d ≡ draws_in r.seed 256
    → (e.kind ≡ OutOfMemory) ⊎ (rotated_by t start d ≡ Err e.kind) → (576 ≤ length d → (e.kind ≡ OutOfMemory) ⊎ IsNotRotated t start e.kind) → RefusesRotation r e.kind
refusal r t start d e given template_is start_is draws_are (inl want) cause = want_refusal r e.kind want
refusal r t start d e given template_is start_is draws_are (inr told) cause =
    by_told (cause (omega (arith, ap (length {A = ℕ}) draws_are, length-draws_in r.seed 256)))
  where
    by_told : (e.kind ≡ OutOfMemory) ⊎ IsNotRotated t start e.kind → RefusesRotation r e.kind
    by_told (inl want) = want_refusal r e.kind want
    by_told (inr is) =
        let cause = same_cause r t start e.kind template_is start_is is in
        by_cause r e.kind given (record { made = sym (same_made r t start d template_is start_is draws_are) ∙ told; cause = cause }) cause

-- the line of the keyset that was made
pub line : {G : Type 0} (r : Rotation) (t : List ℕ) (start : Result Keyset Kind) (d : List ℕ) (ks : Keyset) (result : Result (Vec ℕ G) TinkError) → t ≡ r.template → start ≡ r.start → d ≡ draws_in r.seed 256
    → rotated_by t start d ≡ Ok ks → IfOk result (λ v. v.items ≡ key_line ks) → IfErr result (λ e. e ≡ record { kind = OutOfMemory }) → GivesLine r result
line r t start d ks (Ok v) template_is start_is draws_are made text want =
    record { keyset = ks; made = sym (same_made r t start d template_is start_is draws_are) ∙ made; text_is = text }
line r t start d ks (Err e) template_is start_is draws_are made text want = want_refusal r e.kind (ap (λ (x : TinkError). x.kind) want)

-- ---- writing the line

-- nothing was written
pub not_written : (r : Rotation) (got : Option (List ℕ)) (faults : ℕ) (kind : Kind) → RefusesRotation r kind → RefusesLine r got got faults faults kind
not_written r got faults WriteFault m = absurd m
not_written r got faults _ m = (m, refl, refl)

-- the line was written, or a prefix of it
pub text_written : (r : Rotation) (old new : Option (List ℕ)) (before now : ℕ) (text written : List ℕ) (result : Result (Unit {0}) TinkError) → IsLine r text → written ≡ text
    → OnOk result (Appends old new written) → OnErr result (AppendsPrefix old new written) → OnErr result (Rose before now) → IfErr result (λ e. e ≡ record { kind = WriteFault })
    → WritesLine r old new before now result
text_written r old new before now text written (Ok done) is same whole front rose fault = (text, is, subst (λ x. Appends old new x) same whole)
text_written r old new before now text written (Err e) is same whole front rose fault =
    rw (ap (λ (x : TinkError). x.kind) fault) (text, is, subst (λ x. AppendsPrefix old new x) same front, rose)

-- a fault is no kind by which nothing is written
pub fault_left : {K : Type 0} (old new : K) (result : Result (Unit {0}) TinkError) → IfErr result (λ e. e ≡ record { kind = WriteFault }) → IfErr result (λ e. IsUnwritten e.kind → new ≡ old)
fault_left old new (Ok done) fault = tt
fault_left old new (Err e) fault = λ none. absurd (subst (λ k. IsUnwritten k) (ap (λ (x : TinkError). x.kind) fault) none)

-- a refusal before the sink was touched
pub untouched_left : {K T : Type 0} (sink : K) (result : Result T TinkError) → IfErr result (λ e. IsUnwritten e.kind → sink ≡ sink)
untouched_left sink (Ok v) = tt
untouched_left sink (Err e) = λ _. refl
