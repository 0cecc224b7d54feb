-- What is known of a token once it is read.
use Rattle.std.proofs.Common.{◌≡◌, ◌∙◌, ◌++◌, ◌∷◌, ℕ, List, Option, Result, Ok, Err, IfOk, IfErr, refl, sym, ap, ap₂, subst, inl, inr}
use Rattle.base64.specs.GeneralPurpose.{IsBytes}
use Rattle.tink_io.specs.declared.error.Kind.{Kind}
use Rattle.tink_io.specs.declared.error.Kind.TheVariants.{MacMismatch, OutOfMemory}
use Rattle.tink_io.specs.declared.error.TinkError.{TinkError}
use Rattle.tink_io.specs.Answering.{Answers, made_of}
use Rattle.tink_primitives.specs.Meaning.{IsMatch}
use Rattle.tink_sets.specs.declared.entry.TypedEntry.{TypedEntry}
use Rattle.tink_mac.specs.Wrapped.{any_verifies, primary_mac, Computes, Verifies}
use Rattle.tink_mac.specs.WrappedLaws.{any_verifies_told}
use Rattle.tink_mac.specs.Reading.{IsRead, IsSpelling, IsSplit}
use Rattle.tink_mac.specs.Tokens.{dot, spelled, IsAccepted, IsAnswered, IsOneToken, IsTokenRefused, IsSigning, IsTokenOf, IsVerifying}

pub one_token : (token front back payload mac : List ℕ) → IsSplit token front back → IsSpelling front payload
    → IsSpelling back mac → IsOneToken token payload mac
one_token token front back payload mac split first second = record {
  is = record {
    payload_bytes = first.fit;
    mac_bytes = second.fit;
    text = split.whole ∙ ap₂ (λ f b. f ++ dot ∷ b) first.is second.is;
  };
  alone = λ p m is.
      let sides = split.alone p m is.text in
      (first.alone p is.payload_bytes sides.0, second.alone m is.mac_bytes sides.1);
}

-- what signing gives, from a token's two halves
pub signing : {P : Type 0} (computes : Computes P) (primary : Option (TypedEntry P)) (payload front mac tag : List ℕ)
    (result : Result (List ℕ) TinkError) → IsBytes payload → IsBytes mac → front ≡ spelled payload → mac ≡ tag
    → primary_mac computes primary front ≡ Ok tag → IfOk result (λ t. t ≡ front ++ dot ∷ spelled mac)
    → IfErr result (λ e. e.kind ≡ OutOfMemory) → IsSigning computes primary payload result
signing computes primary payload front mac tag (Ok token) fits mac_fits is same made text cause = record {
  mac = mac;
  is = record { payload_bytes = fits; mac_bytes = mac_fits; text = text ∙ ap (λ f. f ++ dot ∷ spelled mac) is };
  made = ap (primary_mac computes primary) (sym is) ∙ made ∙ ap Ok (sym same);
}
signing computes primary payload front mac tag (Err e) fits mac_fits is same made text cause = inl cause

module _ {P : Type 0} (verifies : Verifies P) (group : List ℕ → List (TypedEntry P)) (token : List ℕ) where
  answered : (front back payload mac : List ℕ) (answer : Result (Unit {0}) Kind) → IsSplit token front back
      → IsSpelling front payload → IsSpelling back mac → any_verifies verifies group mac front ≡ answer
      → IsAnswered verifies group token answer payload
  answered front back payload mac answer split first second told = record {
    mac = mac;
    is = one_token token front back payload mac split first second;
    answered = ap (any_verifies verifies group mac) (sym first.is) ∙ told;
  }

  -- `OutOfMemory`, or what a part that is no spelling shows
  pub unread : (text : List ℕ) (e : TinkError) → IsRead text (Err e)
      → ((p m : List ℕ) → IsTokenOf token p m → (b : List ℕ) × (IsBytes b × (text ≡ spelled b)))
      → IsTokenRefused verifies group token e.kind
  unread text e (inl memory) part = inl memory
  unread text e (inr bad) part =
      inr (inl (bad.0, λ p m is. let b = part p m is in bad.1 b.0 b.1.0 b.1.1))

  by_answer : (answer : Result (Unit {0}) Kind) (payload : List ℕ) (result : Result (List ℕ) TinkError) → IsMatch answer
      → IsAnswered verifies group token answer payload → Answers result (made_of (λ _. payload) answer)
      → IsVerifying verifies group token result
  by_answer (Ok tt) payload (Ok p) is a told = let same : payload ≡ p = cc told in subst (IsAnswered verifies group token (Ok tt)) same a
  by_answer (Ok tt) payload (Err e) is a (inl memory) = inl memory
  by_answer (Ok tt) payload (Err e) is a (inr told) = absurd (cc)
  by_answer (Err MacMismatch) payload (Ok p) is a told = absurd (cc)
  by_answer (Err MacMismatch) payload (Err e) is a (inl memory) = inl memory
  by_answer (Err MacMismatch) payload (Err e) is a (inr told) =
      let kind : e.kind ≡ MacMismatch = cc told in inr (inr (kind, (payload, a)))
  by_answer (Err _) payload result is a told = absurd is

  -- what the entries answer on a token that was read
  pub checked : (front back payload mac : List ℕ) (result : Result (List ℕ) TinkError) → IsSplit token front back
      → IsSpelling front payload → IsSpelling back mac
      → Answers result (made_of (λ _. payload) (any_verifies verifies group mac front))
      → IsVerifying verifies group token result
  checked front back payload mac result split first second told =
      let answer = any_verifies verifies group mac front in
      by_answer answer payload result (any_verifies_told verifies group mac front) (answered front back payload mac answer split first second refl) told

  -- ---- a token that is accepted

  ok_err : (r : Result (Unit {0}) Kind) (k : Kind) → r ≡ Ok tt → r ≡ Err k → ⊥
  ok_err r k first second = let two = sym first ∙ second in absurd (cc)

  same_answer : (payload p : List ℕ) (answer : Result (Unit {0}) Kind) → IsAccepted verifies group token p
      → IsAnswered verifies group token answer payload → (p ≡ payload) × (answer ≡ Ok tt)
  same_answer payload p answer accepted a =
      let same = a.is.alone p accepted.mac accepted.is in (
        same.0,
        sym a.answered ∙ ap₂ (λ m q. any_verifies verifies group m (spelled q)) (sym same.1) (sym same.0) ∙ accepted.accepted,
      )

  pub succeeds : (result : Result (List ℕ) TinkError) → IsVerifying verifies group token result → (p : List ℕ)
      → IsAccepted verifies group token p → Answers result (Ok p)
  succeeds (Ok payload) a p accepted = ap Ok (same_answer payload p (Ok tt) accepted a).0
  succeeds (Err e) (inl memory) p accepted = inl memory
  succeeds (Err e) (inr (inl none)) p accepted = absurd (none.1 p accepted.mac accepted.is)
  succeeds (Err e) (inr (inr other)) p accepted =
      absurd (ok_err (Err MacMismatch) MacMismatch (same_answer other.1.0 p (Err MacMismatch) accepted other.1.1).1 refl)
