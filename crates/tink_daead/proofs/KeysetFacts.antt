-- Which inputs the AES-SIV keys of a keyset decrypt.
use Rattle.std.proofs.Common.{◌≡◌, ◌∙◌, ◌⊎◌, inl, inr, ℕ, List, [], ◌∷◌, Bool, true, false, Option, Some, None, Result, Ok, Err, length, take, drop, refl, sym, ap}
use Rattle.std.specs.Prelude.{if◌then◌else◌, nat_lt}
use Rattle.std.specs.List.{All}
use Rattle.std.proofs.lemmas.Bool.{lt-ltb, ltb-true}
use Rattle.std.proofs.lemmas.List.Elements.{All-cons, All-head, All-nil, All-tail}
use Rattle.tink_io.specs.declared.error.Kind.{Kind}
use Rattle.tink_io.specs.declared.error.Kind.TheVariants.{DecryptFailed}
use Rattle.tink_keysets.specs.Accepting.{first_value, or_else, value_or}
use Rattle.tink_daead.specs.AesSiv.{aes_siv_decrypts}
use Rattle.tink_daead.specs.KeysetLaws.{EncryptsNoTextTo, HasSivKey, IsSealedByFirst, KeysetsDecryptExactly, SivEntry}
use Rattle.tink_daead.proofs.SivFacts.{accepts_exactly}

-- ---- the first of a list

module _ (aad x : List ℕ) where
  abbrev answer : SivEntry → Result (List ℕ) Kind
  answer e = aes_siv_decrypts e.primitive x aad

  head_ok : (e : SivEntry) (es : List SivEntry) (t : List ℕ) → answer e ≡ Ok t → first_value answer (e ∷ es) ≡ Some t
  head_ok e es t is = rw (is, first_value) refl

  head_err : (e : SivEntry) (es : List SivEntry) (k : Kind) → answer e ≡ Err k → first_value answer (e ∷ es) ≡ first_value answer es
  head_err e es k is = rw (is, first_value) refl

  -- an entry that refuses encrypts no text to the input
  refuses : (e : SivEntry) (k : Kind) → HasSivKey e → answer e ≡ Err k → EncryptsNoTextTo aad x e
  refuses e k key is = λ t made. let clash = sym ((accepts_exactly e.primitive x aad t key).1 made) ∙ is in absurd (cc)

  found_head : (e : SivEntry) (es : List SivEntry) (t : List ℕ) (r : Result (List ℕ) Kind) → HasSivKey e → answer e ≡ r → (first_value answer es ≡ Some t → IsSealedByFirst aad t x es)
      → first_value answer (e ∷ es) ≡ Some t → IsSealedByFirst aad t x (e ∷ es)
  found_head e es t (Ok u) key is more found =
      let same : u ≡ t = let s = sym (head_ok e es u is) ∙ found in cc in
      inl ((accepts_exactly e.primitive x aad t key).0 (is ∙ ap Ok same))
  found_head e es t (Err k) key is more found = inr (refuses e k key is, more (sym (head_err e es k is) ∙ found))

  found : (es : List SivEntry) (t : List ℕ) → All HasSivKey es → first_value answer es ≡ Some t → IsSealedByFirst aad t x es
  found [] t keys is = absurd (cc)
  found (e ∷ es) t keys is = found_head e es t (answer e) (All-head HasSivKey e es keys) refl (found es t (All-tail HasSivKey e es keys)) is

  none_head : (e : SivEntry) (es : List SivEntry) (r : Result (List ℕ) Kind) → HasSivKey e → answer e ≡ r → (first_value answer es ≡ None → All (EncryptsNoTextTo aad x) es)
      → first_value answer (e ∷ es) ≡ None → All (EncryptsNoTextTo aad x) (e ∷ es)
  none_head e es (Ok u) key is more none = let s = sym (head_ok e es u is) ∙ none in absurd (cc)
  none_head e es (Err k) key is more none = All-cons (EncryptsNoTextTo aad x) e es (refuses e k key is) (more (sym (head_err e es k is) ∙ none))

  none : (es : List SivEntry) → All HasSivKey es → first_value answer es ≡ None → All (EncryptsNoTextTo aad x) es
  none [] keys is = All-nil (EncryptsNoTextTo aad x)
  none (e ∷ es) keys is = none_head e es (answer e) (All-head HasSivKey e es keys) refl (none es (All-tail HasSivKey e es keys)) is

  -- an entry that encrypts no text to the input is passed over
  passed_over : (e : SivEntry) (es : List SivEntry) (r : Result (List ℕ) Kind) → HasSivKey e → answer e ≡ r → EncryptsNoTextTo aad x e → first_value answer (e ∷ es) ≡ first_value answer es
  passed_over e es (Ok u) key is never = absurd (never u ((accepts_exactly e.primitive x aad u key).0 is))
  passed_over e es (Err k) key is never = head_err e es k is

  finds : (es : List SivEntry) (t : List ℕ) → All HasSivKey es → IsSealedByFirst aad t x es → first_value answer es ≡ Some t
  finds [] t keys sealed = absurd sealed
  finds (e ∷ es) t keys (inl made) = head_ok e es t ((accepts_exactly e.primitive x aad t (All-head HasSivKey e es keys)).1 made)
  finds (e ∷ es) t keys (inr later) =
      passed_over e es (answer e) (All-head HasSivKey e es keys) refl later.0 ∙ finds es t (All-tail HasSivKey e es keys) later.1

  finds_none : (es : List SivEntry) → All HasSivKey es → All (EncryptsNoTextTo aad x) es → first_value answer es ≡ None
  finds_none [] keys all = refl
  finds_none (e ∷ es) keys all =
      passed_over e es (answer e) (All-head HasSivKey e es keys) refl (All-head (EncryptsNoTextTo aad x) e es all)
      ∙ finds_none es (All-tail HasSivKey e es keys) (All-tail (EncryptsNoTextTo aad x) e es all)

-- ---- those of the prefix, and then the others

abbrev either : Bool → Option (List ℕ) → Option (List ℕ) → Result (List ℕ) Kind
either long o q = value_or DecryptFailed (or_else (if long then o else None) q)

taken_from : (long : Bool) (o q : Option (List ℕ)) (t : List ℕ) → either long o q ≡ Ok t → ((long ≡ true) × (o ≡ Some t)) ⊎ ((long ≡ true → o ≡ None) × (q ≡ Some t))
taken_from true (Some u) q t e = let same : u ≡ t = cc in inl (refl, ap Some same)
taken_from true None (Some u) t e = let same : u ≡ t = cc in inr ((λ _. refl), ap Some same)
taken_from true None None t e = absurd (cc)
taken_from false o (Some u) t e = let same : u ≡ t = cc in inr ((λ is. absurd (cc)), ap Some same)
taken_from false o None t e = absurd (cc)

by_prefix : (long : Bool) (o q : Option (List ℕ)) (t : List ℕ) → long ≡ true → o ≡ Some t → either long o q ≡ Ok t
by_prefix long o q t is found = ap (λ b. either b o q) is ∙ ap (λ v. value_or DecryptFailed (or_else v q)) found

by_others : (long : Bool) (o q : Option (List ℕ)) (t : List ℕ) → (long ≡ true → o ≡ None) → q ≡ Some t → either long o q ≡ Ok t
by_others true o q t none is = ap (λ v. value_or DecryptFailed (or_else v q)) (none refl) ∙ ap (value_or DecryptFailed) is
by_others false o q t none is = ap (value_or DecryptFailed) is

pub keysets_decrypt_exactly : KeysetsDecryptExactly
keysets_decrypt_exactly = λ group keys input aad text.
    let rest = drop 5 input in
    let behind = group (take 5 input) in
    let long = nat_lt 5 (length input) in
    let o = first_value (answer aad rest) behind in
    let q = first_value (answer aad input) (group []) in (
      λ e. elim (taken_from long o q text e) [
        | inl first ↦ inl (ltb-true 5 (length input) first.0, found aad rest behind text (keys (take 5 input)) first.1)
        | inr later ↦ inr ((λ is. none aad rest behind (keys (take 5 input)) (later.0 (lt-ltb 5 (length input) is))), found aad input (group []) text (keys []) later.1)
      ],
      λ sealed. elim sealed [
        | inl first ↦ by_prefix long o q text (lt-ltb 5 (length input) first.0) (finds aad rest behind text (keys (take 5 input)) first.1)
        | inr later ↦ by_others long o q text (λ is. finds_none aad rest behind (keys (take 5 input)) (later.0 (ltb-true 5 (length input) is))) (finds aad input (group []) text (keys []) later.1)
      ],
    )
