-- A key opens streams of its own prefix alone, so that it is chosen among those of the stream's prefix.
use Rattle.std.proofs.Common.{◌≡◌, ◌∙◌, inl, inr, ◌≤◌, ℕ, Bool, true, false, cond, List, [], ◌∷◌, length, take, map, All, refl, sym, ap, arith, bytes_eq, nat_eq, nat_le, nat_lt, slice_index, ◌&&◌}
use Rattle.std.specs.declared.option.Option.{Option}
use Rattle.std.specs.Cmp.Lexicographic.{bytes_decides}
use Rattle.std.proofs.lemmas.Bool.{false≢true}
use Rattle.std.proofs.lemmas.Bool.Decides.{nat_tests}
use Rattle.std.proofs.lemmas.List.Elements.{All-head, All-tail}
use Rattle.stream_model.specs.Key.{StreamKey, header_length}
use Rattle.stream_model.specs.Opening.{OpeningKey, Begins, IsChosen, opening_key}
use Rattle.stream_model.specs.Order.{IsOfKeyset, IsOutputPrefix, with_prefix}
use Rattle.tink_streaming_aead.specs.Candidates.{ChoosesCandidate, prefix_at}

both_true : (a b : Bool) → (a && b) ≡ true → (a ≡ true) × (b ≡ true)
both_true true b e = (refl, e)
both_true false b e = absurd (false≢true e)

-- the prefix of a stream that is long enough
long_prefix : (S : List ℕ) → 5 ≤ length S → prefix_at S ≡ cond (nat_le (slice_index S 0) 1) (take 5 S) []
long_prefix S long =
    let not : nat_lt (length S) 5 ≡ false = grind (arith, nat_tests) in
    ap (λ b. cond b [] (cond (nat_le (slice_index S 0) 1) (take 5 S) [])) not

low_first : (S out : List ℕ) → take 5 S ≡ out → slice_index out 0 ≤ 1 → nat_le (slice_index S 0) 1 ≡ true
low_first [] out e low = refl
low_first (x ∷ S) out e low =
    let first : slice_index out 0 ≡ x = sym (ap (λ l. slice_index l 0) e) in
    grind (arith, nat_tests)

own_by : (S out : List ℕ) (h : ℕ) → 5 ≤ length S → 2 ≤ h → IsOutputPrefix out → take (length out) S ≡ out → slice_index S (length out) ≡ h → out ≡ prefix_at S
own_by S out h long big (inl none) same mark =
    let first : slice_index S 0 ≡ h = sym (ap (λ o. slice_index S (length o)) none) ∙ mark in
    let high : nat_le (slice_index S 0) 1 ≡ false = grind (arith, nat_tests) in
    none ∙ sym (long_prefix S long ∙ ap (λ b. cond b (take 5 S) []) high)
own_by S out h long big (inr five) same mark =
    let whole : take 5 S ≡ out = sym (ap (λ n. take n S) five.0) ∙ same in
    sym whole ∙ sym (long_prefix S long ∙ ap (λ b. cond b (take 5 S) []) (low_first S out whole five.1))

module _ (aad S : List ℕ) where
  own_prefix : (k : StreamKey) → IsOfKeyset k → Begins (opening_key aad k) S → k.out ≡ prefix_at S
  own_prefix k is b =
      let parts = both_true (bytes_eq k.out (take (length k.out) S)) (nat_eq (slice_index S (length k.out)) (header_length k)) b.front.mark in
      let same : take (length k.out) S ≡ k.out = sym ((bytes_decides k.out (take (length k.out) S)).0 parts.0) in
      let mark : slice_index S (length k.out) ≡ header_length k = grind (arith, nat_tests) in
      own_by S k.out (header_length k) (omega (arith, b.front.long)) (omega arith) is.out same mark

  begins_not : (k : StreamKey) → IsOfKeyset k → bytes_eq k.out (prefix_at S) ≡ false → Begins (opening_key aad k) S → ⊥
  begins_not k is other b = false≢true (sym other ∙ (bytes_decides k.out (prefix_at S)).1 (own_prefix k is b))

  abbrev Chooses : List StreamKey → Option OpeningKey → Type 0
  Chooses ks c = IsChosen (map (opening_key aad) ks) S c

  to_own : (ks : List StreamKey) (c : Option OpeningKey) → All IsOfKeyset ks → Chooses ks c → Chooses (with_prefix (prefix_at S) ks) c
  to_own [] c is h = h
  to_own (k ∷ ks) c is h = by (bytes_eq k.out (prefix_at S)) refl h (to_own ks c (All-tail IsOfKeyset k ks is))
    where
      own : List StreamKey
      own = with_prefix (prefix_at S) ks

      by : (b : Bool) → bytes_eq k.out (prefix_at S) ≡ b → Chooses (k ∷ ks) c → (Chooses ks c → Chooses own c) → Chooses (cond b (k ∷ own) own) c
      by true e (inl h) more = inl h
      by true e (inr h) more = inr (h.0, more h.1)
      by false e (inl h) more = absurd (begins_not k (All-head IsOfKeyset k ks is) e h.0)
      by false e (inr h) more = more h.1

  from_own : (ks : List StreamKey) (c : Option OpeningKey) → All IsOfKeyset ks → Chooses (with_prefix (prefix_at S) ks) c → Chooses ks c
  from_own [] c is h = h
  from_own (k ∷ ks) c is h = by (bytes_eq k.out (prefix_at S)) refl h (from_own ks c (All-tail IsOfKeyset k ks is))
    where
      own : List StreamKey
      own = with_prefix (prefix_at S) ks

      by : (b : Bool) → bytes_eq k.out (prefix_at S) ≡ b → Chooses (cond b (k ∷ own) own) c → (Chooses own c → Chooses ks c) → Chooses (k ∷ ks) c
      by true e (inl h) more = inl h
      by true e (inr h) more = inr (h.0, more h.1)
      by false e h more = inr (begins_not k (All-head IsOfKeyset k ks is) e, more h)

pub chooses_candidate : ChoosesCandidate
chooses_candidate aad S keys c is = (λ h. to_own aad S keys c is h, λ h. from_own aad S keys c is h)
