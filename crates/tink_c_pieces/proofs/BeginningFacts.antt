-- A stream of which more than a front and a first segment came begins as each longer one does: under the same key, with the
-- same first text.
use Rattle.std.proofs.Common.{◌≡◌, inl, inr, ◌≤◌, ◌<◌, ℕ, zero, suc, Bool, List, [], ◌∷◌, ◌++◌, length, take, drop, None, Some, ap, sym, ◌∙◌, subst, arith, length-append, length-drop, bytes_eq, nat_eq, slice_index, ◌&&◌}
use Rattle.std.specs.Prelude.{All}
use Rattle.std.proofs.lemmas.Bool.{cases_lt}
use Rattle.std.proofs.lemmas.List.{append-nil, take-append-le, take-append-drop, drop-append-le, get_or_append_left}
use Rattle.std.proofs.lemmas.List.Elements.{All-head, All-tail}
use Rattle.std.specs.declared.option.Option.{Option}
use Rattle.stream_model.specs.Cut.{cut}
use Rattle.stream_model.specs.Agree.{AreTexts, Leads, joined}
use Rattle.stream_model.proofs.AgreeFacts.{Leads-more}
use Rattle.stream_model.specs.Opening.{OpeningKey, Begins, FirstAgrees, IsChosen, begins_front, chunks_of, front_length, header_of}
use Rattle.tink_c_pieces.specs.Readings.{HasBeginning}
use Rattle.stream_model.proofs.CutFacts.{cut_fits, cut_more, cut_none, cut_some}

-- the first bytes of all are those that came
front_bytes : (k : OpeningKey) (H Y : List ℕ) → 0 < k.header → front_length k ≤ length H → begins_front k (H ++ Y) ≡ begins_front k H
front_bytes k H Y pos long =
    let out : take (length k.out) (H ++ Y) ≡ take (length k.out) H = take-append-le (length k.out) H Y (omega (arith, long)) in
    let mark : slice_index (H ++ Y) (length k.out) ≡ slice_index H (length k.out) = get_or_append_left H Y 0 (length k.out) (omega (arith, long)) in
    ap (λ x. bytes_eq k.out x && nat_eq (slice_index (H ++ Y) (length k.out)) k.header) out ∙ ap (λ n. bytes_eq k.out (take (length k.out) H) && nat_eq n k.header) mark

pub header_bytes : (k : OpeningKey) (H Y : List ℕ) → front_length k ≤ length H → header_of k (H ++ Y) ≡ header_of k H
header_bytes k H Y long =
    ap (take k.header) (drop-append-le (length k.out) H Y (omega (arith, long)))
    ∙ take-append-le k.header (drop (length k.out) H) Y (omega (arith, long, length-drop (length k.out) H))

-- the first chunk is the same, and others follow
pub first_chunk : (a b : ℕ) (X more : List ℕ) → 0 < a → 0 < b → a < length X → cut a b (X ++ more) ≡ take a X ∷ cut b b (drop a X ++ more)
first_chunk a b X more p q long =
    cut_more a b (X ++ more) (omega (arith, long, length-append X more)) p q
    ∙ ap (λ c. c ∷ cut b b (drop a (X ++ more))) (take-append-le a X more (omega (arith, long)))
    ∙ ap (λ x. take a X ∷ cut b b x) (drop-append-le a X more (omega (arith, long)))

-- the first text is that of the first chunk, whatever follows
same_text : (seg : ℕ → Bool → List ℕ → List ℕ) (c : List ℕ) (xs ys : List (List ℕ)) (x y : List ℕ) (us vs : List (List ℕ)) → xs ≡ x ∷ us → ys ≡ y ∷ vs → (t : List ℕ)
    → AreTexts seg 0 (c ∷ xs) (t ∷ []) → AreTexts seg 0 (c ∷ ys) (t ∷ [])
same_text seg c xs ys x y us vs e f t h =
    let here : AreTexts seg 0 (c ∷ x ∷ us) (t ∷ []) = subst (λ (zs : List (List ℕ)). AreTexts seg 0 (c ∷ zs) (t ∷ [])) e h in
    subst (λ (zs : List (List ℕ)). AreTexts seg 0 (c ∷ zs) (t ∷ [])) (sym f) here

same_first : (o : Option (ℕ → Bool → List ℕ → List ℕ)) (c : List ℕ) (xs ys : List (List ℕ)) (x y : List ℕ) (us vs : List (List ℕ)) → xs ≡ x ∷ us → ys ≡ y ∷ vs
    → FirstAgrees o (c ∷ xs) → FirstAgrees o (c ∷ ys)
same_first None c xs ys x y us vs e f h = h
same_first (Some seg) c xs ys x y us vs e f h = (h.0, same_text seg c xs ys x y us vs e f h.0 h.1)

module _ (k : OpeningKey) (S more : List ℕ) (b : HasBeginning S k) where
  behind : drop (front_length k) (S ++ more) ≡ drop (front_length k) S ++ more
  behind = drop-append-le (front_length k) S more (omega (arith, b.more))

  long : k.first < length (drop (front_length k) S)
  long = omega (arith, b.more, length-drop (front_length k) S)

  chunks : chunks_of k (S ++ more) ≡ take k.first (drop (front_length k) S) ∷ cut k.size k.size (drop k.first (drop (front_length k) S) ++ more)
  chunks = ap (cut k.first k.size) behind ∙ first_chunk k.first k.size (drop (front_length k) S) more b.first b.size long

  chunks_here : chunks_of k S ≡ take k.first (drop (front_length k) S) ∷ cut k.size k.size (drop k.first (drop (front_length k) S))
  chunks_here = cut_more k.first k.size (drop (front_length k) S) long b.first b.size

  segments : k.seg (header_of k (S ++ more)) ≡ k.seg (header_of k S)
  segments = ap k.seg (header_bytes k S more (omega (arith, b.more)))

  pub begins_longer : Begins k S → Begins k (S ++ more)
  begins_longer is =
      let X : List ℕ = drop (front_length k) S in
      let some = cut_some k.size k.size (drop k.first X) (omega (arith, long, length-drop k.first X)) in
      let others = cut_some k.size k.size (drop k.first X ++ more) (omega (arith, long, length-drop k.first X, length-append (drop k.first X) more)) in
      let here : FirstAgrees (k.seg (header_of k S)) (take k.first X ∷ cut k.size k.size (drop k.first X)) = subst (FirstAgrees (k.seg (header_of k S))) chunks_here is.first in
      let there = same_first (k.seg (header_of k S)) (take k.first X) _ _ some.0 others.0 some.1 others.1 some.2 others.2 here in
      record {
        front = record { long = omega (arith, b.more, length-append S more); mark = front_bytes k S more b.header (omega (arith, b.more)) ∙ is.front.mark };
        first = subst (λ (o : Option (ℕ → Bool → List ℕ → List ℕ)). FirstAgrees o (chunks_of k (S ++ more))) (sym segments)
            (subst (FirstAgrees (k.seg (header_of k S))) (sym chunks) there);
      }

  pub begins_shorter : Begins k (S ++ more) → Begins k S
  begins_shorter is =
      let X : List ℕ = drop (front_length k) S in
      let some = cut_some k.size k.size (drop k.first X) (omega (arith, long, length-drop k.first X)) in
      let others = cut_some k.size k.size (drop k.first X ++ more) (omega (arith, long, length-drop k.first X, length-append (drop k.first X) more)) in
      let there : FirstAgrees (k.seg (header_of k S)) (take k.first X ∷ cut k.size k.size (drop k.first X ++ more)) =
      subst (FirstAgrees (k.seg (header_of k S))) chunks (subst (λ (o : Option (ℕ → Bool → List ℕ → List ℕ)). FirstAgrees o (chunks_of k (S ++ more))) segments is.first) in
      let here = same_first (k.seg (header_of k S)) (take k.first X) _ _ others.0 some.0 others.1 some.1 others.2 some.2 there in
      record {
        front = record { long = omega (arith, b.more); mark = sym (front_bytes k S more b.header (omega (arith, b.more))) ∙ is.front.mark };
        first = subst (FirstAgrees (k.seg (header_of k S))) (sym chunks_here) here;
      }

-- the key that is chosen of what came is chosen of all that may come
pub chosen_for_good : (ks : List OpeningKey) (S more : List ℕ) (chosen : Option OpeningKey) → All (HasBeginning S) ks → IsChosen ks S chosen → IsChosen ks (S ++ more) chosen
chosen_for_good [] S more chosen all is = is
chosen_for_good (k ∷ ks) S more chosen all (inl is) = inl (begins_longer k S more (All-head (HasBeginning S) k ks all) is.0, is.1)
chosen_for_good (k ∷ ks) S more chosen all (inr is) = inr (λ b. is.0 (begins_shorter k S more (All-head (HasBeginning S) k ks all) b), chosen_for_good ks S more chosen (All-tail (HasBeginning S) k ks all) is.1)

-- the chunks of a text, joined, are the text
joined_in : (turns a b : ℕ) (X : List ℕ) → length X ≤ turns → 0 < a → 0 < b → joined (cut a b X) ≡ X
joined_in zero a b [] h p q = ap joined (cut_none a b)
joined_in zero a b (x ∷ X) h p q = absurd (omega arith)
joined_in (suc turns) a b [] h p q = ap joined (cut_none a b)
joined_in (suc turns) a b (x ∷ X) h p q = elim (cases_lt a (length (x ∷ X))) [
  | inr fits ↦ ap joined (cut_fits a b (x ∷ X) (omega arith) fits) ∙ append-nil (x ∷ X)
  | inl more ↦
      ap joined (cut_more a b (x ∷ X) more p q)
      ∙ ap (λ r. take a (x ∷ X) ++ r) (joined_in turns b b (drop a (x ∷ X)) (omega (arith, length-drop a (x ∷ X), h)) q q)
      ∙ take-append-drop a (x ∷ X)
]

pub joined_cut : (a b : ℕ) (X : List ℕ) → 0 < a → 0 < b → joined (cut a b X) ≡ X
joined_cut a b X p q = joined_in (length X) a b X (omega arith) p q

pub same_cut : (b : ℕ) (Y Z : List ℕ) → 0 < b → cut b b Y ≡ cut b b Z → Y ≡ Z
same_cut b Y Z q e = sym (joined_cut b b Y q q) ∙ ap joined e ∙ joined_cut b b Z q q

-- a segment that leads from what came to some rest leads also from all that may come
pub leads_longer : (seg : ℕ → Bool → List ℕ → List ℕ) (i a b : ℕ) (Y Z t more : List ℕ) → 0 < a → 0 < b → 0 < length Y → 0 < length Z
    → Leads seg i (cut a b Y) (t ∷ []) (cut b b Z) → Leads seg i (cut a b (Y ++ more)) (t ∷ []) (cut b b (Z ++ more))
leads_longer seg i a b Y Z t more p q some rest leads = elim (cases_lt a (length Y)) [
  | inr fits ↦
      let last : Leads seg i (Y ∷ []) (t ∷ []) (cut b b Z) = subst (λ (cs : List (List ℕ)). Leads seg i cs (t ∷ []) (cut b b Z)) (cut_fits a b Y some fits) leads in
      let none : Z ≡ [] = sym (joined_cut b b Z q q) ∙ ap joined last.2 in
      absurd (omega (arith, rest, ap length none))
  | inl long ↦
      let X : List ℕ = drop a Y in
      let others = cut_some b b X (omega (arith, long, length-drop a Y)) in
      let next : Leads seg i (take a Y ∷ cut b b X) (t ∷ []) (cut b b Z) = subst (λ (cs : List (List ℕ)). Leads seg i cs (t ∷ []) (cut b b Z)) (cut_more a b Y long p q) leads in
      let marked : Leads seg i (take a Y ∷ others.0 ∷ others.1) (t ∷ []) (cut b b Z) = subst (λ (cs : List (List ℕ)). Leads seg i (take a Y ∷ cs) (t ∷ []) (cut b b Z)) others.2 next in
      let same : Z ≡ X = same_cut b Z X q (next.2) in
      let whole = Leads-more seg i a b (Y ++ more) t marked.0 p q (omega (arith, long, length-append Y more)) (marked.1 ∙ sym (take-append-le a Y more (omega (arith, long)))) in
      subst (λ (R : List ℕ). Leads seg i (cut a b (Y ++ more)) (t ∷ []) (cut b b R)) (drop-append-le a Y more (omega (arith, long)) ∙ ap (λ r. r ++ more) (sym same)) whole
]

-- what is behind the segment that leads
pub rest_is : (seg : ℕ → Bool → List ℕ → List ℕ) (i a b : ℕ) (Y Z t : List ℕ) → 0 < a → 0 < b → a < length Y → Leads seg i (cut a b Y) (t ∷ []) (cut b b Z) → Z ≡ drop a Y
rest_is seg i a b Y Z t p q long leads =
    let next : Leads seg i (take a Y ∷ cut b b (drop a Y)) (t ∷ []) (cut b b Z) = subst (λ (cs : List (List ℕ)). Leads seg i cs (t ∷ []) (cut b b Z)) (cut_more a b Y long p q) leads in
    same_cut b Z (drop a Y) q next.2
