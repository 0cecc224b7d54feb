-- Giving a range, chunk by chunk.
use Rattle.std.proofs.Common.{◌≡◌, inl, inr, ◌<◌, ◌≤◌, ◌+◌, ◌-◌, max, min, nat_le, ℕ, Bool, true, List, [], ◌∷◌, ◌++◌, length, take, drop, refl, sym, ap, subst, ◌∙◌, arith, length-drop}
use Rattle.std.proofs.lemmas.Bool.{le-leb, lt-leb}
use Rattle.std.proofs.lemmas.Bool.Decides.{nat_tests}
use Rattle.std.proofs.lemmas.List.{append-nil, drop_all, drop-drop, length-take}
use Rattle.stream_model.specs.Cut.{cut, room_at}
use Rattle.stream_model.specs.Agree.{is_last}
use Rattle.stream_model.proofs.CutFacts.{cut_none, cut_some, room_at_next}
use Rattle.tink_range.specs.Giving.{Cutting, chunks_in}
use Rattle.tink_range.specs.Ranges.{AllGive, Gives, GivesOne, StopsAtChunk, all_places, is_touched, places, within}
use Rattle.tink_range.specs.Shapes.{start_at}
use Rattle.tink_range.proofs.GivesFacts.{Gives-trans, gives_length, none_touched, skipped}
use Rattle.tink_range.proofs.PlaceFacts.{cut_step, fits_or_not}

-- a chunk is the last one where no bytes are behind its room
pub is_last_cut : (r b : ℕ) (Y : List ℕ) → is_last (cut b b (drop r Y)) ≡ nat_le (length Y) r
is_last_cut r b Y = elim (fits_or_not (length Y) r) [
  | inl fits ↦ ap (λ X. is_last (cut b b X)) (drop_all r Y fits) ∙ ap is_last (cut_none b b) ∙ sym (le-leb (length Y) r fits)
  | inr more ↦
      let some = cut_some b b (drop r Y) (omega (arith, length-drop r Y)) in
      ap is_last some.2 ∙ sym (lt-leb (length Y) r more)
]

touches : (lo hi at n : ℕ) → lo < hi → at < hi → lo < at + n → 0 < n → is_touched lo hi at n ≡ true
touches lo hi at n p q r s = let apart : max lo at < min hi (at + n) = omega arith in grind (arith, nat_tests)

-- what was given so far: the chunk that comes next has this number and this start, and its text this place
abbrev pub HasGiven : Cutting → ℕ → ℕ → ℕ → ℕ → ℕ → List ℕ → List ℕ → Type 0
HasGiven c lo hi number start text bytes S =
    Gives c.seg c.over lo hi 0 0 (chunks_in c S) number bytes text (cut (room_at c.first c.size number) c.size (drop start (drop c.front S)))

module _ (c : Cutting) (lo hi : ℕ) (p : c.over < c.first) (q : c.first ≤ c.size) where
  -- nothing, before the first chunk that is touched
  pub begins : (number start text behind : ℕ) (S : List ℕ) → length S ≡ c.front + behind → start ≡ start_at c.first c.size number → text ≡ start_at (c.first - c.over) (c.size - c.over) number
      → start < behind → text ≤ lo → HasGiven c lo hi number start text [] S
  begins number start text behind S long s t inside low =
      let X : List ℕ = drop c.front S in
      let all = skipped c.seg c.over lo hi 0 0 c.first c.size X number p (omega arith) (omega (arith, length-drop c.front S)) (omega arith) in
      let text_is : 0 + start_at (c.first - c.over) (c.size - c.over) number ≡ text = omega arith in
      subst (λ (n : ℕ). Gives c.seg c.over lo hi 0 0 (chunks_in c S) number [] text (cut (room_at c.first c.size number) c.size (drop n X))) (sym s)
      (subst (λ (n : ℕ). Gives c.seg c.over lo hi 0 0 (chunks_in c S) number [] n (cut (room_at c.first c.size number) c.size (drop (start_at c.first c.size number) X))) text_is all)

  module _ (number start text rest : ℕ) (S : List ℕ) (long : length S ≡ c.front + (start + rest)) (some : 0 < rest) (reached : lo < text + (min rest (room_at c.first c.size number) - c.over)) (before : text < hi) (range : lo < hi) (room_some : c.over < room_at c.first c.size number) where
    abbrev room : ℕ
    room = room_at c.first c.size number

    abbrev Y : List ℕ
    Y = drop start (drop c.front S)

    abbrev own : ℕ
    own = min rest room - c.over

    length_Y : length Y ≡ rest
    length_Y = omega (arith, length-drop start (drop c.front S), length-drop c.front S)

    place : Y ≡ drop (c.front + start) S
    place = drop-drop start c.front S

    split : cut room c.size Y ≡ take room Y ∷ cut c.size c.size (drop room Y)
    split = cut_step room c.size Y (omega (arith, length_Y)) (omega arith) (omega arith)

    own_is : places c.over (take room Y) ≡ own
    own_is = omega (arith, length-take room Y, length_Y)

    is_last_is : is_last (cut c.size c.size (drop room Y)) ≡ nat_le rest room
    is_last_is = is_last_cut room c.size Y ∙ ap (λ n. nat_le n room) length_Y

    touched : 0 < own → is_touched lo hi text (places c.over (take room Y)) ≡ true
    touched n = ap (is_touched lo hi text) own_is ∙ touches lo hi text own range before reached n

    next_rest : cut c.size c.size (drop room Y) ≡ cut (room_at c.first c.size (number + 1)) c.size (drop (start + min rest room) (drop c.front S))
    next_rest =
        let X : List ℕ = drop c.front S in
        let behind : drop room Y ≡ drop (min rest room) Y = elim (fits_or_not rest room) [
          | inl fits ↦ drop_all room Y (omega (arith, length_Y)) ∙ sym (drop_all (min rest room) Y (omega (arith, length_Y)))
          | inr more ↦ let same : room ≡ min rest room = omega arith in ap (λ n. drop n Y) same
        ] in
        ap (cut c.size c.size) (behind ∙ drop-drop (min rest room) start X) ∙ ap (λ n. cut n c.size (drop (start + min rest room) X)) (sym (room_at_next c.first c.size number))

    -- the next chunk's part
    pub given_one : (bytes t : List ℕ) → 0 < own → HasGiven c lo hi number start text bytes S → c.seg number (nat_le rest room) t ≡ take room (drop (c.front + start) S)
        → HasGiven c lo hi (number + 1) (start + min rest room) (text + own) (bytes ++ within lo hi text t) S
    given_one bytes t n given opens =
        let part : List ℕ = within lo hi text t in
        let next : List (List ℕ) = cut c.size c.size (drop room Y) in
        let chunk : c.seg number (is_last next) t ≡ take room Y = ap (λ m. c.seg number m t) is_last_is ∙ opens ∙ ap (take room) (sym place) in
        let one : GivesOne c.seg lo hi true number (is_last next) text (take room Y) part = (t, chunk, refl) in
        let single : Gives c.seg c.over lo hi number text (take room Y ∷ next) 1 part (text + places c.over (take room Y)) next =
        (part, [], sym (append-nil part), subst (λ (b : Bool). GivesOne c.seg lo hi b number (is_last next) text (take room Y) part) (sym (touched n)) one, (refl, refl, refl)) in
        let here : Gives c.seg c.over lo hi (0 + number) text (cut room c.size Y) 1 part (text + own) next =
        subst (λ (i : ℕ). Gives c.seg c.over lo hi i text (cut room c.size Y) 1 part (text + own) next) (omega arith)
        (subst (λ (k : ℕ). Gives c.seg c.over lo hi number text (cut room c.size Y) 1 part (text + k) next) own_is
        (subst (λ (cs : List (List ℕ)). Gives c.seg c.over lo hi number text cs 1 part (text + places c.over (take room Y)) next) (sym split) single)) in
        subst (λ (cs : List (List ℕ)). Gives c.seg c.over lo hi 0 0 (chunks_in c S) (number + 1) (bytes ++ part) (text + own) cs) next_rest
        (Gives-trans c.seg c.over lo hi 0 0 (chunks_in c S) number bytes text (cut room c.size Y) 1 part (text + own) next given here)

    -- the next chunk is the segment of no text
    pub stops : (bytes : List ℕ) → 0 < own → HasGiven c lo hi number start text bytes S → ((t : List ℕ) → c.seg number (nat_le rest room) t ≡ take room (drop (c.front + start) S) → ⊥)
        → StopsAtChunk c.seg c.over lo hi (chunks_in c S) bytes number
    stops bytes n given none = record {
      at = text;
      chunk = take room Y;
      behind = cut c.size c.size (drop room Y);
      before = subst (λ (cs : List (List ℕ)). Gives c.seg c.over lo hi 0 0 (chunks_in c S) number bytes text cs) split given;
      touched = touched n;
      none = λ t e. none t (ap (λ m. c.seg number m t) (sym is_last_is) ∙ e ∙ ap (take room) place);
    }

-- no more is to come
pub ended : (c : Cutting) (lo hi number start text : ℕ) (bytes S : List ℕ) → hi ≤ max lo text → HasGiven c lo hi number start text bytes S → AllGive c.seg c.over lo hi (chunks_in c S) bytes
ended c lo hi number start text bytes S past given =
    let cs : List (List ℕ) = cut (room_at c.first c.size number) c.size (drop start (drop c.front S)) in
    let end : ℕ = text + all_places c.over cs in
    let others = none_touched c.seg c.over lo hi (0 + number) text cs past in
    let count : number + length cs ≡ length (chunks_in c S) = sym (gives_length c.seg c.over lo hi 0 0 (chunks_in c S) number bytes text cs given) in
    let all = Gives-trans c.seg c.over lo hi 0 0 (chunks_in c S) number bytes text cs (length cs) [] end [] given others in (
      end,
      subst (λ (n : ℕ). Gives c.seg c.over lo hi 0 0 (chunks_in c S) n bytes end []) count
          (subst (λ (xs : List ℕ). Gives c.seg c.over lo hi 0 0 (chunks_in c S) (number + length cs) xs end []) (append-nil bytes) all),
    )
