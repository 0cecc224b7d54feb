-- A sealed stream is a stream, and has one text.
use Rattle.std.proofs.Common.{◌≡◌, ◌⊎◌, inl, inr, ◌<◌, ◌≤◌, ◌+◌, ◌-◌, ◌^◌, ℕ, zero, suc, Bool, List, [], ◌∷◌, ◌++◌, length, take, drop, refl, sym, ap, subst, ◌∙◌, arith, Some, None, length-append, length-drop, length-take-le, add-one, nat_eq, true}
use Rattle.std.specs.declared.option.Option.{Option}
use Rattle.std.proofs.lemmas.Bool.Decides.{nat_tests}
use Rattle.std.proofs.lemmas.List.{append-nil, append_assoc, take-append-drop}
use Rattle.std.proofs.Math.Seq.{take-append_seam, drop-append_seam}
use Rattle.stream_model.specs.Agree.{AreTexts, Agree, joined}
use Rattle.stream_model.specs.Cut.{chunks, cut, or_one, sealed, segments}
use Rattle.stream_model.specs.Key.{IsUsable, StreamKey, first_room, fronted, header_length, keys_of, room, segment_at}
use Rattle.stream_model.specs.Opening.{AreSegments, AreSegmentsBy, Begins, FirstAgrees, IsChosen, IsStream, OpeningKey, behind_front, header_of, opening_key, under}
use Rattle.stream_model.specs.Sealing.{chunk_count, stream}
use Rattle.stream_model.proofs.CutFacts.{cut_fits, cut_more, cut_none, cut_some}
use Rattle.stream_model.proofs.KeyFacts.{CanOpen, IsLawful, opening_key_lawful}
use Rattle.stream_model.proofs.OpeningFacts.{Agree-unique, IsChosen-unique, all_agree, leads_on}
use Rattle.tink_streaming_aead.proofs.FrontFacts.{fronted_stream, no_prefix}
use Rattle.tink_streaming_aead.proofs.StreamLaws.{stream_is}
use Rattle.tink_streaming_aead.specs.WholeReading.{IsTextOfChosen, IsTextOfStream}

fits_or_not : (m n : ℕ) → (m ≤ n) ⊎ (n < m)
fits_or_not zero n = inl (omega arith)
fits_or_not (suc m) zero = inr (omega arith)
fits_or_not (suc m) (suc n) = elim (fits_or_not m n) [ inl h ↦ inl (omega arith) | inr h ↦ inr (omega arith) ]

-- the segments of a text's chunks, with the mark of the last
abbrev IsSealed : (ℕ → Bool → List ℕ → List ℕ) → ℕ → ℕ → ℕ → List (List ℕ) → Type 0
IsSealed seg i a b cs = AreSegments seg i a b (segments seg i cs) cs

one_more : (seg : ℕ → Bool → List ℕ → List ℕ) (i a b : ℕ) (t u : List ℕ) (us : List (List ℕ)) → i < 2 ^ 32 → length t ≡ a → IsSealed seg (i + 1) b b (u ∷ us) → IsSealed seg i a b (t ∷ u ∷ us)
one_more seg i a b t u us small full rest = (small, full, (segments seg (i + 1) (u ∷ us), refl, rest))

are_sealed : (n : ℕ) (seg : ℕ → Bool → List ℕ → List ℕ) (i a b : ℕ) (R : List ℕ) → length R ≤ n → 0 < a → 0 < b → i + length (or_one (cut a b R)) ≤ 2 ^ 32 → IsSealed seg i a b (or_one (cut a b R))
are_sealed n seg i a b [] h p q few =
    let none = cut_none a b in
    subst (λ cs. IsSealed seg i a b (or_one cs)) (sym none) (omega (arith, ap (λ cs. length (or_one cs)) none), omega arith, refl)
are_sealed zero seg i a b (x ∷ R) h p q few = absurd (omega arith)
are_sealed (suc n) seg i a b (x ∷ R) h p q few = elim (fits_or_not (length (x ∷ R)) a) [
  | inl fits ↦
      let one = cut_fits a b (x ∷ R) (omega arith) fits in
      subst (λ cs. IsSealed seg i a b (or_one cs)) (sym one) (omega (arith, ap (λ cs. length (or_one cs)) one), fits, refl)
  | inr more ↦
      let step = cut_more a b (x ∷ R) more p q in
      let rest : List ℕ = drop a (x ∷ R) in
      let others = cut_some b b rest (omega (arith, length-drop a (x ∷ R))) in
      let chunks_are : cut a b (x ∷ R) ≡ take a (x ∷ R) ∷ others.0 ∷ others.1 = step ∙ ap (λ cs. take a (x ∷ R) ∷ cs) others.2 in
      let count : length (or_one (cut a b (x ∷ R))) ≡ suc (length (or_one (cut b b rest))) = ap (λ cs. length (or_one cs)) chunks_are ∙ ap (λ cs. suc (length (or_one cs))) (sym others.2) in
      let behind = are_sealed n seg (i + 1) b b rest (omega (arith, length-drop a (x ∷ R))) q q (omega (arith, count)) in
      let next : IsSealed seg (i + 1) b b (others.0 ∷ others.1) = subst (λ cs. IsSealed seg (i + 1) b b (or_one cs)) others.2 behind in
      subst (λ cs. IsSealed seg i a b (or_one cs)) (sym chunks_are)
      (one_more seg i a b (take a (x ∷ R)) others.0 others.1 (omega (arith, count)) (length-take-le a (x ∷ R) (omega arith)) next)
]

-- a sealed text is the segments of its chunks
pub sealed_segments : (seg : ℕ → Bool → List ℕ → List ℕ) (a b : ℕ) (R : List ℕ) → 0 < a → 0 < b → length (chunks a b R) ≤ 2 ^ 32 → AreSegments seg 0 a b (sealed seg a b R) (chunks a b R)
unfolding sealed chunks
sealed_segments seg a b R p q few =
    let count : length (or_one (cut a b R)) ≤ 2 ^ 32 = few in
    are_sealed (length R) seg 0 a b R (omega arith) p q (omega (arith, count))

joined_cut : (n a b : ℕ) (R : List ℕ) → length R ≤ n → 0 < a → 0 < b → joined (cut a b R) ≡ R
joined_cut n a b [] h p q = ap joined (cut_none a b)
joined_cut zero a b (x ∷ R) h p q = absurd (omega arith)
joined_cut (suc n) a b (x ∷ R) h p q = elim (fits_or_not (length (x ∷ R)) a) [
  | inl fits ↦ ap joined (cut_fits a b (x ∷ R) (omega arith) fits) ∙ append-nil (x ∷ R)
  | inr more ↦
      ap joined (cut_more a b (x ∷ R) more p q)
      ∙ ap (λ ys. take a (x ∷ R) ++ ys) (joined_cut n b b (drop a (x ∷ R)) (omega (arith, length-drop a (x ∷ R))) q q)
      ∙ take-append-drop a (x ∷ R)
]

joined_or_one : (cs : List (List ℕ)) → joined (or_one cs) ≡ joined cs
joined_or_one [] = refl
joined_or_one (c ∷ cs) = refl

-- the chunks of a text are that text
pub joined_chunks : (a b : ℕ) (R : List ℕ) → 0 < a → 0 < b → joined (chunks a b R) ≡ R
unfolding chunks
joined_chunks a b R p q = joined_or_one (cut a b R) ∙ joined_cut (length R) a b R (omega arith) p q

-- the parts of a stream
abbrev behind_header : StreamKey → List ℕ → List ℕ → List ℕ → List ℕ
behind_header k salt prefix Z = (header_length k ∷ salt ++ prefix) ++ Z

header_takes : (k : StreamKey) (salt prefix Z : List ℕ) → length salt ≡ k.derived → length prefix ≡ 7 → take (header_length k) (behind_header k salt prefix Z) ≡ header_length k ∷ salt ++ prefix
header_takes k salt prefix Z s p =
    let size : length (header_length k ∷ salt ++ prefix) ≡ header_length k = omega (arith, length-append salt prefix) in
    subst (λ n. take n (behind_header k salt prefix Z) ≡ header_length k ∷ salt ++ prefix) size (take-append_seam (header_length k ∷ salt ++ prefix) Z)

header_drops : (k : StreamKey) (salt prefix Z : List ℕ) → length salt ≡ k.derived → length prefix ≡ 7 → drop (header_length k) (behind_header k salt prefix Z) ≡ Z
header_drops k salt prefix Z s p =
    let size : length (header_length k ∷ salt ++ prefix) ≡ header_length k = omega (arith, length-append salt prefix) in
    subst (λ n. drop n (behind_header k salt prefix Z) ≡ Z) size (drop-append_seam (header_length k ∷ salt ++ prefix) Z)

salt_taken : (k : StreamKey) (salt prefix : List ℕ) → length salt ≡ k.derived → take k.derived (drop 1 (header_length k ∷ salt ++ prefix)) ≡ salt
salt_taken k salt prefix s = subst (λ n. take n (salt ++ prefix) ≡ salt) s (take-append_seam salt prefix)

prefix_dropped : (k : StreamKey) (salt prefix : List ℕ) → length salt ≡ k.derived → drop (k.derived + 1) (header_length k ∷ salt ++ prefix) ≡ prefix
prefix_dropped k salt prefix s = rw add-one (subst (λ n. drop n (salt ++ prefix) ≡ prefix) s (drop-append_seam salt prefix))

-- the map under a header that has a salt and a prefix
map_under : (k : StreamKey) (aad salt prefix keys : List ℕ) → length salt ≡ k.derived → keys_of k aad salt ≡ Some keys
    → (opening_key aad k).seg (header_length k ∷ salt ++ prefix) ≡ Some (segment_at k keys prefix)
map_under k aad salt prefix keys s e =
    ap (λ x. under (keys_of k aad x) (λ ks. segment_at k ks (drop (k.derived + 1) (header_length k ∷ salt ++ prefix)))) (salt_taken k salt prefix s)
    ∙ ap (λ o. under o (λ ks. segment_at k ks (drop (k.derived + 1) (header_length k ∷ salt ++ prefix)))) e
    ∙ ap (λ p. Some (segment_at k keys p)) (prefix_dropped k salt prefix s)

-- the stream of a text, behind what stands before its header
stream_parts : (k : StreamKey) (aad salt prefix keys text : List ℕ) → keys_of k aad salt ≡ Some keys
    → stream k aad salt prefix text ≡ k.out ++ behind_header k salt prefix (sealed (segment_at k keys prefix) (first_room k) (room k) text)
stream_parts k aad salt prefix keys text e =
    sym (stream_is k aad salt prefix keys text e) ∙ append_assoc k.out (header_length k ∷ salt ++ prefix) (sealed (segment_at k keys prefix) (first_room k) (room k) text)

same_number : (n : ℕ) → nat_eq n n ≡ true
same_number n = grind (arith, nat_tests)

parts_are_stream : (k : StreamKey) (aad salt prefix keys text : List ℕ) → IsUsable k → length salt ≡ k.derived → length prefix ≡ 7 → keys_of k aad salt ≡ Some keys → chunk_count k text ≤ 2 ^ 32
    → IsStream (opening_key aad (fronted [] k)) (behind_header k salt prefix (sealed (segment_at k keys prefix) (first_room k) (room k) text)) (chunks (first_room k) (room k) text)
parts_are_stream k aad salt prefix keys text u s p e few =
    let Z : List ℕ = sealed (segment_at k keys prefix) (first_room k) (room k) text in
    let X : List ℕ = behind_header k salt prefix Z in
    let map : (opening_key aad k).seg (take (header_length k) X) ≡ Some (segment_at k keys prefix) = ap (opening_key aad k).seg (header_takes k salt prefix Z s p) ∙ map_under k aad salt prefix keys s e in
    let behind : drop (header_length k) X ≡ Z = header_drops k salt prefix Z s p in
    let are = sealed_segments (segment_at k keys prefix) (first_room k) (room k) text (omega (arith, u.room)) (omega (arith, u.room)) few in
    record {
      front = record { long = omega (arith, length-append (header_length k ∷ salt ++ prefix) Z, length-append salt prefix); mark = same_number (header_length k) };
      segments =
          subst (λ n. AreSegmentsBy ((opening_key aad k).seg (take (header_length k) X)) (first_room k) (room k) (drop n X) (chunks (first_room k) (room k) text)) (no_prefix (header_length k))
          (subst (λ (o : Option (ℕ → Bool → List ℕ → List ℕ)). AreSegmentsBy o (first_room k) (room k) (drop (header_length k) X) (chunks (first_room k) (room k) text)) (sym map)
          (subst (λ Y. AreSegments (segment_at k keys prefix) 0 (first_room k) (room k) Y (chunks (first_room k) (room k) text)) (sym behind) are));
    }

-- the sealed stream of a text is a stream of the key
pub sealed_stream : (k : StreamKey) (aad salt prefix keys text : List ℕ) → IsUsable k → length salt ≡ k.derived → length prefix ≡ 7 → keys_of k aad salt ≡ Some keys → chunk_count k text ≤ 2 ^ 32
    → IsStream (opening_key aad k) (stream k aad salt prefix text) (chunks (first_room k) (room k) text)
sealed_stream k aad salt prefix keys text u s p e few =
    subst (λ X. IsStream (opening_key aad k) X (chunks (first_room k) (room k) text)) (sym (stream_parts k aad salt prefix keys text e))
    (fronted_stream k aad _ _ (parts_are_stream k aad salt prefix keys text u s p e few))

-- all chunks are agreed on
all_agreed : (seg : ℕ → Bool → List ℕ → List ℕ) (o a b : ℕ) (ts : List (List ℕ)) (X : List ℕ) → IsLawful o seg → 0 < a → 0 < b → 0 < o → AreSegments seg 0 a b X ts → Agree seg 0 (cut (a + o) (b + o) X) ts
all_agreed seg o a b ts X lawful p q s h =
    let all = all_agree seg o 0 a b ts X lawful.longer p q s h in
    record { are = all.0; longest = λ others are. let l = leads_on seg 0 (cut (a + o) (b + o) X) others are in omega (arith, l.2, all.1) }

one_by : (o : Option (ℕ → Bool → List ℕ → List ℕ)) (over a b : ℕ) (X : List ℕ) (ts us : List (List ℕ)) → ((seg : ℕ → Bool → List ℕ → List ℕ) → o ≡ Some seg → IsLawful over seg) → 0 < a → 0 < b → 0 < over
    → AreSegmentsBy o a b X ts → AreSegmentsBy o a b X us → us ≡ ts
one_by None over a b X ts us lawful p q s h g = absurd h
one_by (Some seg) over a b X ts us lawful p q s h g =
    let l = lawful seg refl in
    Agree-unique seg 0 (cut (a + over) (b + over) X) ts us l.one_text (all_agreed seg over a b ts X l p q s h) (all_agreed seg over a b us X l p q s g)

-- a stream has one list of texts
pub one_list : (k : OpeningKey) (S : List ℕ) (ts us : List (List ℕ)) → CanOpen k → IsStream k S ts → IsStream k S us → us ≡ ts
one_list k S ts us can h g =
    one_by (k.seg (header_of k S)) k.overhead (k.first - k.overhead) (k.size - k.overhead) (behind_front k S) ts us (can.lawful (header_of k S)) (omega (arith, can.room)) (omega (arith, can.room, can.fits)) can.some h.segments g.segments

-- what was read of a sealed stream is its text
pub read_sealed : (k : StreamKey) (aad salt prefix keys text given : List ℕ) → IsUsable k → length salt ≡ k.derived → length prefix ≡ 7 → keys_of k aad salt ≡ Some keys → chunk_count k text ≤ 2 ^ 32
    → IsTextOfStream (opening_key aad k) (Some (stream k aad salt prefix text)) given → given ≡ text
read_sealed k aad salt prefix keys text given u s p e few r =
    let same = one_list (opening_key aad k) (stream k aad salt prefix text) (chunks (first_room k) (room k) text) r.texts (opening_key_lawful aad k u) (sealed_stream k aad salt prefix keys text u s p e few) r.stream in
    r.given_is ∙ ap joined same ∙ joined_chunks (first_room k) (room k) text (omega (arith, u.room)) (omega (arith, u.room))

first_by : (o : Option (ℕ → Bool → List ℕ → List ℕ)) (over a b : ℕ) (X : List ℕ) (ts : List (List ℕ)) → ((seg : ℕ → Bool → List ℕ → List ℕ) → o ≡ Some seg → IsLawful over seg) → 0 < a → 0 < b → 0 < over
    → AreSegmentsBy o a b X ts → FirstAgrees o (cut (a + over) (b + over) X)
first_by None over a b X ts lawful p q s h = absurd h
first_by (Some seg) over a b X [] lawful p q s h = absurd h
first_by (Some seg) over a b X (t ∷ ts) lawful p q s h = first_of seg (cut (a + over) (b + over) X) t ts (all_agree seg over 0 a b (t ∷ ts) X (lawful seg refl).longer p q s h).0
  where
    first_of : (seg : ℕ → Bool → List ℕ → List ℕ) (cs : List (List ℕ)) (t : List ℕ) (ts : List (List ℕ)) → AreTexts seg 0 cs (t ∷ ts) → FirstAgrees (Some seg) cs
    first_of seg [] t ts h = absurd h
    first_of seg (c ∷ cs) t ts h = (t, (h.0, h.1, tt))

-- a stream of a key begins under it
pub stream_begins : (k : OpeningKey) (S : List ℕ) (ts : List (List ℕ)) → CanOpen k → IsStream k S ts → Begins k S
stream_begins k S ts can h =
    let first : (k.first - k.overhead) + k.overhead ≡ k.first = omega (arith, can.room) in
    let size : (k.size - k.overhead) + k.overhead ≡ k.size = omega (arith, can.room, can.fits) in
    let agrees = first_by (k.seg (header_of k S)) k.overhead (k.first - k.overhead) (k.size - k.overhead) (behind_front k S) ts (can.lawful (header_of k S)) (omega (arith, can.room)) (omega (arith, can.room, can.fits)) can.some h.segments in
    record {
      front = h.front;
      first = subst (λ n. FirstAgrees (k.seg (header_of k S)) (cut n k.size (behind_front k S))) first
          (subst (λ n. FirstAgrees (k.seg (header_of k S)) (cut ((k.first - k.overhead) + k.overhead) n (behind_front k S))) size agrees);
    }

-- the first key that begins is chosen
first_chosen : (earlier others : List OpeningKey) (k : OpeningKey) (S : List ℕ) → IsChosen earlier S None → Begins k S → IsChosen (earlier ++ k ∷ others) S (Some k)
first_chosen [] others k S none begins = inl (begins, refl)
first_chosen (j ∷ earlier) others k S (inl h) begins = absurd (let e : None ≡ Some j = h.1 in cc)
first_chosen (j ∷ earlier) others k S (inr h) begins = inr (h.0, first_chosen earlier others k S h.1 begins)

pub chosen_stream : (k : StreamKey) (aad S : List ℕ) (texts : List (List ℕ)) (earlier others : List OpeningKey) → IsUsable k → IsStream (opening_key aad k) S texts
    → IsChosen earlier S None → IsChosen (earlier ++ opening_key aad k ∷ others) S (Some (opening_key aad k))
chosen_stream k aad S texts earlier others u h none = first_chosen earlier others (opening_key aad k) S none (stream_begins (opening_key aad k) S texts (opening_key_lawful aad k u) h)

pub one_of_key : (k : StreamKey) (aad S : List ℕ) (texts others : List (List ℕ)) → IsUsable k → IsStream (opening_key aad k) S texts → IsStream (opening_key aad k) S others → others ≡ texts
one_of_key k aad S texts others u = one_list (opening_key aad k) S texts others (opening_key_lawful aad k u)

pub joined_text : (k : StreamKey) (text : List ℕ) → IsUsable k → joined (chunks (first_room k) (room k) text) ≡ text
joined_text k text u = joined_chunks (first_room k) (room k) text (omega (arith, u.room)) (omega (arith, u.room))

-- the chosen key is this one, and its texts are those that were sealed
pub read_chosen : (k : StreamKey) (aad salt prefix keys text given : List ℕ) (earlier others : List OpeningKey) → IsUsable k → length salt ≡ k.derived → length prefix ≡ 7
    → keys_of k aad salt ≡ Some keys → chunk_count k text ≤ 2 ^ 32 → IsChosen earlier (stream k aad salt prefix text) None
    → IsTextOfChosen (earlier ++ opening_key aad k ∷ others) (Some (stream k aad salt prefix text)) given → given ≡ text
read_chosen k aad salt prefix keys text given earlier others u s p e few none r =
    let S : List ℕ = stream k aad salt prefix text in
    let own = sealed_stream k aad salt prefix keys text u s p e few in
    let chosen = chosen_stream k aad S (chunks (first_room k) (room k) text) earlier others u own none in
    let both : Some r.stream.0 ≡ Some (opening_key aad k) = IsChosen-unique (earlier ++ opening_key aad k ∷ others) S (Some r.stream.0) (Some (opening_key aad k)) r.stream.1 chosen in
    let same : r.stream.0 ≡ opening_key aad k = cc in
    let stream_of : IsStream (opening_key aad k) S r.texts = subst (λ (j : OpeningKey). IsStream j S r.texts) same r.stream.2 in
    read_sealed k aad salt prefix keys text given u s p e few (record { texts = r.texts; stream = stream_of; given_is = r.given_is })
