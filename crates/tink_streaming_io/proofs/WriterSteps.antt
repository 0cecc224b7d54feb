-- How a write goes on.
use Rattle.std.proofs.Common.{◌≡◌, ◌<◌, ◌≤◌, ◌+◌, ◌-◌, ◌^◌, ℕ, zero, suc, Bool, false, List, [], ◌∷◌, ◌++◌, length, take, drop, sym, ap, subst, ◌∙◌, arith, length-append, length-drop, append_assoc, min}
use Rattle.std.proofs.lemmas.List.{take-append-drop, append-nil, take-append-le, length-take-le, take_all, drop-drop}
use Rattle.std.proofs.Math.Seq.{take-append_seam, drop-append_seam, take-append-add}
use Rattle.std.specs.declared.option.Option.{Option}
use Rattle.std.specs.Io.KnownBytes.{Appends}
use Rattle.std.proofs.KnownBytes.{Appends-trans}
use Rattle.stream_model.specs.Cut.{full_chunks, open_chunk, room_at, unmarked}
use Rattle.stream_model.proofs.CutFacts.{full_chunks_fits, open_chunk_fits, full_chunks_more, open_chunk_more, room_at_next, unmarked-append}
use Rattle.tink_io.specs.Written.{AppendsPrefix}
use Rattle.tink_streaming_segment.specs.declared.segment_traits.SegmentEncrypter.{Ghosts}
use Rattle.tink_streaming_io.specs.Sealers.{held_text}
use Rattle.tink_streaming_io.specs.declared.writing.Mode.TheVariants.{Open, Closed}
use Rattle.tink_streaming_io.specs.declared.writing.SegmentWriter.{SegmentWriter}

-- a text R0 from number i0 on has come to number i and R, and these chunks are done
pub record Proceeds (a b i0 : ℕ) (R0 : List ℕ) (done : List (List ℕ)) (i : ℕ) (R : List ℕ) : Type 0 where
  pub chunks : done ++ full_chunks (room_at a b i) b R ≡ full_chunks (room_at a b i0) b R0
  pub last : open_chunk (room_at a b i) b R ≡ open_chunk (room_at a b i0) b R0
  pub number : i ≡ i0 + length done

pub proceeds_start : (a b i : ℕ) (held buf : List ℕ) (n : ℕ) → Proceeds a b i (held ++ buf) [] i ((held ++ take n buf) ++ drop n buf)
proceeds_start a b i held buf n =
    let e : (held ++ take n buf) ++ drop n buf ≡ held ++ buf = rw append_assoc (ap (λ x. held ++ x) (take-append-drop n buf)) in
    record { chunks = ap (full_chunks (room_at a b i) b) e; last = ap (open_chunk (room_at a b i) b) e; number = omega arith }

-- a full chunk is the prefix of its length
front_is : (n : ℕ) (held rest : List ℕ) → length held ≡ n → take n (held ++ rest) ≡ held
front_is n held rest e = subst (λ (k : ℕ). take k (held ++ rest) ≡ held) e (take-append_seam held rest)

back_is : (n : ℕ) (held rest : List ℕ) → length held ≡ n → drop n (held ++ rest) ≡ rest
back_is n held rest e = subst (λ (k : ℕ). drop k (held ++ rest) ≡ rest) e (drop-append_seam held rest)

pub full_is : (a b i : ℕ) (held rest : List ℕ) → length held ≡ room_at a b i → 0 < length rest → 0 < room_at a b i → 0 < b
    → full_chunks (room_at a b i) b (held ++ rest) ≡ held ∷ full_chunks b b rest
full_is a b i held rest e s p q =
    full_chunks_more (room_at a b i) b (held ++ rest) (omega (arith, length-append held rest)) p q
    ∙ ap (λ x. x ∷ full_chunks b b (drop (room_at a b i) (held ++ rest))) (front_is (room_at a b i) held rest e)
    ∙ ap (λ x. held ∷ full_chunks b b x) (back_is (room_at a b i) held rest e)

pub open_is : (a b i : ℕ) (held rest : List ℕ) → length held ≡ room_at a b i → 0 < length rest → 0 < room_at a b i → 0 < b
    → open_chunk (room_at a b i) b (held ++ rest) ≡ open_chunk b b rest
open_is a b i held rest e s p q =
    open_chunk_more (room_at a b i) b (held ++ rest) (omega (arith, length-append held rest)) p q
    ∙ ap (open_chunk b b) (back_is (room_at a b i) held rest e)

pub proceeds_step : (a b i0 : ℕ) (R0 : List ℕ) (done : List (List ℕ)) (i : ℕ) (held rest : List ℕ) → Proceeds a b i0 R0 done i (held ++ rest)
    → length held ≡ room_at a b i → 0 < length rest → 0 < room_at a b i → 0 < b → Proceeds a b i0 R0 (done ++ held ∷ []) (i + 1) rest
proceeds_step a b i0 R0 done i held rest h e s p q = record {
  chunks = ap (λ x. (done ++ held ∷ []) ++ full_chunks x b rest) (room_at_next a b i) ∙ append_assoc done (held ∷ []) (full_chunks b b rest)
      ∙ ap (λ x. done ++ x) (sym (full_is a b i held rest e s p q)) ∙ h.chunks;
  last = ap (λ x. open_chunk x b rest) (room_at_next a b i) ∙ sym (open_is a b i held rest e s p q) ∙ h.last;
  number = omega (arith, h.number, length-append done (held ∷ []));
}

pub proceeds_end : (a b i0 : ℕ) (R0 : List ℕ) (done : List (List ℕ)) (i : ℕ) (held rest : List ℕ) → Proceeds a b i0 R0 done i (held ++ rest) → rest ≡ [] → length held ≤ room_at a b i
    → (done ≡ full_chunks (room_at a b i0) b R0) × (held ≡ open_chunk (room_at a b i0) b R0)
proceeds_end a b i0 R0 done i held rest h n f =
    let e : held ++ rest ≡ held = ap (λ x. held ++ x) n ∙ append-nil held in
    let fits : length (held ++ rest) ≤ room_at a b i = omega (arith, ap length e) in (
      sym (append-nil done) ∙ ap (λ x. done ++ x) (sym (full_chunks_fits (room_at a b i) b (held ++ rest) fits)) ∙ h.chunks,
      sym e ∙ sym (open_chunk_fits (room_at a b i) b (held ++ rest) fits) ∙ h.last,
    )

-- what stands where the chunk that is held is full and more comes
pub stands : (a b i0 : ℕ) (R0 : List ℕ) (done : List (List ℕ)) (i : ℕ) (held rest : List ℕ) → Proceeds a b i0 R0 done i (held ++ rest)
    → length held ≡ room_at a b i → 0 < length rest → 0 < room_at a b i → 0 < b → full_chunks (room_at a b i0) b R0 ≡ done ++ (held ∷ full_chunks b b rest)
stands a b i0 R0 done i held rest h e s p q = sym h.chunks ∙ ap (λ x. done ++ x) (full_is a b i held rest e s p q)

-- a chunk that is full and has text behind it is due
pub is_due : (a b i0 : ℕ) (R0 : List ℕ) (done : List (List ℕ)) (i : ℕ) (held rest : List ℕ) → Proceeds a b i0 R0 done i (held ++ rest)
    → length held ≡ room_at a b i → 0 < length rest → 0 < room_at a b i → 0 < b → full_chunks (room_at a b i0) b R0 ≡ [] → ⊥
is_due a b i0 R0 done i held rest h e s p q none =
    omega (arith, ap length (sym none ∙ stands a b i0 R0 done i held rest h e s p q), length-append done (held ∷ full_chunks b b rest))

-- bytes and then a prefix of more are a prefix of both
pub then_prefix : (a b c : Option (List ℕ)) (xs ys : List ℕ) → Appends a b xs → AppendsPrefix b c ys → AppendsPrefix a c (xs ++ ys)
then_prefix a b c xs ys p q =
    (length xs + q.0, omega (arith, q.1, length-append xs ys), rw take-append-add (Appends-trans a b c xs (take q.0 ys) p q.2))

-- a prefix of a text is a prefix of a longer one
pub prefix_of_more : (a b : Option (List ℕ)) (xs ys : List ℕ) → AppendsPrefix a b xs → AppendsPrefix a b (xs ++ ys)
prefix_of_more a b xs ys q =
    (q.0, omega (arith, q.1, length-append xs ys), subst (Appends a b) (sym (take-append-le q.0 xs ys q.1)) q.2)

-- one more segment
pub one_more : (seg : ℕ → Bool → List ℕ → List ℕ) (a b c : Option (List ℕ)) (i0 i : ℕ) (done : List (List ℕ)) (held : List ℕ)
    → i ≡ i0 + length done → Appends a b (unmarked seg i0 done) → Appends b c (seg i false held) → Appends a c (unmarked seg i0 (done ++ held ∷ []))
one_more seg a b c i0 i done held e p q =
    let one : seg i false held ≡ unmarked seg (i0 + length done) (held ∷ []) = ap (λ n. seg n false held) e ∙ sym (append-nil (seg (i0 + length done) false held)) in
    subst (Appends a c) (ap (λ x. unmarked seg i0 done ++ x) one ∙ sym (unmarked-append seg i0 done (held ∷ []))) (Appends-trans a b c _ _ p q)

-- a prefix of one more segment
pub one_begun : (seg : ℕ → Bool → List ℕ → List ℕ) (a b c : Option (List ℕ)) (i0 i : ℕ) (done : List (List ℕ)) (held : List ℕ) (more all : List (List ℕ))
    → i ≡ i0 + length done → all ≡ done ++ (held ∷ more) → Appends a b (unmarked seg i0 done) → AppendsPrefix b c (seg i false held) → AppendsPrefix a c (unmarked seg i0 all)
one_begun seg a b c i0 i done held more all e s p q =
    let whole : unmarked seg i0 all ≡ unmarked seg i0 done ++ (seg i false held ++ unmarked seg (i0 + length done + 1) more) =
    ap (unmarked seg i0) s ∙ unmarked-append seg i0 done (held ∷ more) ∙ ap (λ n. unmarked seg i0 done ++ (seg n false held ++ unmarked seg (i0 + length done + 1) more)) (sym e) in
    subst (AppendsPrefix a c) (sym whole) (then_prefix a b c _ _ p (prefix_of_more b c _ _ q))

-- text that is moved in fills the room where more is left
pub is_full : (room n l m : ℕ) (buf : List ℕ) → m ≡ l + n → n ≡ min (room - l) (length buf) → l ≤ room → n < length buf → m ≡ room
is_full room n l m buf p c f h = omega arith

-- the rest of the text, cut at its own length
pub whole_rest : (d : ℕ) (xs : List ℕ) → take (length xs - d) (drop d xs) ≡ drop d xs
whole_rest d xs = take_all (length xs - d) (drop d xs) (omega (arith, length-drop d xs))

-- what was moved in and what is left are what was left
pub went_on : (at n : ℕ) (buf old new part : List ℕ) → old ≡ [] → new ≡ old ++ take n part → part ≡ drop at buf → new ++ drop (at + n) buf ≡ drop at buf
went_on at n buf old new part o e p =
    ap (λ x. x ++ drop (at + n) buf) (e ∙ ap (λ x. x ++ take n part) o)
    ∙ ap (λ x. take n x ++ drop (at + n) buf) p
    ∙ ap (λ x. take n (drop at buf) ++ x) (sym (drop-drop n at buf))
    ∙ take-append-drop n (drop at buf)

pub proceeds_at : (a b i0 : ℕ) (R0 : List ℕ) (done : List (List ℕ)) (i j : ℕ) (R S : List ℕ) → Proceeds a b i0 R0 done i R → j ≡ i → S ≡ R → Proceeds a b i0 R0 done j S
proceeds_at a b i0 R0 done i j R S h e f = subst (λ (x : ℕ). Proceeds a b i0 R0 done x S) (sym e) (subst (Proceeds a b i0 R0 done i) (sym f) h)

-- at the last number all the chunks with lower ones are done
pub all_done : (i0 i : ℕ) (done : List (List ℕ)) (held : List ℕ) (more all : List (List ℕ)) → i ≡ i0 + length done → i ≡ 2 ^ 32 - 1 → all ≡ done ++ (held ∷ more)
    → (2 ^ 32 ≤ i0 + length all) × (take (2 ^ 32 - 1 - i0) all ≡ done)
all_done i0 i done held more all e m s =
    let n : 2 ^ 32 - 1 - i0 ≡ length done = omega arith in (
      omega (arith, ap length s, length-append done (held ∷ more)),
      ap (take (2 ^ 32 - 1 - i0)) s ∙ ap (λ k. take k (done ++ (held ∷ more))) n ∙ take-append_seam done (held ∷ more),
    )

pub room_some : (a b i : ℕ) → 0 < a → a ≤ b → 0 < room_at a b i
room_some a b zero p q = p
room_some a b (suc i) p q = omega arith

-- bytes that the next segment has room for are in the buffer
held_length : (a b i n over : ℕ) (segment : List ℕ) → n ≤ room_at a b i → a ≤ b → b + over ≤ length segment → length (take n segment) ≡ n
held_length a b zero n over segment f p r = length-take-le n segment (omega arith)
held_length a b (suc i) n over segment f p r = length-take-le n segment (omega arith)

-- the text that is held has as many bytes as are filled
pub text_length : {E : Type 0} {g : Ghosts E} (w : SegmentWriter E g) → length (held_text w) ≡ w.filled
text_length w =
    held_length w.sealer.first w.sealer.room w.segments w.filled w.sealer.overhead w.segment.items w.held_fits w.sealer.first_fits (omega (arith, w.segment_fits, w.segment.ok.0))

-- a piece of what is left is held where a segment was written
pub goes_on : (len at n room held part : ℕ) → n ≡ min (room - held) part → 0 < room → held ≡ 0 → part ≡ len - at → at < len → len - (at + n) < len - at
goes_on len at n room held part count some none rest more = omega arith

pub none_fits : (n : ℕ) → 0 ≤ n
none_fits n = omega arith

-- the number behind one that is used
pub few_more : (n : ℕ) → n < 2 ^ 32 → n + 1 ≤ 2 ^ 32
few_more n few = omega arith

pub closed_opens_not : Closed ≡ Open → ⊥
closed_opens_not is = cc

-- what is left of a text that goes on
pub some_rest : (at : ℕ) (xs : List ℕ) → at < length xs → 0 < length (drop at xs)
some_rest at xs more = omega (arith, length-drop at xs)

pub within_rest : (len at n room held part : ℕ) → n ≡ min (room - held) part → part ≡ len - at → at < len → at + n ≤ len
within_rest len at n room held part count is more = omega arith

pub more_rest : (len at n part : ℕ) → part ≡ len - at → at + n < len → n < part
more_rest len at n part is more = omega arith

pub room_most : (a b : ℕ) → 0 < a → a ≤ b → 0 < b
room_most a b some fits = omega arith

pub some_done : (done : List (List ℕ)) (last : List ℕ) → length (done ++ last ∷ []) ≡ 0 → ⊥
some_done done last none = omega (arith, length-append done (last ∷ []))

pub later_on : (i j k : ℕ) → i ≤ j → j ≤ k → i ≤ k
later_on i j k first next = omega arith
