-- Putting one segment after another.
use Rattle.std.proofs.Common.{◌≡◌, ◌<◌, ◌≤◌, ◌+◌, ℕ, Bool, false, List, [], ◌∷◌, ◌++◌, length, take, drop, ap, sym, ◌∙◌, arith, length-append}
use Rattle.std.proofs.lemmas.List.{append-nil, drop-drop}
use Rattle.std.proofs.Math.Seq.{take-append_seam, drop-append_seam}
use Rattle.stream_model.specs.Cut.{nonce, unmarked}
use Rattle.stream_model.proofs.CutFacts.{unmarked-append}
use Rattle.tink_streaming_segment.specs.Sealers.{segment_map}
use Rattle.tink_streaming_segment.specs.declared.sealer.Sealer.{Sealer}
use Rattle.tink_streaming_segment.specs.declared.segment_traits.SegmentEncrypter.{Ghosts}

-- a segment is longer than its text by the overhead
pub segment_length : {E : Type 0} {g : Ghosts E} (s : Sealer E g) → ((e : E) (n t : List ℕ) → length (g.seg e n t) ≡ length t + g.overhead_of e) → (i : ℕ) (last : Bool) (t : List ℕ)
    → length (segment_map s i last t) ≡ length t + s.overhead
segment_length s longer i last t = omega (arith, longer s.encrypter (nonce s.nonce_size s.prefix.items i last) t, s.overhead_is)

-- what stands in a buffer once one more segment was put behind those that are done
pub one_more_put : (done one all old out new : List ℕ) (to n : ℕ) → to ≡ length done → n ≡ length one → all ≡ done ++ one → out ≡ done ++ drop (length done) old
    → new ≡ take to out ++ one ++ drop (to + n) out → new ≡ all ++ drop (length all) old
one_more_put done one all old out new to n t c a o w =
    let front : take to out ≡ done = ap (λ k. take k out) t ∙ ap (take (length done)) o ∙ take-append_seam done (drop (length done) old) in
    let rest : drop to out ≡ drop (length done) old = ap (λ k. drop k out) t ∙ ap (drop (length done)) o ∙ drop-append_seam done (drop (length done) old) in
    let long : length all ≡ length done + n = ap length a ∙ length-append done one ∙ omega (arith, c) in
    let back : drop (to + n) out ≡ drop (length all) old =
    sym (drop-drop n to out) ∙ ap (drop n) rest ∙ drop-drop n (length done) old ∙ ap (λ k. drop k old) (sym long) in
    w ∙ ap (λ x. x ++ one ++ drop (to + n) out) front ∙ ap (λ x. done ++ one ++ x) back ∙ ap (λ x. x ++ drop (length all) old) (sym a)

-- the segments of the chunks that are done, and one more
pub one_more_is : (seg : ℕ → Bool → List ℕ → List ℕ) (i0 i : ℕ) (done : List (List ℕ)) (held : List ℕ) → i ≡ i0 + length done
    → unmarked seg i0 (done ++ held ∷ []) ≡ unmarked seg i0 done ++ seg i false held
one_more_is seg i0 i done held e =
    unmarked-append seg i0 done (held ∷ []) ∙ ap (λ x. unmarked seg i0 done ++ x) (append-nil (seg (i0 + length done) false held)) ∙ ap (λ n. unmarked seg i0 done ++ seg n false held) (sym e)

-- a segment that is due has room
pub room_for : (seg : ℕ → Bool → List ℕ → List ℕ) (i0 i : ℕ) (done : List (List ℕ)) (held : List ℕ) (more all : List (List ℕ)) (to n room : ℕ) → i ≡ i0 + length done
    → all ≡ done ++ (held ∷ more) → to ≡ length (unmarked seg i0 done) → n ≡ length (seg i false held) → length (unmarked seg i0 all) ≤ room → to + n ≤ room
room_for seg i0 i done held more all to n room e s t c f =
    let whole : unmarked seg i0 all ≡ unmarked seg i0 done ++ (seg (i0 + length done) false held ++ unmarked seg (i0 + length done + 1) more) =
    ap (unmarked seg i0) s ∙ unmarked-append seg i0 done (held ∷ more) in
    let same : length (seg i false held) ≡ length (seg (i0 + length done) false held) = ap (λ k. length (seg k false held)) e in
    omega (arith, ap length whole, length-append (unmarked seg i0 done) (seg (i0 + length done) false held ++ unmarked seg (i0 + length done + 1) more), length-append (seg (i0 + length done) false held) (unmarked seg (i0 + length done + 1) more), same)

-- a segment that is due has a number
pub few_done : (i0 i : ℕ) (done : List (List ℕ)) (held : List ℕ) (more all : List (List ℕ)) (limit : ℕ) → i ≡ i0 + length done → all ≡ done ++ (held ∷ more)
    → i0 + length all < limit → i + 1 < limit
few_done i0 i done held more all limit e s f = omega (arith, ap length s, length-append done (held ∷ more))
