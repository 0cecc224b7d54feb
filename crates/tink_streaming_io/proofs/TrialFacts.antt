-- Whether a stream begins under a key, by the bytes that are held of it.
use Rattle.std.proofs.Common.{◌≡◌, inl, inr, ◌≤◌, ◌<◌, ◌+◌, ◌-◌, ℕ, Bool, List, [], ◌∷◌, ◌++◌, length, take, drop, Some, None, IfSome, ap, sym, ◌∙◌, subst, arith, length-append, length-drop, bytes_eq, nat_eq, slice_index, ◌&&◌}
use Rattle.std.proofs.lemmas.List.{take-append-le, drop-append-le, drop-take, get_or_append_left}
use Rattle.std.specs.Prelude.{false, true, vec_capacity}
use Rattle.std.specs.declared.option.Option.{Option}
use Rattle.std.specs.Io.KnownBytes.{Keeps, prepend_known}
use Rattle.std.proofs.KnownBytes.{Keeps-trans}
use Rattle.stream_model.specs.Agree.{Agree}
use Rattle.stream_model.specs.Opening.{OpeningKey, HasFront, Begins, FirstAgrees, begins_front, behind_front, chunks_of, front_length, header_of}
use Rattle.stream_model.proofs.AgreeFacts.{AreTexts-leads}
use Rattle.tink_streaming_segment.specs.declared.segment_traits.SegmentDecrypter.{Ghosts}
use Rattle.tink_streaming_segment.specs.Opening.{HeadOpensTo, HoldsChunk}
use Rattle.tink_streaming_io.specs.Trials.{DoesBegin, DoesNotBegin, HasPrefixRoom, IsTrialBy, MayBegin, TrialMeans}
use Rattle.tink_streaming_io.specs.declared.trying.Begun.{Begun}
use Rattle.tink_streaming_io.specs.declared.trying.KeyTrial.{KeyTrial}
use Rattle.tink_streaming_io.specs.declared.trying.KeyTrial.TheVariants.{Begins as BeginsUnder, Differs}
use Rattle.tink_streaming_io.proofs.FrontFacts.{opened_front, refused_front}
use Rattle.tink_streaming_segment.proofs.HeadFacts.{fits_or_not}

-- what is held of the same bytes
pub held_from : (size : ℕ) (r0 r1 left : Option (List ℕ)) (H : List ℕ) → Keeps r0 r1 → HoldsChunk size r1 H left → HoldsChunk size r0 H left
held_from size r0 r1 left H k h = record { all = Keeps-trans r0 r1 (prepend_known H left) k h.all; end = h.end }

-- the first bytes of all are those that are held
front_bytes : (k : OpeningKey) (H Y : List ℕ) → 0 < k.header → front_length k ≤ length H → begins_front k (H ++ Y) ≡ begins_front k H
front_bytes k H Y pos long =
    let out : take (length k.out) (H ++ Y) ≡ take (length k.out) H = take-append-le (length k.out) H Y (omega (arith, long)) in
    let mark : slice_index (H ++ Y) (length k.out) ≡ slice_index H (length k.out) = get_or_append_left H Y 0 (length k.out) (omega (arith, long)) in
    ap (λ x. bytes_eq k.out x && nat_eq (slice_index (H ++ Y) (length k.out)) k.header) out ∙ ap (λ n. bytes_eq k.out (take (length k.out) H) && nat_eq n k.header) mark

-- a held front is that of all bytes
front_of_all : (k : OpeningKey) (H Y : List ℕ) → 0 < k.header → HasFront k H → HasFront k (H ++ Y)
front_of_all k H Y pos h = record {
  long = omega (arith, h.long, length-append H Y);
  mark = front_bytes k H Y pos h.long ∙ h.mark;
}

-- and the other way round, where more than a front is held unless nothing is left
front_of_held : (k : OpeningKey) (H Y : List ℕ) → 0 < k.header → (length H ≤ front_length k → Y ≡ []) → HasFront k (H ++ Y) → HasFront k H
front_of_held k H Y pos end h =
    let long : front_length k ≤ length H = elim (fits_or_not (length H) (front_length k)) [
      | inl fits ↦ let none : length Y ≡ 0 = ap length (end fits) in omega (arith, h.long, length-append H Y)
      | inr more ↦ omega arith
    ] in
    record { long = long; mark = sym (front_bytes k H Y pos long) ∙ h.mark }

header_bytes : (k : OpeningKey) (H X Y : List ℕ) → H ++ Y ≡ X → front_length k ≤ length H → header_of k X ≡ header_of k H
header_bytes k H X Y e long =
    ap (header_of k) (sym e) ∙ ap (take k.header) (drop-append-le (length k.out) H Y (omega (arith, long)))
    ∙ take-append-le k.header (drop (length k.out) H) Y (omega (arith, long, length-drop (length k.out) H))

-- a stream begins in no front of a key from which keys are derived
pub not_begun : (k : OpeningKey) (size : ℕ) (r left : Option (List ℕ)) (H : List ℕ) → 0 < k.header → HoldsChunk size r H left → front_length k ≤ size → (HasFront k H → k.seg (header_of k H) ≡ None) → IfSome r (λ X. Begins k X → ⊥)
not_begun k size None left H pos h room none = tt
not_begun k size (Some X) None H pos h room none = absurd h.all
not_begun k size (Some X) (Some Y) H pos h room none = λ b.
    let here : HasFront k H = front_of_held k H Y pos (λ few. h.end (omega (arith, few, room))) (subst (HasFront k) (sym h.all) b.front) in
    let underived : k.seg (header_of k X) ≡ None = ap k.seg (header_bytes k H X Y h.all here.long) ∙ none here in
    subst (λ (s : Option (ℕ → Bool → List ℕ → List ℕ)). FirstAgrees s (chunks_of k X)) underived b.first

-- no more is kept than tells the front
pub no_further : (k : OpeningKey) (r : Option (List ℕ)) (most filled : ℕ) → filled ≤ most → IfSome r (λ X. most < filled → MayBegin k X)
no_further k None most filled few = tt
no_further k (Some X) most filled few = λ more. absurd (omega (arith, few, more))

-- more is kept behind a front that is held in H, from whose header keys are derived
pub goes_further : (k : OpeningKey) (r left : Option (List ℕ)) (H : List ℕ) (seg : ℕ → Bool → List ℕ → List ℕ) (most filled : ℕ) → 0 < k.header → Keeps r (prepend_known H left) → HasFront k H → k.seg (header_of k H) ≡ Some seg
    → IfSome r (λ X. most < filled → MayBegin k X)
goes_further k None left H seg most filled pos kept front map = tt
goes_further k (Some X) None H seg most filled pos kept front map = absurd kept
goes_further k (Some X) (Some Y) H seg most filled pos kept front map = λ _. record {
  front = subst (HasFront k) kept (front_of_all k H Y pos front);
  derived = λ none. absurd (let e : Some seg ≡ None = sym map ∙ sym (ap k.seg (header_bytes k H X Y kept front.long)) ∙ none in cc);
}

-- the first segment is tried under a front that is held in H, from whose header keys are derived
pub record Tried (k : OpeningKey) (r l m : Option (List ℕ)) (H G part : List ℕ) (seg : ℕ → Bool → List ℕ → List ℕ) (size : ℕ) : Type 0 where
  pub some : 0 < k.header
  pub room : 0 < k.first
  pub fits : k.header + k.first ≤ k.size
  pub before : Keeps r (prepend_known H l)
  pub front : HasFront k H
  pub map : k.seg (header_of k H) ≡ Some seg
  pub held : HoldsChunk (front_length k + k.first) r G m
  pub long : front_length k ≤ length G
  pub size_is : size ≡ k.first
  pub part_is : part ≡ behind_front k G

behind : (k : OpeningKey) (X Y G : List ℕ) → HoldsChunk (front_length k + k.first) (Some X) G (Some Y) → front_length k ≤ length G → HoldsChunk k.first (Some (behind_front k X)) (behind_front k G) (Some Y)
behind k X Y G h long = record {
  all = sym (drop-append-le (front_length k) G Y long) ∙ ap (behind_front k) h.all;
  end = λ few. h.end (omega (arith, length-drop (front_length k) G));
}

-- a text's segment makes the stream begin
pub begun : (k : OpeningKey) (r l m : Option (List ℕ)) (H G part : List ℕ) (seg : ℕ → Bool → List ℕ → List ℕ) (size : ℕ) (t : List ℕ) → Tried k r l m H G part seg size → HeadOpensTo seg 0 size part t
    → IfSome r (λ X. Begins k X × (k.seg (header_of k X) ≡ Some seg))
begun k None l m H G part seg size t tried o = tt
begun k (Some X) None m H G part seg size t tried o = absurd tried.before
begun k (Some X) (Some Y) None H G part seg size t tried o = absurd tried.held.all
begun k (Some X) (Some Y) (Some Z) H G part seg size t tried o =
    let a : ℕ = k.first in
    let derived : k.seg (header_of k X) ≡ Some seg = ap k.seg (header_bytes k H X Y tried.before tried.front.long) ∙ tried.map in
    let leads = opened_front seg a k.size 0 (Some (behind_front k X)) (Some Z) (behind_front k G) t (omega arith) tried.room (omega (arith, tried.room, tried.fits)) (behind k X Z G tried.held tried.long)
    (subst (λ (x : List ℕ). HeadOpensTo seg 0 a x t) tried.part_is (subst (λ (n : ℕ). HeadOpensTo seg 0 n part t) tried.size_is o)) in (
      record {
        front = subst (HasFront k) tried.before (front_of_all k H Y tried.some tried.front);
        first = subst (λ (s : Option (ℕ → Bool → List ℕ → List ℕ)). FirstAgrees s (chunks_of k X)) (sym derived) (t, AreTexts-leads seg 0 (chunks_of k X) (t ∷ []) _ [] leads tt);
      },
      derived,
    )

-- where no text's is the first chunk, it doesn't
pub refused : (k : OpeningKey) (r l m : Option (List ℕ)) (H G part : List ℕ) (seg : ℕ → Bool → List ℕ → List ℕ) (size : ℕ) → Tried k r l m H G part seg size → ((t : List ℕ) → HeadOpensTo seg 0 size part t → ⊥)
    → IfSome r (λ X. Begins k X → ⊥)
refused k None l m H G part seg size tried none = tt
refused k (Some X) None m H G part seg size tried none = absurd tried.before
refused k (Some X) (Some Y) None H G part seg size tried none = absurd tried.held.all
refused k (Some X) (Some Y) (Some Z) H G part seg size tried none = λ b.
    let a : ℕ = k.first in
    let derived : k.seg (header_of k X) ≡ Some seg = ap k.seg (header_bytes k H X Y tried.before tried.front.long) ∙ tried.map in
    let agree : Agree seg 0 (chunks_of k X) [] =
    refused_front seg a k.size 0 (Some (behind_front k X)) (Some Z) (behind_front k G) tried.room (omega (arith, tried.room, tried.fits)) (behind k X Z G tried.held tried.long)
    (λ t o. none t (subst (λ (n : ℕ). HeadOpensTo seg 0 n part t) (sym tried.size_is) (subst (λ (x : List ℕ). HeadOpensTo seg 0 a x t) (sym tried.part_is) o))) in
    let one = subst (λ (s : Option (ℕ → Bool → List ℕ → List ℕ)). FirstAgrees s (chunks_of k X)) derived b.first in
    let none_is : 1 ≤ 0 = agree.longest (one.0 ∷ []) one.1 in
    omega arith

-- the bytes behind a front
pub part_of : (h header filled : ℕ) (xs items : List ℕ) → h ≡ header → xs ≡ items → h ≤ filled → take (filled - h) (drop h xs) ≡ drop header (take filled items)
part_of h header filled xs items e f long =
    let all : h + (filled - h) ≡ filled = omega arith in
    sym (drop-take h (filled - h) xs) ∙ ap (λ n. drop h (take n xs)) all ∙ ap (λ x. drop h (take filled x)) f ∙ ap (λ n. drop n (take filled items)) e

-- what the trial of a key answers, by whether its stream begins
pub trial_means : {D : Type 0} {g : Ghosts D} (k : OpeningKey) (nonce_size : ℕ) (old new : Option (List ℕ)) (filled : ℕ) (begins : Bool) (b : Begun D g) (r : KeyTrial D g)
    → IsTrialBy begins b r
    → (begins ≡ true → DoesBegin k nonce_size old new filled b) → (begins ≡ false → DoesNotBegin k old new b.opener.prefix)
    → TrialMeans k nonce_size old new filled r
trial_means k nonce_size old new filled begins b (BeginsUnder x) is does fails = subst (DoesBegin k nonce_size old new filled) (sym is.1) (does is.0)
trial_means k nonce_size old new filled begins b (Differs p) is does fails = subst (λ q. DoesNotBegin k old new q) (sym is.1) (fails is.0)

-- the memory of a prefix is in the opener or is handed back
pub prefix_kept : {D : Type 0} {g : Ghosts D} (begins : Bool) (b : Begun D g) (r : KeyTrial D g) (n : ℕ)
    → vec_capacity b.opener.prefix ≡ n → IsTrialBy begins b r → HasPrefixRoom n r
prefix_kept begins b (BeginsUnder x) n room is = ap (λ y. vec_capacity y.opener.prefix) is.1 ∙ room
prefix_kept begins b (Differs p) n room is = ap (λ q. vec_capacity q) is.1 ∙ room
