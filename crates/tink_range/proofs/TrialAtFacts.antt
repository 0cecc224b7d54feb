-- Whether the stream of an object begins under a key.
use Rattle.std.proofs.Common.{◌≡◌, ◌<◌, ◌≤◌, ◌+◌, ◌-◌, nat_le, nat_lt, nat_eq, ℕ, Bool, true, false, ◌&&◌, List, [], ◌∷◌, length, take, drop, refl, sym, ap, subst, ◌∙◌, arith, Some, None, IfSome, is_some, bytes_eq, slice_index, length-drop}
use Rattle.std.specs.declared.option.Option.{Option}
use Rattle.std.proofs.lemmas.Bool.Decides.{nat_tests}
use Rattle.std.proofs.lemmas.List.{drop-take, drop_all, get_or-take, length-take, length-take-le, take-take}
use Rattle.stream_model.specs.Agree.{AreTexts, is_last}
use Rattle.stream_model.specs.Cut.{cut}
use Rattle.stream_model.specs.Key.{StreamKey, header_length}
use Rattle.stream_model.specs.Opening.{Begins, FirstAgrees, HasFront, OpeningKey, behind_front, begins_front, chunks_of, front_length, header_of, opening_key}
use Rattle.stream_model.proofs.CutFacts.{cut_none}
use Rattle.stream_model.proofs.KeyFacts.{CanOpen}
use Rattle.tink_streaming_io.specs.Choosing.{IsOpenerOf}
use Rattle.std.specs.Prelude.{Result, Ok, Err, IfErr, IfOk, MatchResult}
use Rattle.tink_streaming_keys.specs.Decrypters.{OpensBehind}
use Rattle.tink_range.specs.ChoosingAt.{is_tried, one_if}
use Rattle.tink_range.specs.ChunkReading.{ChunkAt, OpensAt}
use Rattle.tink_range.proofs.GivingSteps.{is_last_cut}
use Rattle.tink_range.proofs.PlaceFacts.{cut_step}

module _ (k : OpeningKey) (S : List ℕ) (some : 0 < k.header) (long : front_length k ≤ length S) where
  abbrev held : List ℕ
  held = take (front_length k) S

  -- a front is given by its own bytes
  begins_same : begins_front k held ≡ begins_front k S
  begins_same =
      let out : take (length k.out) held ≡ take (length k.out) S = take-take (length k.out) (front_length k) S (omega arith) in
      let mark : slice_index held (length k.out) ≡ slice_index S (length k.out) = get_or-take (front_length k) S (length k.out) 0 (omega arith) in
      ap (λ x. bytes_eq k.out x && nat_eq (slice_index held (length k.out)) k.header) out ∙ ap (λ n. bytes_eq k.out (take (length k.out) S) && nat_eq n k.header) mark

  header_same : header_of k held ≡ header_of k S
  header_same = ap (take k.header) (drop-take (length k.out) k.header S) ∙ take-take k.header k.header (drop (length k.out) S) (omega arith)

  pub front_of_whole : HasFront k held → HasFront k S
  front_of_whole h = record { long = long; mark = sym begins_same ∙ h.mark }

  pub front_of_held : HasFront k S → HasFront k held
  front_of_held h = record { long = omega (arith, length-take-le (front_length k) S long); mark = begins_same ∙ h.mark }

  pub seg_same : k.seg (header_of k held) ≡ k.seg (header_of k S)
  seg_same = ap k.seg header_same

module _ (k : OpeningKey) (S : List ℕ) (seg : ℕ → Bool → List ℕ → List ℕ) (some : 0 < k.first) (more : 0 < k.size) (inside : front_length k < length S) where
  abbrev X : List ℕ
  X = behind_front k S

  split : chunks_of k S ≡ take k.first X ∷ cut k.size k.size (drop k.first X)
  split = cut_step k.first k.size X (omega (arith, length-drop (front_length k) S)) some more

  mark : is_last (cut k.size k.size (drop k.first X)) ≡ nat_le (length S - front_length k) k.first
  mark = is_last_cut k.first k.size X ∙ ap (λ n. nat_le n k.first) (length-drop (front_length k) S)

  -- the first chunk is the segment of a text
  pub first_agrees : (t : List ℕ) → seg 0 (nat_le (length S - front_length k) k.first) t ≡ take k.first X → FirstAgrees (Some seg) (chunks_of k S)
  first_agrees t opens =
      (t, subst (λ (cs : List (List ℕ)). AreTexts seg 0 cs (t ∷ [])) (sym split) (omega arith, ap (λ m. seg 0 m t) mark ∙ opens, tt))

  -- or of none
  pub first_disagrees : ((t : List ℕ) → seg 0 (nat_le (length S - front_length k) k.first) t ≡ take k.first X → ⊥) → FirstAgrees (Some seg) (chunks_of k S) → ⊥
  first_disagrees none first =
      let texts : AreTexts seg 0 (take k.first X ∷ cut k.size k.size (drop k.first X)) (first.0 ∷ []) = subst (λ (cs : List (List ℕ)). AreTexts seg 0 cs (first.0 ∷ [])) split first.1 in
      none first.0 (ap (λ m. seg 0 m first.0) (sym mark) ∙ texts.1)

-- no stream begins whose front is all there is, or less
no_first : (o : Option (ℕ → Bool → List ℕ → List ℕ)) (a b : ℕ) → FirstAgrees o (cut a b []) → ⊥
no_first None a b first = first
no_first (Some seg) a b first =
    let texts : AreTexts seg 0 [] (first.0 ∷ []) = subst (λ (cs : List (List ℕ)). AreTexts seg 0 cs (first.0 ∷ [])) (cut_none a b) first.1 in
    texts

pub short_not : (k : OpeningKey) (S : List ℕ) → length S ≤ front_length k → Begins k S → ⊥
short_not k S short b =
    let none : behind_front k S ≡ [] = drop_all (front_length k) S short in
    no_first (k.seg (header_of k S)) k.first k.size (subst (λ (Y : List ℕ). FirstAgrees (k.seg (header_of k S)) (cut k.first k.size Y)) none b.first)

and_false : (a b : Bool) → a ≡ false → (a && b) ≡ false
and_false a b e = ap (λ x. x && b) e

pub short_untried : (k : OpeningKey) (S : List ℕ) → length S ≤ front_length k → one_if (is_tried k S) ≡ 0
short_untried k S short =
    let not : nat_lt (front_length k) (length S) ≡ false = grind (arith, nat_tests) in
    ap one_if (and_false (nat_lt (front_length k) (length S)) (begins_front k S && is_some (k.seg (header_of k S))) not)

underived : (l b : Bool) (o : Option (ℕ → Bool → List ℕ → List ℕ)) → (b ≡ true → o ≡ None) → one_if (l && (b && is_some o)) ≡ 0
underived false b o none = refl
underived true false o none = refl
underived true true o none = ap (λ x. one_if (is_some x)) (none refl)

-- a key from whose header no keys are derived is not tried, and begins no stream
pub none_untried : (k : OpeningKey) (S : List ℕ) → front_length k ≤ length S → (HasFront k S → k.seg (header_of k S) ≡ None) → one_if (is_tried k S) ≡ 0
none_untried k S long none = underived (nat_lt (front_length k) (length S)) (begins_front k S) (k.seg (header_of k S)) (λ m. none (record { long = long; mark = m }))

pub none_not : (k : OpeningKey) (S : List ℕ) → (HasFront k S → k.seg (header_of k S) ≡ None) → Begins k S → ⊥
none_not k S none b = subst (λ (s : Option (ℕ → Bool → List ℕ → List ℕ)). FirstAgrees s (chunks_of k S)) (none b.front) b.first

-- a key whose first segment is opened is tried
pub is_tried_one : (k : OpeningKey) (S : List ℕ) (seg : ℕ → Bool → List ℕ → List ℕ) → front_length k < length S → HasFront k S → k.seg (header_of k S) ≡ Some seg → one_if (is_tried k S) ≡ 1
is_tried_one k S seg inside front map =
    let there : nat_lt (front_length k) (length S) ≡ true = grind (arith, nat_tests) in
    ap (λ l. one_if (l && (begins_front k S && is_some (k.seg (header_of k S))))) there
    ∙ ap (λ b. one_if (b && is_some (k.seg (header_of k S)))) front.mark
    ∙ ap (λ o. one_if (is_some o)) map

-- ---- the same of an object that may tell its bytes

module _ (k : OpeningKey) (held : List ℕ) (n len : ℕ) (some : 0 < k.header) (n_is : n ≡ front_length k) (inside : front_length k ≤ len) where
  held_is : (S : List ℕ) → held ≡ take n S → held ≡ take (front_length k) S
  held_is S read = read ∙ ap (λ m. take m S) n_is

  none_by : (S : List ℕ) → length S ≡ len → held ≡ take n S → (HasFront k held → k.seg (header_of k held) ≡ None) → HasFront k S → k.seg (header_of k S) ≡ None
  none_by S long read none front =
      sym (seg_same k S some (omega arith)) ∙ subst (λ (H : List ℕ). HasFront k H → k.seg (header_of k H) ≡ None) (held_is S read) none (front_of_held k S some (omega arith) front)

  pub told_underived : (all : Option (List ℕ)) (before : ℕ) → IfSome all (λ S. length S ≡ len) → IfSome all (λ S. held ≡ take n S) → (HasFront k held → k.seg (header_of k held) ≡ None)
      → IfSome all (λ S. Begins k S → ⊥) × IfSome all (λ S. before ≡ before + one_if (is_tried k S))
  told_underived None before long read none = (tt, tt)
  told_underived (Some S) before long read none =
      let derived = none_by S long read none in
      let count : one_if (is_tried k S) ≡ 0 = none_untried k S (omega arith) derived in
      (none_not k S derived, omega (arith, count))

  module _ (seg : ℕ → Bool → List ℕ → List ℕ) (front first size over nonce nonce_bytes rest : ℕ) (opens : OpensBehind k nonce held seg first size over nonce_bytes) (front_is : front ≡ front_length k) (first_some : 0 < k.first) (size_some : 0 < k.size) (fits : k.header + k.first ≤ k.size) (more : front < len) (rest_is : rest ≡ len - front) where
    abbrev at : ChunkAt
    at = record { number = 0; start = front; rest = rest; room = first }

    whole_prefix : (S : List ℕ) → length S ≡ len → held ≡ take n S → HasFront k S
    whole_prefix S long read = front_of_whole k S some (omega arith) (subst (HasFront k) (held_is S read) opens.front)

    whole_map : (S : List ℕ) → length S ≡ len → held ≡ take n S → k.seg (header_of k S) ≡ Some seg
    whole_map S long read = sym (seg_same k S some (omega arith)) ∙ subst (λ (H : List ℕ). k.seg (header_of k H) ≡ Some seg) (held_is S read) opens.map

    mark_is : (S : List ℕ) → length S ≡ len → nat_le rest first ≡ nat_le (length S - front_length k) k.first
    mark_is S long =
        let count : rest ≡ length S - front_length k = omega (arith, rest_is, front_is) in
        ap (λ m. nat_le m first) count ∙ ap (nat_le (length S - front_length k)) opens.first_is

    chunk_is : (S : List ℕ) → take first (drop front S) ≡ take k.first (behind_front k S)
    chunk_is S = ap (λ m. take m (drop front S)) opens.first_is ∙ ap (λ m. take k.first (drop m S)) front_is

    does_by : (S t : List ℕ) → length S ≡ len → held ≡ take n S → seg 0 (nat_le rest first) t ≡ take first (drop front S) → Begins k S × IsOpenerOf k S seg front first size over
    does_by S t long read e =
        let map = whole_map S long read in (
          record {
            front = whole_prefix S long read;
            first = subst (λ (o : Option (ℕ → Bool → List ℕ → List ℕ)). FirstAgrees o (chunks_of k S)) (sym map) (first_agrees k S seg first_some size_some (omega (arith, front_is)) t (ap (λ m. seg 0 m t) (sym (mark_is S long)) ∙ e ∙ chunk_is S));
          },
          record { map = map; front_is = front_is; first_is = opens.first_is; size_is = opens.size_is; overhead_is = opens.overhead_is; fits = fits },
        )

    not_by : (S : List ℕ) → length S ≡ len → held ≡ take n S → ((t : List ℕ) → seg 0 (nat_le rest first) t ≡ take first (drop front S) → ⊥) → Begins k S → ⊥
    not_by S long read none b =
        first_disagrees k S seg first_some size_some (omega (arith, front_is)) (λ t e. none t (ap (λ m. seg 0 m t) (mark_is S long) ∙ e ∙ sym (chunk_is S)))
        (subst (λ (o : Option (ℕ → Bool → List ℕ → List ℕ)). FirstAgrees o (chunks_of k S)) (whole_map S long read) b.first)

    pub told_does : (all known : Option (List ℕ)) (t : List ℕ) (ok : Bool) → known ≡ all → ok ≡ true → IfSome all (λ S. length S ≡ len) → IfSome all (λ S. held ≡ take n S) → OpensAt seg at known ok t
        → IfSome all (λ S. Begins k S × IsOpenerOf k S seg front first size over)
    told_does all known t ok same agrees long read answer = by all long read (subst (λ (o : Option (List ℕ)). OpensAt seg at o true t) same (subst (λ (b : Bool). OpensAt seg at known b t) agrees answer))
      where
        by : (o : Option (List ℕ)) → IfSome o (λ S. length S ≡ len) → IfSome o (λ S. held ≡ take n S) → OpensAt seg at o true t → IfSome o (λ S. Begins k S × IsOpenerOf k S seg front first size over)
        by None l r e = tt
        by (Some S) l r e = does_by S t l r e

    pub told_not : (all known : Option (List ℕ)) (t : List ℕ) (ok : Bool) (before now : ℕ) → known ≡ all → ok ≡ false → now ≡ before + 1 → IfSome all (λ S. length S ≡ len) → IfSome all (λ S. held ≡ take n S) → OpensAt seg at known ok t
        → IfSome all (λ S. Begins k S → ⊥) × IfSome all (λ S. now ≡ before + one_if (is_tried k S))
    told_not all known t ok before now same differs ticked long read answer = by all long read (subst (λ (o : Option (List ℕ)). OpensAt seg at o false t) same (subst (λ (b : Bool). OpensAt seg at known b t) differs answer))
      where
        by : (o : Option (List ℕ)) → IfSome o (λ S. length S ≡ len) → IfSome o (λ S. held ≡ take n S) → OpensAt seg at o false t → IfSome o (λ S. Begins k S → ⊥) × IfSome o (λ S. now ≡ before + one_if (is_tried k S))
        by None l r e = (tt, tt)
        by (Some S) l r e =
            let count : one_if (is_tried k S) ≡ 1 = is_tried_one k S seg (omega (arith, front_is)) (whole_prefix S l r) (whole_map S l r) in
            (not_by S l r e, omega (arith, count, ticked))

-- the answer of a call by a test that was made before
pub by_test : {T E : Type 0} (P : T → Type 0) (Q : E → Type 0) (begins : Bool) (t : T) (e : E) (r : Result T E) → MatchResult r (λ b. (begins ≡ true) × (b ≡ t)) (λ p. (begins ≡ false) × (p ≡ e))
    → (begins ≡ true → P t) → (begins ≡ false → Q e) → MatchResult r P Q
by_test P Q begins t e (Ok b) is does not = subst P (sym is.1) (does is.0)
by_test P Q begins t e (Err p) is does not = subst Q (sym is.1) (not is.0)

-- what stands before a header, and a header, are a front
pub front_of : (aad : List ℕ) (key : StreamKey) (prefix : List ℕ) (header : ℕ) → prefix ≡ key.out → header ≡ header_length key → length prefix + header ≡ front_length (opening_key aad key)
front_of aad key prefix header p h = omega (arith, ap length p, h)

-- it fits where a segment does
pub cut_front : (k : OpeningKey) (front sealed : ℕ) (held : List ℕ) → front ≡ front_length k → CanOpen k → length held ≡ sealed → length k.out + k.size < sealed → length (take front held) ≡ front
cut_front k front sealed held is usable len room = omega (arith, is, usable.fits, len, room, length-take front held)

-- what is said of a value and of a refusal is said of a result
pub either : {V E : Type 0} (P : V → Type 0) (Q : E → Type 0) (r : Result V E) → IfOk r P → IfErr r Q → MatchResult r P Q
either P Q (Ok v) p q = p
either P Q (Err e) p q = q

-- the memory of a prefix is as large as before
pub same_memory : {V E : Type 0} (f : V → ℕ) (h : E → ℕ) (n : ℕ) (r : Result V E) → 7 ≤ n → IfOk r (λ v. f v ≡ n) → IfErr r (λ e. h e ≡ n) → MatchResult r (λ v. 7 ≤ f v) (λ e. 7 ≤ h e)
same_memory f h n (Ok v) room p q = subst (λ (m : ℕ). 7 ≤ m) (sym p) room
same_memory f h n (Err e) room p q = subst (λ (m : ℕ). 7 ≤ m) (sym q) room
