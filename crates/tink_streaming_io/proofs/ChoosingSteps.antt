-- Which key is chosen, step by step.
use Rattle.std.proofs.Common.{◌≡◌, ◌≤◌, ◌<◌, ◌+◌, ◌-◌, ℕ, Bool, List, [], ◌∷◌, ◌++◌, length, take, drop, map, Some, None, IfSome, ap, sym, refl, ◌∙◌, subst, inl, inr, zero, suc, add-one, max, get_or, drop-cons, arith, length-drop, vec_len}
use Rattle.std.proofs.Math.ListN.{drop_of_length-le}
use Rattle.std.specs.declared.option.Option.{Option}
use Rattle.std.proofs.lemmas.List.{drop-append-le, get_or-map, length-map, length-take}
use Rattle.std.proofs.Math.Seq.{drop-append_seam}
use Rattle.std.specs.Io.KnownBytes.{Keeps, prepend_known}
use Rattle.tink_io.specs.Taken.{LosesAtMost}
use Rattle.stream_model.specs.Opening.{OpeningKey, Begins, IsChosen, front_length}
use Rattle.tink_streaming_io.specs.Choosing.{Found, Started}
use Rattle.tink_streaming_io.specs.Trials.{BeginsInNone, MayBegin, ReadsFronts, longest_front}
use Rattle.tink_streaming_segment.specs.Keeping.{kept_rest}
use Rattle.tink_streaming_segment.specs.declared.kept.Kept.{Kept}
use Rattle.tink_streaming_segment.proofs.HeadFacts.{fits_or_not}

-- what is chosen of the keys from i on is chosen of all
abbrev pub ChosenFrom : {T : Type 0} → (T → OpeningKey) → List T → ℕ → List ℕ → Type 0
ChosenFrom of keys i X = (r : Option OpeningKey) → IsChosen (map of (drop i keys)) X r → IsChosen (map of keys) X r

pub all_left : {T : Type 0} (of : T → OpeningKey) (keys : List T) (told : Option (List ℕ)) → IfSome told (ChosenFrom of keys 0)
all_left of keys None = tt
all_left of keys (Some X) = λ r h. h

pub key_split : {T : Type 0} (keys : List T) (i : ℕ) (key : T) → i < length keys → key ≡ get_or keys i key → drop i keys ≡ key ∷ drop (i + 1) keys
key_split keys i key h e = drop-cons keys i key h ∙ ap (λ x. x ∷ drop (suc i) keys) (sym e) ∙ rw add-one refl

-- a key under which the stream doesn't begin is passed over
pub pass_over : {T : Type 0} (of : T → OpeningKey) (keys : List T) (i : ℕ) (key : T) (X : List ℕ) → drop i keys ≡ key ∷ drop (i + 1) keys → (Begins (of key) X → ⊥) → ChosenFrom of keys i X → ChosenFrom of keys (i + 1) X
pass_over {T} of keys i key X e other h r rest = h r (subst (λ (ks : List T). IsChosen (map of ks) X r) (sym e) (inr (other, rest)))

pub take_key : {T : Type 0} (of : T → OpeningKey) (keys : List T) (i : ℕ) (key : T) (X : List ℕ) → drop i keys ≡ key ∷ drop (i + 1) keys → Begins (of key) X → ChosenFrom of keys i X → IsChosen (map of keys) X (Some (of key))
take_key {T} of keys i key X e first h = h (Some (of key)) (subst (λ (ks : List T). IsChosen (map of ks) X (Some (of key))) (sym e) (inl (first, refl)))

pub none_left : {T : Type 0} (of : T → OpeningKey) (keys : List T) (i : ℕ) (X : List ℕ) → length keys ≤ i → ChosenFrom of keys i X → IsChosen (map of keys) X None
none_left {T} of keys i X e h = h None (subst (λ (ks : List T). IsChosen (map of ks) X None) (sym (drop_of_length-le keys {i = i} e)) refl)

-- two facts of known bytes
pub both_told : (r : Option (List ℕ)) (P Q R : List ℕ → Type 0) → ((X : List ℕ) → P X → Q X → R X) → IfSome r P → IfSome r Q → IfSome r R
both_told None P Q R f p q = tt
both_told (Some X) P Q R f p q = f X p q

-- a fact of bytes that are known now is one of those known before
pub told_before : (r s : Option (List ℕ)) (P : List ℕ → Type 0) → Keeps r s → IfSome s P → IfSome r P
told_before None s P k h = tt
told_before (Some X) None P k h = absurd k
told_before (Some X) (Some Y) P k h = subst P k h

-- what is held behind the front of the chosen key, and what the source has left, is all that is left to open
pub started : (ks : List OpeningKey) (seg : ℕ → Bool → List ℕ → List ℕ) (front first size overhead : ℕ) (all left : Option (List ℕ)) (held rest : List ℕ) → IfSome all (λ X. Found ks X seg front first size overhead)
    → Keeps all (prepend_known held left) → front ≤ length held → rest ≡ drop front held → IfSome all (λ X. Started ks X (prepend_known rest left) seg first size overhead)
started ks seg front first size overhead None left held rest f k l e = tt
started ks seg front first size overhead (Some X) None held rest f k l e = absurd k
started ks seg front first size overhead (Some X) (Some Y) held rest f k l e = record {
  front = front;
  found = f;
  rest = ap (λ x. Some (x ++ Y)) e ∙ ap Some (sym (drop-append-le front held Y l) ∙ ap (drop front) k);
}

-- where no byte is lost, and no fewer are held, at most so many were read as more are held
pub read_held : (most : ℕ) (a b : Option (List ℕ)) (xs ys : List ℕ) → Keeps (prepend_known xs a) (prepend_known ys b) → length xs ≤ length ys → length ys ≤ length xs + most → LosesAtMost most a b
read_held most None b xs ys kept more few = ([], omega arith, tt)
read_held most (Some x) None xs ys kept more few = absurd kept
read_held most (Some x) (Some y) xs ys kept more few =
    (drop (length xs) ys, omega (arith, length-drop (length xs) ys), sym (drop-append_seam xs x) ∙ ap (drop (length xs)) (sym kept) ∙ drop-append-le (length xs) ys y more)

-- no more was read than is kept more
pub read_by : {S : Type 0} (left : S → Option (List ℕ)) (most : ℕ) (old new : Kept) (s t : S) → Keeps (kept_rest left old s) (kept_rest left new t) → old.filled ≤ new.filled → new.filled ≤ old.filled + most
    → LosesAtMost most (left s) (left t)
read_by left most old new s t kept more few =
    let here : length (take old.filled old.buffer.items) ≡ old.filled = omega (arith, old.filled_in, old.buffer.ok.0, length-take old.filled old.buffer.items) in
    let there : length (take new.filled new.buffer.items) ≡ new.filled = omega (arith, new.filled_in, new.buffer.ok.0, length-take new.filled new.buffer.items) in
    read_held most (left s) (left t) (take old.filled old.buffer.items) (take new.filled new.buffer.items) kept (omega (arith, here, there, more)) (omega (arith, here, there, few))

-- no more was read than the buffer has room for
pub read_kept : {S : Type 0} (left : S → Option (List ℕ)) (old new : Kept) (s t : S) → Keeps (kept_rest left old s) (kept_rest left new t) → old.filled ≤ new.filled → vec_len new.buffer ≡ vec_len old.buffer
    → LosesAtMost (vec_len old.buffer - old.filled) (left s) (left t)
read_kept left old new s t kept more room = read_by left (vec_len old.buffer - old.filled) old new s t kept more (omega (arith, room, more, new.filled_in))

-- no more is kept than leaves room for what is still wanted of a byte more than a front and a first segment
pub wanted_fits : (room old filled front first : ℕ) → old ≤ filled → front ≤ filled → filled ≤ room → front + first < room → filled ≤ old + (room - old - (first + 1 - (filled - front)))
wanted_fits room old filled front first more kept fits near = omega arith

-- ---- how far a choice has read

-- no more is kept than was before, or than the longest front and a byte, where the stream begins in a front of none of the keys
abbrev pub KeepsFronts : List OpeningKey → ℕ → ℕ → List ℕ → Type 0
KeepsFronts ks before now X = BeginsInNone ks X → now ≤ max before (longest_front ks + 1)

pub keeps_none : (told : Option (List ℕ)) (ks : List OpeningKey) (n : ℕ) → IfSome told (KeepsFronts ks n n)
keeps_none None ks n = tt
keeps_none (Some X) ks n = λ none. omega arith

-- a key's front is no longer than the longest
front_at : {T : Type 0} (of : T → OpeningKey) (keys : List T) (i : ℕ) (key : T) → i < length keys → front_length (of (get_or keys i key)) ≤ longest_front (map of keys)
front_at of [] i key few = absurd (omega arith)
front_at of (k ∷ keys) zero key few = omega arith
front_at of (k ∷ keys) (suc i) key few = let rest = front_at of keys i key (omega arith) in omega (arith, rest)

-- after the trial of a key
keeps_front : {T : Type 0} (of : T → OpeningKey) (keys : List T) (i : ℕ) (key : T) (before now after : ℕ) (X : List ℕ) → i < length keys → key ≡ get_or keys i key → KeepsFronts (map of keys) before now X
    → (max now (front_length (of key) + 1) < after → MayBegin (of key) X) → KeepsFronts (map of keys) before after X
keeps_front {T} of keys i key before now after X few is here further none =
    let this : front_length (of key) ≤ longest_front (map of keys) = subst (λ (k : T). front_length (of k) ≤ longest_front (map of keys)) (sym is) (front_at of keys i key few) in
    let not : MayBegin (of key) X → ⊥ = subst (λ (k : OpeningKey). MayBegin k X → ⊥) (get_or-map of keys i key (of key) few ∙ ap of (sym is)) (none i (of key) (omega (arith, few, length-map keys of))) in
    elim (fits_or_not after (max now (front_length (of key) + 1))) [
      | inl fits ↦ omega (arith, fits, this, here none)
      | inr more ↦ absurd (not (further more))
    ]

pub keeps_tried : {T : Type 0} (of : T → OpeningKey) (keys : List T) (i : ℕ) (key : T) (before now after : ℕ) (told between : Option (List ℕ)) → i < length keys → key ≡ get_or keys i key → Keeps told between
    → IfSome told (KeepsFronts (map of keys) before now) → IfSome between (λ X. max now (front_length (of key) + 1) < after → MayBegin (of key) X) → IfSome told (KeepsFronts (map of keys) before after)
keeps_tried of keys i key before now after told between few is rest here further =
    both_told told (λ X. max now (front_length (of key) + 1) < after → MayBegin (of key) X) (KeepsFronts (map of keys) before now) (KeepsFronts (map of keys) before after)
    (λ X more h. keeps_front of keys i key before now after X few is h more)
    (told_before told between (λ X. max now (front_length (of key) + 1) < after → MayBegin (of key) X) rest further) here

-- so no more was read
pub reads_fronts : {S : Type 0} (left : S → Option (List ℕ)) (ks : List OpeningKey) (old new : Kept) (s t : S) → Keeps (kept_rest left old s) (kept_rest left new t) → old.filled ≤ new.filled
    → IfSome (kept_rest left old s) (KeepsFronts ks old.filled new.filled) → IfSome (kept_rest left old s) (ReadsFronts ks old.filled (left s) (left t))
reads_fronts left ks old new s t kept more here =
    both_told (kept_rest left old s) (KeepsFronts ks old.filled new.filled) (KeepsFronts ks old.filled new.filled) (ReadsFronts ks old.filled (left s) (left t))
    (λ X h _ none. read_by left (longest_front ks + 1 - old.filled) old new s t kept more (omega (arith, h none, more)))
    here here
