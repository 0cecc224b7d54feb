-- The beginning of the stream of a large text, and of its opening.
use Rattle.std.proofs.Common.{◌≡◌, inl, inr, ◌<◌, ◌≤◌, ◌+◌, ◌-◌, ◌^◌, ℕ, Bool, true, List, [], ◌∷◌, ◌++◌, length, drop, refl, sym, ap, subst, ◌∙◌, arith, Some, None, append-nil}
use Rattle.std.specs.declared.option.Option.{Option}
use Rattle.std.specs.Prelude.{Result, Ok, Err, IfOk, IfErr, MatchResult}
use Rattle.sha2.specs.Hashers.{Holds256}
use Rattle.stream_model.specs.Agree.{joined}
use Rattle.stream_model.specs.Cut.{chunks, sealed}
use Rattle.stream_model.specs.Key.{StreamKey, first_room, front, keys_of, room, segment_at}
use Rattle.stream_model.specs.Opening.{AreSegments, AreSegmentsBy, IsChosen, IsStream, OpeningKey, behind_front, opening_key}
use Rattle.stream_model.specs.Sealing.{chunk_count, drawn, nonce_prefix_of, salt_of}
use Rattle.stream_model.proofs.KeyFacts.{CanOpen, lawful_at, opening_key_lawful}
use Rattle.stream_model.proofs.OpeningFacts.{IsChosen-unique, all_agree}
use Rattle.stream_model.proofs.SealingFacts.{length-chunks}
use Rattle.tink_io.specs.declared.error.Kind.{Kind}
use Rattle.tink_io.specs.declared.error.Kind.TheVariants.{OutOfMemory, RandomFault, UnknownHash, UnsupportedHash, WriteFault, NoMatchingKey, ReadFault}
use Rattle.tink_io.specs.declared.error.TinkError.{TinkError}
use Rattle.tink_streaming_segment.specs.declared.segment_traits.SegmentEncrypter.{Ghosts}
use Rattle.tink_streaming_keys.specs.Encrypting.{IsNewStream, NewWriterRefused}
use Rattle.tink_streaming_aead.proofs.SealedFacts.{chosen_stream, joined_text, sealed_stream}
use Rattle.tink_streaming_aead.proofs.StreamLaws.{stream_is}
use Rattle.tink_streaming_io.specs.Choosing.{IsOpenerOf, Started, StartRefused}
use Rattle.tink_streaming_io.specs.Sealers.{held_text, segment_map}
use Rattle.tink_streaming_io.specs.declared.writing.SegmentWriter.{SegmentWriter}
use Rattle.tink_large.specs.Coming.{come_of, comes, left_of, to_come}
use Rattle.tink_large.specs.Large.{MeasureRefused, large_key, large_stream, large_text, text_from, text_length}
use Rattle.tink_large.specs.Opening.{AllRemains, IsBegun, IsLargeStream, Remains}
use Rattle.tink_large.specs.SealedText.{Passed, stream_left}
use Rattle.tink_large.specs.declared.sealed_text.SealedText.{SealedText}
use Rattle.tink_large.specs.declared.pending.Pending.{Pending}
use Rattle.tink_large.proofs.LargeFacts.{few_chunks, large_keys, large_keys_are, large_usable, length-front, length-prefix, length-salt}
use Rattle.tink_large.proofs.SealedSteps.{IsLonger, all_comes, front_short, moment_at}

-- ---- a stream is begun

-- the whole text from its first place on
text_whole : (n : ℕ) → text_from n 0 (text_length n - 0) ≡ large_text n
unfolding large_text
text_whole n = ap (text_from n 0) (omega arith)

-- the front and the segments are the stream
stream_whole : (n : ℕ) (draws keys : List ℕ) → keys_of large_key [] (salt_of large_key draws) ≡ Some keys
    → front large_key (salt_of large_key draws) (nonce_prefix_of large_key draws) ++ sealed (segment_at large_key keys (nonce_prefix_of large_key draws)) (first_room large_key) (room large_key) (large_text n) ≡ large_stream n draws
unfolding large_stream
stream_whole n draws keys e = stream_is large_key [] (salt_of large_key draws) (nonce_prefix_of large_key draws) keys (large_text n) e

module _ {E : Type 0} {g : Ghosts E} (draws left : List ℕ) (w : SegmentWriter E g) (p : Pending) (s : IsNewStream large_key [] draws left (Some []) (segment_map w.sealer) w.sealer.first w.sealer.room (moment_at w p)) where
  all_sealed : (T : List ℕ) → comes w T ≡ sealed (segment_at large_key s.keys (nonce_prefix_of large_key draws)) (first_room large_key) (room large_key) T
  all_sealed T =
      let seg : ℕ → Bool → List ℕ → List ℕ = segment_map w.sealer in
      let a : ℕ = w.sealer.first in
      let b : ℕ = w.sealer.room in
      ap (λ m. come_of seg a b m w.segments (held_text w) T) s.is_open
      ∙ ap (λ i. to_come seg a b i (held_text w ++ T)) s.number
      ∙ ap (λ x. to_come seg a b 0 (x ++ T)) s.held
      ∙ all_comes seg a b T
      ∙ ap (λ f. sealed f a b T) s.segments
      ∙ ap (λ x. sealed (segment_at large_key s.keys (nonce_prefix_of large_key draws)) x b T) s.first_is
      ∙ ap (λ y. sealed (segment_at large_key s.keys (nonce_prefix_of large_key draws)) (first_room large_key) y T) s.later_is

  all_left : p.given ≡ 0 → (n : ℕ) → left_of n 0 w p ≡ large_stream n draws
  all_left given n =
      let F : List ℕ = front large_key (salt_of large_key draws) (nonce_prefix_of large_key draws) in
      let T : List ℕ = text_from n 0 (text_length n - 0) in
      ap (λ k. drop k p.bytes.items ++ comes w T) given
      ∙ ap (λ x. x ++ comes w T) s.written
      ∙ ap (λ x. F ++ x) (all_sealed T)
      ∙ ap (λ x. F ++ sealed (segment_at large_key s.keys (nonce_prefix_of large_key draws)) (first_room large_key) (room large_key) x) (text_whole n)
      ∙ stream_whole n draws s.keys s.keys_are

  -- a new stream of the key is begun
  pub begun : p.given ≡ 0 → IsLonger (segment_map w.sealer) w.sealer.overhead → IsBegun draws left w p
  begun given long =
      let here = long 0 true [] in
      let there = (lawful_at large_key s.keys (nonce_prefix_of large_key draws) large_usable.tag).longer 0 true [] in
      record {
        enough = s.drew.enough;
        rest = s.drew.rest;
        stream = all_left given;
        first = s.first_is;
        later = s.later_is;
        overhead_is = omega (arith, here, there, ap (λ f. length (f 0 true [])) s.segments);
        number = s.number;
        held = s.held;
      }

-- a stream that is not begun has drawn nothing
pub not_begun : (draws left : List ℕ) (old new : Pending) (kind : Kind) → old.bytes.items ≡ [] → 24 < new.room → (0 < new.faults → new.room ≤ length new.bytes.items)
    → NewWriterRefused (λ p. Some p.bytes.items) (λ p. p.faults) large_key [] draws left old new kind → MeasureRefused draws left kind
not_begun draws left old new OutOfMemory none wide full r = r.undrawn
not_begun draws left old new RandomFault none wide full r = (r.few, r.untouched.undrawn)
not_begun draws left old new UnknownHash none wide full r = absurd (let e = r.hash in cc)
not_begun draws left old new UnsupportedHash none wide full r = absurd (let e = r.hash in cc)
not_begun draws left old new WriteFault none wide full r =
    let rose = r.rose in
    let at_room : new.room ≤ length new.bytes.items = full (omega arith) in
    let short = front_short new.bytes.items (front large_key (salt_of large_key draws) (nonce_prefix_of large_key draws)) (rw none at r.begun) in
    absurd (omega (arith, at_room, short, length-front draws, wide))
not_begun draws left old new _ none wide full r = absurd r

module _ {E : Type 0} {g : Ghosts E} (k : StreamKey) (draws left : List ℕ) (old p : Pending) (key : k ≡ large_key) (none : old.bytes.items ≡ []) where
  -- what is begun by an answer
  pub begun_answer : (r : Result (SegmentWriter E g) TinkError) (Q : TinkError → Type 0) → p.given ≡ 0 → ((w : SegmentWriter E g) → IsLonger (segment_map w.sealer) w.sealer.overhead)
      → MatchResult r (λ w. IsNewStream k [] draws left (Some old.bytes.items) (segment_map w.sealer) w.sealer.first w.sealer.room (moment_at w p)) Q → IfOk r (λ w. IsBegun draws left w p)
  begun_answer (Ok w) Q given long s =
      let told : IsNewStream large_key [] draws left (Some []) (segment_map w.sealer) w.sealer.first w.sealer.room (moment_at w p) =
      subst (λ (x : List ℕ). IsNewStream large_key [] draws left (Some x) (segment_map w.sealer) w.sealer.first w.sealer.room (moment_at w p)) none
      (subst (λ (j : StreamKey). IsNewStream j [] draws left (Some old.bytes.items) (segment_map w.sealer) w.sealer.first w.sealer.room (moment_at w p)) key s)
      in
      begun draws left w p told given (long w)
  begun_answer (Err e) Q given long s = tt

  pub refused_answer : (r : Result (SegmentWriter E g) TinkError) (P : SegmentWriter E g → Type 0) → 24 < p.room → (0 < p.faults → p.room ≤ length p.bytes.items)
      → MatchResult r P (λ e. NewWriterRefused (λ q. Some q.bytes.items) (λ q. q.faults) k [] draws left old p e.kind) → IfErr r (λ e. MeasureRefused draws left e.kind)
  refused_answer (Ok w) P wide full s = tt
  refused_answer (Err e) P wide full s =
      not_begun draws left old p e.kind none wide full (subst (λ (j : StreamKey). NewWriterRefused (λ (q : Pending). Some q.bytes.items) (λ (q : Pending). q.faults) j [] draws left old p e.kind) key s)

-- ---- its opening is started

large_is_stream : (n : ℕ) (draws : List ℕ) → drawn large_key ≤ length draws → n < 2 ^ 32
    → IsStream (opening_key [] large_key) (large_stream n draws) (chunks (first_room large_key) (room large_key) (large_text n))
unfolding large_stream
large_is_stream n draws enough small =
    sealed_stream large_key [] (salt_of large_key draws) (nonce_prefix_of large_key draws) (large_keys (salt_of large_key draws)) (large_text n) large_usable (length-salt draws enough) (length-prefix draws enough)
    (large_keys_are (salt_of large_key draws)) (omega (arith, few_chunks n))

is_stream : (n : ℕ) (S : List ℕ) → IsLargeStream n S → n < 2 ^ 32 → IsStream (opening_key [] large_key) S (chunks (first_room large_key) (room large_key) (large_text n))
is_stream n S large small =
    subst (λ X. IsStream (opening_key [] large_key) X (chunks (first_room large_key) (room large_key) (large_text n))) (sym large.2) (large_is_stream n large.0 large.1 small)

-- of one key only this one is chosen
only_key : (k key : OpeningKey) (S : List ℕ) → IsChosen (k ∷ []) S (Some key) → key ≡ k
only_key k key S (inl c) = let e = c.1 in cc
only_key k key S (inr c) = absurd (let e = c.1 in cc)

-- behind the header of a stream of a key all its texts remain
remains_of : (k : OpeningKey) (S : List ℕ) (texts : List (List ℕ)) (rest : Option (List ℕ)) (seg : ℕ → Bool → List ℕ → List ℕ) (header first size over total count : ℕ) → CanOpen k → IsStream k S texts → IsOpenerOf k S seg header first size over
    → rest ≡ Some (drop header S) → length (joined texts) ≡ total → length texts ≡ count → 0 < count → Remains seg first size 0 rest 0 total count
remains_of k S texts rest seg header first size over total count can st op rest_is bytes segments some =
    let X : List ℕ = behind_front k S in
    let a : (k.first - k.overhead) + k.overhead ≡ k.first = omega (arith, can.room) in
    let b : (k.size - k.overhead) + k.overhead ≡ k.size = omega (arith, can.room, can.fits) in
    let are : AreSegments seg 0 (k.first - k.overhead) (k.size - k.overhead) X texts =
    subst (λ (o : Option (ℕ → Bool → List ℕ → List ℕ)). AreSegmentsBy o (k.first - k.overhead) (k.size - k.overhead) X texts) op.map st.segments
    in
    let all = all_agree seg k.overhead 0 (k.first - k.overhead) (k.size - k.overhead) texts X (can.lawful _ seg op.map).longer (omega (arith, can.room)) (omega (arith, can.room, can.fits)) can.some are in
    let sized : Remains seg ((k.first - k.overhead) + k.overhead) ((k.size - k.overhead) + k.overhead) 0 (Some X) 0 total count = record {
      stream = X;
      told = refl;
      texts = texts;
      are = all.0;
      all = all.1;
      bytes_are = omega (arith, bytes);
      segments_are = omega (arith, segments);
      some = λ _. omega (arith, segments, some);
    } in
    let first_is : (k.first - k.overhead) + k.overhead ≡ first = a ∙ sym op.first_is in
    let size_is : (k.size - k.overhead) + k.overhead ≡ size = b ∙ sym op.size_is in
    let left : Some X ≡ rest = ap (λ h. Some (drop h S)) (sym op.front_is) ∙ sym rest_is in
    subst (λ (x : ℕ). Remains seg x size 0 rest 0 total count) first_is
    (subst (λ (y : ℕ). Remains seg ((k.first - k.overhead) + k.overhead) y 0 rest 0 total count) size_is
    (subst (λ (z : Option (List ℕ)). Remains seg ((k.first - k.overhead) + k.overhead) ((k.size - k.overhead) + k.overhead) 0 z 0 total count) left sized))

-- all of the large text remains, and the overhead is that of its key
pub record IsStarted (seg : ℕ → Bool → List ℕ → List ℕ) (first size over : ℕ) (rest : Option (List ℕ)) (n : ℕ) : Type 0 where
  pub remains : AllRemains seg first size 0 rest 0 n
  pub overhead_is : over ≡ 32

pub started : (n : ℕ) (S : List ℕ) (rest : Option (List ℕ)) (seg : ℕ → Bool → List ℕ → List ℕ) (first size over : ℕ) → IsLargeStream n S → n < 2 ^ 32 → Started (opening_key [] large_key ∷ []) S rest seg first size over → IsStarted seg first size over rest n
started n S rest seg first size over large small st =
    let k : OpeningKey = opening_key [] large_key in
    let same : st.found.key ≡ k = only_key k st.found.key S st.found.chosen in
    let op : IsOpenerOf k S seg st.front first size over = subst (λ (j : OpeningKey). IsOpenerOf j S seg st.front first size over) same st.found.opener in
    record {
      remains = remains_of k S (chunks (first_room large_key) (room large_key) (large_text n)) rest seg st.front first size over (length (large_text n)) (chunk_count large_key (large_text n))
          (opening_key_lawful [] large_key large_usable) (is_stream n S large small) op st.rest (ap length (joined_text large_key (large_text n) large_usable)) refl
          (omega (arith, length-chunks (first_room large_key) (room large_key) (large_text n)));
      overhead_is = op.overhead_is;
    }

-- the stream begins under its key
pub start_not_refused : (n : ℕ) (S : List ℕ) (kind : Kind) → IsLargeStream n S → n < 2 ^ 32 → StartRefused (opening_key [] large_key ∷ []) (Some S) 0 0 kind → ⊥
start_not_refused n S NoMatchingKey large small r =
    let k : OpeningKey = opening_key [] large_key in
    let chosen = chosen_stream large_key [] S (chunks (first_room large_key) (room large_key) (large_text n)) [] [] large_usable (is_stream n S large small) refl in
    let one : None ≡ Some k = IsChosen-unique (k ∷ []) S None (Some k) r chosen in
    absurd (cc)
start_not_refused n S ReadFault large small r = let rose = r in omega arith
start_not_refused n S _ large small r = r

-- ---- it was read whole

-- the bytes that were read and hashed are the stream
pub record ReadWhole (n : ℕ) (draws : List ℕ) (t : SealedText) : Type 0 where
  pub count : t.count ≡ length (large_stream n draws)
  pub hashed : Holds256 t.hash (large_stream n draws)

pub read_whole : (n : ℕ) (draws : List ℕ) (s t : SealedText) → Passed s t → stream_left s ≡ large_stream n draws → stream_left t ≡ [] → s.count ≡ 0 → Holds256 s.hash [] → ReadWhole n draws t
read_whole n draws s t p whole end count hash =
    let read : p.read ≡ large_stream n draws = sym (append-nil p.read) ∙ ap (λ x. p.read ++ x) (sym end) ∙ sym p.left ∙ whole in
    record { count = omega (arith, p.count, count, ap length read); hashed = subst (Holds256 t.hash) read (p.hashed [] hash) }
