-- From the steps of a new reader to its answer.
use Rattle.std.proofs.Common.{◌≡◌, inl, inr, ◌≤◌, ◌<◌, ◌+◌, ◌-◌, ℕ, zero, suc, List, [], ◌∷◌, length, take, drop, refl, sym, ap, subst, ◌∙◌, arith, Some, None, get_or}
use Rattle.std.specs.Prelude.{Err}
use Rattle.std.specs.declared.option.Option.{Option}
use Rattle.std.specs.Io.KnownBytes.{Consumes, IsAtEnd, Keeps, prepend_known}
use Rattle.std.proofs.KnownBytes.{prepend_known-nil}
use Rattle.tink_io.specs.Faults.{Rose}
use Rattle.tink_io.specs.Taken.{LosesAtMost}
use Rattle.tink_io.specs.declared.error.Kind.{Kind}
use Rattle.tink_io.specs.declared.error.Kind.TheVariants.{ReadFault, NoMatchingKey}
use Rattle.stream_model.specs.Cut.{numbered}
use Rattle.stream_model.specs.Key.{StreamKey, first_segment, header_length, nonce_size, overhead}
use Rattle.stream_model.specs.Opening.{opening_key}
use Rattle.tink_streaming_io.specs.declared.progress.Progress.TheVariants.{Running}
use Rattle.tink_streaming_ciphers.specs.declared.stream_segment.StreamSegment.{StreamSegment}
use Rattle.tink_streaming_keys.specs.Decrypting.{HasNoHeader, HeaderRefused, IsNewReader, NewReaderRefused, ReadHeaderPart, ReadsHeader}
use Rattle.tink_streaming_ciphers.specs.StreamSegments.{segment_by}
use Rattle.tink_streaming_keys.specs.StreamingKeys.{IsDerived, deriving_hash}
use Rattle.tink_streaming_io.specs.TextReading.{TextMoment}
use Rattle.tink_streaming_keys.proofs.DerivedKeys.{derived_under}
use Rattle.tink_streaming_keys.proofs.NewWriterSteps.{hash_refusal}

-- what was read in front of what is left was consumed
kept_consumed : (a b : Option (List ℕ)) (new : List ℕ) → Keeps a (prepend_known new b) → Consumes a b new
kept_consumed None b new h = tt
kept_consumed (Some xs) None new h = h
kept_consumed (Some xs) (Some ys) new h = sym h

pub consumed : (a b : Option (List ℕ)) (old new : List ℕ) → old ≡ [] → Keeps (prepend_known old a) (prepend_known new b) → Consumes a b new
consumed a b old new e h =
    kept_consumed a b new (subst (λ (o : Option (List ℕ)). Keeps o (prepend_known new b)) (ap (λ xs. prepend_known xs a) e ∙ prepend_known-nil a) h)

-- the first byte is that of a front
pub front_byte : (n : ℕ) (xs : List ℕ) → 0 < n → get_or (take n xs) 0 0 ≡ get_or xs 0 0
front_byte zero xs some = absurd (omega arith)
front_byte (suc n) [] some = refl
front_byte (suc n) (x ∷ xs) some = refl

-- too few bytes came
pub short_header : (k : StreamKey) (a b : Option (List ℕ)) (old new : List ℕ) → old ≡ [] → Keeps (prepend_known old a) (prepend_known new b) → length new < header_length k → IsAtEnd b → HasNoHeader k a b
short_header k a b old new e h few end = record { bytes = new; read = consumed a b old new e h; cause = inl (few, end) }

-- another byte stands in front
pub other_header : (k : StreamKey) (a b : Option (List ℕ)) (old new : List ℕ) → old ≡ [] → Keeps (prepend_known old a) (prepend_known new b) → length new ≡ header_length k → (get_or new 0 0 ≡ header_length k → ⊥) → HasNoHeader k a b
other_header k a b old new e h whole other = record { bytes = new; read = consumed a b old new e h; cause = inr (whole, other) }

-- the source failed before all of a header was read
pub header_part : (k : StreamKey) (a b : Option (List ℕ)) (before now most : ℕ) → Rose before now → most ≤ header_length k → LosesAtMost most a b → ReadHeaderPart k a b before now
header_part k a b before now most rose few lost = record { rose = rose; read = (lost.0, omega (arith, few, lost.1), lost.2) }

-- a header is refused
pub header_refused : {R : Type 0} (left : R → Option (List ℕ)) (faults : R → ℕ) (k : StreamKey) (old new : R) (kind : Kind) → HeaderRefused k (left old) (left new) (faults old) (faults new) kind → NewReaderRefused left faults k old new kind
header_refused left faults k old new ReadFault h = h
header_refused left faults k old new NoMatchingKey h = h
header_refused left faults k old new _ h = absurd h

-- the hash is refused
pub reader_hash_refused : {R : Type 0} (left : R → Option (List ℕ)) (faults : R → ℕ) (k : StreamKey) (old new : R) (header : List ℕ) (kind : Kind) → ReadsHeader k (left old) (left new) header → deriving_hash k.hkdf_hash ≡ Err kind
    → NewReaderRefused left faults k old new kind
reader_hash_refused left faults k old new header kind reads e = elim (hash_refusal k.hkdf_hash kind e) [
  | inl unknown ↦ subst (NewReaderRefused left faults k old new) (sym unknown) (record { header = header; reads = reads; hash = subst (λ x. deriving_hash k.hkdf_hash ≡ Err x) unknown e })
  | inr unsupported ↦ subst (NewReaderRefused left faults k old new) (sym unsupported) (record { header = header; reads = reads; hash = subst (λ x. deriving_hash k.hkdf_hash ≡ Err x) unsupported e })
]

-- the segments under the header are opened from what is left behind it
pub new_reader : (k : StreamKey) (aad : List ℕ) (before left : Option (List ℕ)) (H : List ℕ) (m : ℕ) (cipher decrypter : StreamSegment) (size : ℕ) (prefix : List ℕ) (a b over : ℕ) (held : List ℕ) (o : TextMoment)
    → ReadsHeader k before left H → m ≡ k.derived → IsDerived k aad (take m (drop 1 H)) cipher → decrypter ≡ cipher → size ≡ nonce_size k → prefix ≡ drop (k.derived + 1) H → a ≡ first_segment k → b ≡ k.segment → over ≡ overhead k
    → held ≡ [] → o.rest ≡ prepend_known held left → o.progress ≡ Running → o.number ≡ 0 → o.pending ≡ []
    → IsNewReader k aad before (numbered (segment_by decrypter) size prefix) a b over held o
new_reader k aad before left H m cipher decrypter size prefix a b over held o reads salt d e s p first later more none rest running number pending =
    let derived : IsDerived k aad (take k.derived (drop 1 H)) cipher = subst (λ (n : ℕ). IsDerived k aad (take n (drop 1 H)) cipher) salt d in
    let place : header_length k - 7 ≡ k.derived + 1 = omega arith in
    let seg : (opening_key aad k).seg H ≡ Some (numbered (segment_by cipher) (nonce_size k) (drop (k.derived + 1) H)) =
    derived_under k aad H cipher derived ∙ ap (λ n. Some (numbered (segment_by cipher) (nonce_size k) (drop n H))) place
    in
    let same : numbered (segment_by decrypter) size prefix ≡ numbered (segment_by cipher) (nonce_size k) (drop (k.derived + 1) H) =
    ap (λ c. numbered (segment_by c) size prefix) e ∙ ap (λ n. numbered (segment_by cipher) n prefix) s ∙ ap (numbered (segment_by cipher) (nonce_size k)) p
    in
    let behind : left ≡ o.rest = sym (prepend_known-nil left) ∙ ap (λ xs. prepend_known xs left) (sym none) ∙ sym rest in
    record {
      header = H;
      reads = subst (λ (r : Option (List ℕ)). ReadsHeader k before r H) behind reads;
      segments = seg ∙ ap Some (sym same);
      first_is = first;
      size_is = later;
      overhead_is = more;
      running = running;
      number = number;
      pending = pending;
      none_held = none;
    }
