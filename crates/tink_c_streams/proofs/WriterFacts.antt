-- From a stream that is prepared to a writer, and from its calls to its stream.
use Rattle.std.proofs.Common.{◌≡◌, ◌≤◌, ◌<◌, ◌+◌, ◌^◌, inl, inr, ℕ, Bool, List, [], ◌∷◌, ◌++◌, length, take, drop, Some, Ok, ap, sym, subst, ◌∙◌, arith, length-append}
use Rattle.std.proofs.Math.Seq.{take-append_seam}
use Rattle.std.proofs.lemmas.List.{length-take, length-take-le}
use Rattle.std.specs.Prelude.{Option, Result, Err, IfOk, IfErr, MatchResult}
use Rattle.tink_io.specs.Answering.{Answers}
use Rattle.tink_io.specs.declared.error.TinkError.{TinkError}
use Rattle.loading_model.specs.Loading.{Loaded}
use Rattle.tink_keyset_io.specs.Files.{wire_of}
use Rattle.tink_run.specs.AllKeys.{load}
use Rattle.tink_run.specs.HeldKeys.{GivesLoaded}
use Rattle.tink_streaming_segment.specs.declared.segment_traits.SegmentEncrypter.{Ghosts}
use Rattle.tink_streaming_segment.specs.Sealers.{segment_map}
use Rattle.tink_streaming_io.specs.Sealers.{held_text}
use Rattle.tink_streaming_io.specs.declared.writing.SegmentWriter.{SegmentWriter}
use Rattle.tink_c_pieces.specs.Moments.{piece_moment}
use Rattle.tink_c_pieces.specs.declared.writing.PieceWriter.{PieceWriter}
use Rattle.tink_io.specs.declared.error.Kind.{Kind}
use Rattle.tink_io.specs.declared.error.Kind.TheVariants.{Closed, FailedBefore, OutOfMemory, RandomFault, TooManySegments, UnknownHash, UnsupportedHash}
use Rattle.stream_model.specs.Cut.{chunks, sealed}
use Rattle.stream_model.specs.Key.{StreamKey, derived_bytes_of, first_room, front, header_length, room, segment_at}
use Rattle.stream_model.specs.Order.{IsOfKeyset, IsOutputPrefix}
use Rattle.stream_model.specs.Sealing.{chunk_count, nonce_prefix_of, salt_of}
use Rattle.stream_model.proofs.SealingFacts.{length-chunks}
use Rattle.tink_streaming_keys.proofs.DerivedKeys.{derives_nothing}
use Rattle.tink_streaming_keys.specs.NewStreams.{IsPrepared, NotPrepared}
use Rattle.tink_streaming_io.specs.declared.writing.Mode.{Mode}
use Rattle.tink_run.specs.SealSteps.{kind_not_begun}
use Rattle.tink_run.proofs.SealSteps.{stream_is}
use Rattle.tink_c_bytes.specs.Delivered.{Handed}
use Rattle.tink_c_bytes.specs.Statuses.{c_status, ok}
use Rattle.tink_c_pieces.specs.Pieces.{EndMeans, EndRefused, PieceMeans, PieceMoment, PieceRefused, Took, filled, given}
use Rattle.tink_c_pieces.proofs.StreamFacts.{fresh, gives_all, numbers, takes_more}
use Rattle.tink_c_streams.specs.Writers.{BeginsNoWriter, BeginsWriter, EndsStream, GoesOn, IsNewWriter, IsWriting, NoNewWriter, NoWriterUnder}

-- why a stream is not prepared is why there is no writer
pub unprepared : (k : StreamKey) (aad draws left : List ℕ) (kind : Kind) → NotPrepared k draws left kind → NoWriterUnder k aad draws (kind_not_begun kind)
unprepared k aad draws left OutOfMemory n = tt
unprepared k aad draws left RandomFault n = n.few
unprepared k aad draws left UnknownHash n = derives_nothing k.hkdf_hash UnknownHash k.main (salt_of k draws) aad (derived_bytes_of k.kind k.derived) n.hash
unprepared k aad draws left UnsupportedHash n = derives_nothing k.hkdf_hash UnsupportedHash k.main (salt_of k draws) aad (derived_bytes_of k.kind k.derived) n.hash
unprepared k aad draws left _ n = absurd n

short : (out : List ℕ) → IsOutputPrefix out → length out ≤ 5
short out (inl e) = omega (arith, ap length e)
short out (inr e) = omega (arith, e.0)

-- the front of a key of a keyset is short
pub front_short : (k : StreamKey) (aad draws left bytes : List ℕ) (seg : ℕ → Bool → List ℕ → List ℕ) (first later : ℕ) (mode : Mode) (number : ℕ) (held : List ℕ)
    → IsOfKeyset k → IsPrepared k aad draws left bytes seg first later mode number held → length bytes < 2 ^ 16
front_short k aad draws left bytes seg first later mode number held of p =
    let out : length k.out ≤ 5 = short k.out of.out in
    let derived : k.derived ≤ 32 = elim of.usable.derived [ inl e ↦ omega arith | inr e ↦ omega arith ] in
    let salt : length (salt_of k draws) ≤ 32 = omega (arith, length-take-le k.derived draws (omega (arith, p.drew.enough))) in
    let prefix : length (nonce_prefix_of k draws) ≤ 7 = omega (arith, length-take 7 (drop k.derived draws)) in
    omega (arith, ap length p.front_is, length-append k.out (header_length k ∷ salt_of k draws ++ nonce_prefix_of k draws), length-append (salt_of k draws) (nonce_prefix_of k draws), out, salt, prefix)

module _ (k : StreamKey) (aad random : List ℕ) (seg : ℕ → Bool → List ℕ → List ℕ) (first later : ℕ) where
  -- a writer of a stream that is prepared has taken no text
  pub begins : (left bytes : List ℕ) (number : ℕ) (mode : Mode) (held : List ℕ) (m : PieceMoment) → 0 < first → first ≤ later → IsPrepared k aad random left bytes seg first later mode number held
      → m ≡ record { front = bytes; mode = mode; number = number; held = held } → IsWriting k aad random [] [] seg first later m
  begins left bytes number mode held m some fits p is = record {
    enough = p.drew.enough;
    keys = p.keys;
    keys_are = p.keys_are;
    segments = p.segments;
    first_is = p.first_is;
    later_is = p.later_is;
    some = some;
    fits = fits;
    taken = fresh seg first later (front k (salt_of k random) (nonce_prefix_of k random)) m (ap (λ x. x.front) is ∙ p.front_is) (ap (λ x. x.mode) is ∙ p.is_open)
        (ap (λ x. x.number) is ∙ p.none_written) (ap (λ x. x.held) is ∙ p.none_held);
  }

  -- what is taken of the buffer is what was given
  taken_is : (bytes : List ℕ) (h : Handed) → h.after ≡ bytes ++ drop (length bytes) h.before → h.written ≡ length bytes → take h.written h.after ≡ bytes
  taken_is bytes h filled counted =
      ap (λ n. take n h.after) counted ∙ ap (take (length bytes)) filled ∙ take-append_seam bytes (drop (length bytes) h.before)

  module _ (text bytes : List ℕ) where
    -- the chunks of the text and a piece
    count : (m : PieceMoment) (piece : List ℕ) → IsWriting k aad random text bytes seg first later m
        → chunk_count k (text ++ piece) ≡ m.number + length (filled seg first later m piece) + 1
    count m piece w =
        ap (λ n. length (chunks n (room k) (text ++ piece))) (sym w.first_is) ∙ ap (λ n. length (chunks first n (text ++ piece))) (sym w.later_is)
        ∙ length-chunks first later (text ++ piece)
        ∙ ap (λ n. n + 1) (numbers seg first later w.some (omega (arith, w.some, w.fits)) (front k (salt_of k random) (nonce_prefix_of k random)) text bytes m piece w.taken)

    -- a writer that has taken a piece
    more : (old new : PieceMoment) (piece out : List ℕ) → IsWriting k aad random text bytes seg first later old → out ≡ given seg first later old piece → Took seg first later old new piece
        → IsWriting k aad random (text ++ piece) (bytes ++ out) seg first later new
    more old new piece out w is took = record {
      enough = w.enough;
      keys = w.keys;
      keys_are = w.keys_are;
      segments = w.segments;
      first_is = w.first_is;
      later_is = w.later_is;
      some = w.some;
      fits = w.fits;
      taken = takes_more seg first later w.some (omega (arith, w.some, w.fits)) (front k (salt_of k random) (nonce_prefix_of k random)) text bytes old new piece out w.taken is took;
    }

    refused_not_ok : (old new : PieceMoment) (piece : List ℕ) (kind : Kind) → PieceRefused seg first later old new piece kind → c_status kind ≡ ok → ⊥
    refused_not_ok old new piece TooManySegments r e = omega (arith, e)
    refused_not_ok old new piece Closed r e = omega (arith, e)
    refused_not_ok old new piece (FailedBefore cause) r e = omega (arith, e)
    refused_not_ok old new piece _ r e = absurd r

    refused_many : (old new : PieceMoment) (piece : List ℕ) (kind : Kind) → IsWriting k aad random text bytes seg first later old → PieceRefused seg first later old new piece kind
        → c_status kind ≡ c_status TooManySegments → 2 ^ 32 < chunk_count k (text ++ piece)
    refused_many old new piece TooManySegments w r e = omega (arith, r.many, count old piece w)
    refused_many old new piece Closed w r e = absurd (omega (arith, e))
    refused_many old new piece (FailedBefore cause) w r e = absurd (omega (arith, e))
    refused_many old new piece _ w r e = absurd r

    pub goes_on : (old new : PieceMoment) (piece : List ℕ) (h : Handed) → IsWriting k aad random text bytes seg first later old → PieceMeans seg first later old new piece h
        → GoesOn k aad random text bytes piece h seg first later new
    goes_on old new piece h w (inl g) = record {
      taken = λ e. more old new piece (take h.written h.after) w (taken_is g.bytes h g.filled g.counted ∙ g.gives.0) g.gives.1;
      fits = λ e. omega (arith, g.gives.1.few, count old piece w);
      many = λ e. absurd (omega (arith, e, g.status));
    }
    goes_on old new piece h w (inr (inl n)) = record {
      taken = λ e. absurd (omega (arith, e, n.status));
      fits = λ e. absurd (omega (arith, e, n.status));
      many = λ e. absurd (omega (arith, e, n.status));
    }
    goes_on old new piece h w (inr (inr r)) = record {
      taken = λ e. absurd (refused_not_ok old new piece r.kind r.refuses (sym r.status ∙ e));
      fits = λ e. absurd (refused_not_ok old new piece r.kind r.refuses (sym r.status ∙ e));
      many = λ e. refused_many old new piece r.kind w r.refuses (sym r.status ∙ e);
    }

    not_ended : (old : PieceMoment) (kind : Kind) → EndRefused seg first later old kind → c_status kind ≡ ok → ⊥
    not_ended old Closed r e = omega (arith, e)
    not_ended old (FailedBefore cause) r e = omega (arith, e)
    not_ended old _ r e = absurd r

    pub ends : (old new : PieceMoment) (h : Handed) → IsWriting k aad random text bytes seg first later old → EndMeans seg first later old new h → EndsStream k aad random text bytes h
    ends old new h w (inl g) = λ e.
        let salt = salt_of k random in
        let prefix = nonce_prefix_of k random in
        gives_all seg first later w.some (omega (arith, w.some, w.fits)) (front k salt prefix) text bytes old (take h.written h.after) w.taken (taken_is g.bytes h g.filled g.counted ∙ g.gives.0)
        ∙ ap (λ s. front k salt prefix ++ sealed s first later text) w.segments
        ∙ ap (λ n. front k salt prefix ++ sealed (segment_at k w.keys prefix) n later text) w.first_is
        ∙ ap (λ n. front k salt prefix ++ sealed (segment_at k w.keys prefix) (first_room k) n text) w.later_is
        ∙ stream_is k aad salt prefix w.keys w.keys_are text
    ends old new h w (inr (inl n)) = λ e. absurd (omega (arith, e, n.status))
    ends old new h w (inr (inr r)) = λ e. absurd (not_ended old r.kind r.refuses (sym r.status ∙ e))

-- from a writer under a key to one under a keyset and under a file
module _ {E : Type 0} {g : Ghosts E} (aad random : List ℕ) where
  abbrev pub Writes : StreamKey → PieceWriter E g → Type 0
  Writes k w = IsWriting k aad random [] [] (segment_map w.writer.sealer) w.writer.sealer.first w.writer.sealer.room (piece_moment w)

  pub with_front_writes : (k : StreamKey) (left front : List ℕ) (writer : SegmentWriter E g) (result : Result (PieceWriter E g) TinkError)
      → IsPrepared k aad random left front (segment_map writer.sealer) writer.sealer.first writer.sealer.room writer.mode writer.segments (held_text writer)
      → IfOk result (λ w. w.front.items ≡ front) → IfOk result (λ w. w.writer ≡ writer) → IfErr result (λ e. e ≡ record { kind = OutOfMemory })
      → MatchResult result (Writes k) (λ e. NoWriterUnder k aad random e.kind)
  with_front_writes k left front writer (Ok w) p f is e =
      let moment : SegmentWriter E g → PieceMoment = λ v. record { front = w.front.items; mode = v.mode; number = v.segments; held = held_text v } in
      let same : moment writer ≡ record { front = front; mode = writer.mode; number = writer.segments; held = held_text writer } = λ i. record { front = f i; mode = writer.mode; number = writer.segments; held = held_text writer } in
      subst (λ (v : SegmentWriter E g). IsWriting k aad random [] [] (segment_map v.sealer) v.sealer.first v.sealer.room (moment v)) (sym is)
      (begins k aad random (segment_map writer.sealer) writer.sealer.first writer.sealer.room left front writer.segments writer.mode (held_text writer) (moment writer) writer.sealer.some writer.sealer.first_fits p same)
  with_front_writes k left front writer (Err x) p f is e = subst (λ (y : TinkError). NoWriterUnder k aad random y.kind) (sym e) tt

  pub under_keyset : (wire : List ℕ) (k : StreamKey) (l : Loaded) (result : Result (PieceWriter E g) TinkError) → load wire ≡ Ok l → k ≡ l.primary
      → MatchResult result (Writes k) (λ e. NoWriterUnder k aad random e.kind)
      → MatchResult result (λ w. IsNewWriter wire aad random (segment_map w.writer.sealer) w.writer.sealer.first w.writer.sealer.room (piece_moment w)) (λ e. NoNewWriter wire aad random e.kind)
  under_keyset wire k l (Ok w) loads is m = record { loaded = l; loads = loads; writes = subst (λ (x : StreamKey). Writes x w) is m }
  under_keyset wire k l (Err e) loads is m = inr (inr (record { loaded = l; loads = loads; cause = subst (λ (x : StreamKey). NoWriterUnder x aad random e.kind) is m }))

  pub under_file : (file wire : List ℕ) (result : Result (PieceWriter E g) TinkError) → wire_of file ≡ Ok wire
      → MatchResult result (λ w. IsNewWriter wire aad random (segment_map w.writer.sealer) w.writer.sealer.first w.writer.sealer.room (piece_moment w)) (λ e. NoNewWriter wire aad random e.kind)
      → MatchResult result (λ w. BeginsWriter file aad random (segment_map w.writer.sealer) w.writer.sealer.first w.writer.sealer.room (piece_moment w)) (λ e. BeginsNoWriter file aad random e.kind)
  under_file file wire (Ok w) is m = record { wire = wire; reads = is; holds = m }
  under_file file wire (Err e) is m = inr (inr (record { wire = wire; reads = is; holds = m }))

pub not_loaded : (wire aad random : List ℕ) (e : TinkError) → GivesLoaded (Err e) (load wire) → NoNewWriter wire aad random e.kind
not_loaded wire aad random e (inl want) = inl want
not_loaded wire aad random e (inr is) = inr (inl is)

pub no_file : (file aad random : List ℕ) (e : TinkError) → Answers {T = List ℕ} (Err e) (wire_of file) → BeginsNoWriter file aad random e.kind
no_file file aad random e (inl want) = inl want
no_file file aad random e (inr is) = inr (inl is)

pub same_key : (x y : StreamKey) (o : Option StreamKey) → o ≡ Some x → o ≡ Some y → x ≡ y
same_key x y o p q = let e : Some x ≡ Some y = sym p ∙ q in cc
