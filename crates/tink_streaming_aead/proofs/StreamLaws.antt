-- What the calls of a new writer give together.
use Rattle.std.proofs.Common.{◌≡◌, ◌∙◌, ℕ, Bool, List, [], ◌++◌, length, sym, ap, subst, arith, Some}
use Rattle.std.specs.declared.option.Option.{Option}
use Rattle.std.specs.Io.KnownBytes.{Appends}
use Rattle.std.proofs.KnownBytes.{Appends-nil, Appends-trans}
use Rattle.stream_model.proofs.CutFacts.{full_chunks_fits, open_chunk_fits}
use Rattle.stream_model.specs.Cut.{full_chunks, open_chunk, room_at, sealed, unmarked}
use Rattle.stream_model.specs.Key.{StreamKey, first_room, front, keys_of, room, segment_at}
use Rattle.stream_model.specs.Sealing.{nonce_prefix_of, salt_of, sealed_under, stream}
use Rattle.tink_streaming_keys.specs.Encrypting.{IsNewStream}
use Rattle.tink_streaming_io.specs.Writing.{ClosedBy, WriterMoment, Wrote, filled}
use Rattle.tink_streaming_io.specs.declared.writing.Mode.TheVariants.{Open}
use Rattle.tink_streaming_io.proofs.WritingFacts.{closed_whole}

-- the front and then the segments under derived keys are the stream
pub stream_is : (k : StreamKey) (aad salt prefix keys text : List ℕ) → keys_of k aad salt ≡ Some keys
    → front k salt prefix ++ sealed (segment_at k keys prefix) (first_room k) (room k) text ≡ stream k aad salt prefix text
unfolding stream
stream_is k aad salt prefix keys text e = ap (λ o. front k salt prefix ++ sealed_under k o prefix text) (sym e)

-- a text and a close give the stream of the text
pub whole_stream : (k : StreamKey) (aad draws left : List ℕ) (before : Option (List ℕ)) (seg : ℕ → Bool → List ℕ → List ℕ) (first later : ℕ) (m n o : WriterMoment) (text : List ℕ)
    → IsNewStream k aad draws left before seg first later m → Wrote seg first later m n text → ClosedBy seg n o
    → Appends before o.got (stream k aad (salt_of k draws) (nonce_prefix_of k draws) text)
whole_stream k aad draws left before seg first later m n o text s w c =
    let salt = salt_of k draws in
    let prefix = nonce_prefix_of k draws in
    let all : Appends m.got o.got (sealed seg first later text) = (closed_whole seg first later m n o text (record { mode = s.is_open; number = s.number; held = s.held }) w c).0 in
    let keyed : Appends m.got o.got (sealed (segment_at k s.keys prefix) (first_room k) (room k) text) =
    subst (λ (g : ℕ → Bool → List ℕ → List ℕ). Appends m.got o.got (sealed g (first_room k) (room k) text)) s.segments
    (subst (λ (y : ℕ). Appends m.got o.got (sealed seg (first_room k) y text)) s.later_is (subst (λ (x : ℕ). Appends m.got o.got (sealed seg x later text)) s.first_is all))
    in
    subst (Appends before o.got) (stream_is k aad salt prefix s.keys text s.keys_are) (Appends-trans before m.got o.got (front k salt prefix) _ s.written keyed)

-- a new writer is one that was given the empty text
none_written : (seg : ℕ → Bool → List ℕ → List ℕ) (a b : ℕ) (m : WriterMoment) → m.mode ≡ Open → m.number ≡ 0 → m.held ≡ [] → Wrote seg a b m m []
none_written seg a b m opened first none =
    let text : m.held ++ [] ≡ [] = ap (λ x. x ++ []) none in
    let full : filled a b m [] ≡ [] = ap (full_chunks (room_at a b m.number) b) text ∙ full_chunks_fits (room_at a b m.number) b [] (omega arith) in
    record {
      was_open = opened;
      is_open = opened;
      appended = subst (λ (cs : List (List ℕ)). Appends m.got m.got (unmarked seg m.number cs)) (sym full) (Appends-nil m.got);
      held = none ∙ sym (ap (open_chunk (room_at a b m.number) b) text ∙ open_chunk_fits (room_at a b m.number) b [] (omega arith));
      counted = omega (arith, ap length full);
      few = omega (arith, first);
    }

-- a close before any write gives the stream of the empty text
pub unwritten_stream : (k : StreamKey) (aad draws left : List ℕ) (before : Option (List ℕ)) (seg : ℕ → Bool → List ℕ → List ℕ) (first later : ℕ) (m o : WriterMoment)
    → IsNewStream k aad draws left before seg first later m → ClosedBy seg m o → Appends before o.got (stream k aad (salt_of k draws) (nonce_prefix_of k draws) [])
unwritten_stream k aad draws left before seg first later m o s c =
    whole_stream k aad draws left before seg first later m m o [] s (none_written seg first later m s.is_open s.number s.held) c
