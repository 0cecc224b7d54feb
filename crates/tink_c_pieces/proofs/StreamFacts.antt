-- From the pieces of a text to its stream.
use Rattle.std.proofs.Common.{◌≡◌, ◌<◌, ◌+◌, ℕ, Bool, true, List, [], ◌++◌, length, ap, sym, ◌∙◌, arith, length-append, append_assoc}
use Rattle.std.proofs.lemmas.List.{append-nil}
use Rattle.stream_model.specs.Cut.{full_chunks, open_chunk, room_at, sealed, unmarked}
use Rattle.stream_model.proofs.CutFacts.{full_chunks-append, full_chunks_fits, open_chunk_fits, open_chunk-append, sealed_split, unmarked-append}
use Rattle.tink_streaming_io.specs.declared.writing.Mode.TheVariants.{Open}
use Rattle.tink_c_pieces.specs.Pieces.{HasTaken, PieceMoment, Took, ending, filled, given, rest}

-- a writer that has taken no text
pub fresh : (seg : ℕ → Bool → List ℕ → List ℕ) (first room : ℕ) (front : List ℕ) (m : PieceMoment) → m.front ≡ front → m.mode ≡ Open → m.number ≡ 0 → m.held ≡ [] → HasTaken seg first room front [] [] m
fresh seg first room front m is opens none held =
    let no : full_chunks first room [] ≡ [] = full_chunks_fits first room [] (omega arith) in
    record {
      is_open = opens;
      counted = none ∙ sym (ap length no);
      held = held ∙ sym (open_chunk_fits first room [] (omega arith));
      given_is = is ∙ sym (append-nil front) ∙ ap (λ cs. front ++ unmarked seg 0 cs) (sym no);
    }

module _ (seg : ℕ → Bool → List ℕ → List ℕ) (first room : ℕ) (some : 0 < first) (later : 0 < room) (front text bytes : List ℕ) where
  -- the chunks that a piece fills are those of the longer text behind those of the text
  pub fills : (m : PieceMoment) (piece : List ℕ) → HasTaken seg first room front text bytes m
      → full_chunks first room (text ++ piece) ≡ full_chunks first room text ++ filled seg first room m piece
  fills m piece t =
      full_chunks-append first room text piece some later
      ∙ ap (λ n. full_chunks first room text ++ full_chunks (room_at first room n) room (open_chunk first room text ++ piece)) (sym t.counted)
      ∙ ap (λ x. full_chunks first room text ++ full_chunks (room_at first room m.number) room (x ++ piece)) (sym t.held)

  -- so is the chunk in which it ends
  rests : (m : PieceMoment) (piece : List ℕ) → HasTaken seg first room front text bytes m → open_chunk first room (text ++ piece) ≡ rest seg first room m piece
  rests m piece t =
      open_chunk-append first room text piece some later
      ∙ ap (λ n. open_chunk (room_at first room n) room (open_chunk first room text ++ piece)) (sym t.counted)
      ∙ ap (λ x. open_chunk (room_at first room m.number) room (x ++ piece)) (sym t.held)

  -- how many segments the longer text needs, besides the last one
  pub numbers : (m : PieceMoment) (piece : List ℕ) → HasTaken seg first room front text bytes m
      → length (full_chunks first room (text ++ piece)) ≡ m.number + length (filled seg first room m piece)
  numbers m piece t = ap length (fills m piece t) ∙ length-append (full_chunks first room text) (filled seg first room m piece) ∙ ap (λ n. n + length (filled seg first room m piece)) (sym t.counted)

  -- a writer that takes a piece has taken the text and the piece
  pub takes_more : (old new : PieceMoment) (piece more : List ℕ) → HasTaken seg first room front text bytes old → more ≡ given seg first room old piece → Took seg first room old new piece
      → HasTaken seg first room front (text ++ piece) (bytes ++ more) new
  takes_more old new piece more t is took =
      let full = full_chunks first room text in
      let next = filled seg first room old piece in
      let all : unmarked seg 0 (full_chunks first room (text ++ piece)) ≡ unmarked seg 0 full ++ unmarked seg old.number next =
      ap (unmarked seg 0) (fills old piece t) ∙ unmarked-append seg 0 full next ∙ ap (λ n. unmarked seg 0 full ++ unmarked seg n next) (let e : 0 + length full ≡ old.number = omega (arith, t.counted) in e) in
      record {
        is_open = took.is_open;
        counted = took.counted ∙ sym (numbers old piece t);
        held = took.held ∙ sym (rests old piece t);
        given_is = ap (λ x. (bytes ++ more) ++ x) took.front ∙ append-nil (bytes ++ more) ∙ ap (λ x. bytes ++ x) is
            ∙ sym (append_assoc bytes old.front (unmarked seg old.number next)) ∙ ap (λ x. x ++ unmarked seg old.number next) t.given_is
            ∙ append_assoc front (unmarked seg 0 full) (unmarked seg old.number next) ∙ ap (λ x. front ++ x) (sym all);
      }

  -- with the last segment all was given
  pub gives_all : (old : PieceMoment) (more : List ℕ) → HasTaken seg first room front text bytes old → more ≡ ending seg first room old
      → bytes ++ more ≡ front ++ sealed seg first room text
  gives_all old more t is =
      let full = full_chunks first room text in
      let last : List ℕ = seg old.number true old.held in
      let same : last ≡ seg (length full) true (open_chunk first room text) = ap (λ n. seg n true old.held) t.counted ∙ ap (seg (length full) true) t.held in
      ap (λ x. bytes ++ x) is ∙ sym (append_assoc bytes old.front last) ∙ ap (λ x. x ++ last) t.given_is ∙ append_assoc front (unmarked seg 0 full) last
      ∙ ap (λ x. front ++ (unmarked seg 0 full ++ x)) same ∙ ap (λ x. front ++ x) (sym (sealed_split seg first room text))
