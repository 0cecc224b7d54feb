use Rattle.std.proofs.Common.{◌≡◌, ◌≤◌, ◌<◌, ◌+◌, ◌-◌, ◌∷◌, ◌++◌, ℕ, List, [], length, take, drop, ap, refl, subst, ◌∙◌, arith, length-append, length-drop}
use Rattle.std.proofs.lemmas.List.{append-nil, length-take-le}
use Rattle.std.proofs.lemmas.Result.{err_from_is_err_and}
use Rattle.stream_model.specs.Cut.{cut, room_at}
use Rattle.stream_model.specs.Agree.{Leads}
use Rattle.stream_model.proofs.CutFacts.{room_at_next}
use Rattle.tink_streaming_segment.specs.Openers.{segment_map}
use Rattle.tink_streaming_io.specs.Openers.{held_bytes}
use Rattle.tink_c_pieces.specs.Readings.{piece_reading}
use Rattle.tink_c_pieces.proofs.ReadingSteps.{feeds_held, feeds_opened, goes_on, held_length, none_left, refused, rest_held}
use Rattle.tink_c_pieces.proofs.reading.feed.Goals as goal

pub returns-then-piece-lacking-clause-ok : goal.returns-then-piece-lacking-clause-ok
returns-then-piece-lacking-clause-ok g c =
    let r = c.args.text.now.reader in
    let k = c.keep.ensures in
    feeds_held (segment_map r.opener) r.opener.first r.opener.size (omega (arith, r.opener.some)) r.opener.first_fits (piece_reading c.args.text.now) _ c.args.piece.now
    k.progress k.number (ap (drop c.args.text.now.given) k.opened ∙ c.requires.empty) k.held

pub returns-in_err-open_next-clause-refused : goal.returns-in_err-open_next-clause-refused
returns-in_err-open_next-clause-refused g c =
    let p = err_from_is_err_and c.from_residual.result c.from_residual.ensures.1 in
    let r = c.args.text.now.reader in
    let lacking : ℕ = c.saturating_sub-lacking.result in
    let part : List ℕ = c.new-part.result in
    let part_is : part ≡ take lacking c.args.piece.now = c.new-part.ensures in
    let part_len : length part ≡ lacking = ap length part_is ∙ length-take-le lacking c.args.piece.now (omega (arith, c.if-piece-lacking.false)) in
    let long : room_at r.opener.first r.opener.size r.segments < length (held_bytes r ++ part) =
    omega (arith, length-append (held_bytes r) part, part_len, held_length r, c.saturating_sub-lacking.ensures, c.size_of-room.ensures) in
    rw (p.1, p.2) (refused (segment_map r.opener) r.opener.first r.opener.size (omega (arith, r.opener.some)) r.opener.first_fits r.opener.overhead (piece_reading c.args.text.now) c.args.piece.now part r.opened.items lacking _
    r.opener.some part_is long refl c.in_err-open_next.field-0.0.kind c.in_err-open_next.ensures.answer)

pub returns-clause-ok : goal.returns-clause-ok
returns-clause-ok g c =
    let r = c.args.text.now.reader in
    let n = c.open_next.new.self in
    let o = c.in_ok-open_next.ensures.answer in
    let lacking : ℕ = c.saturating_sub-lacking.result in
    let room : ℕ = room_at r.opener.first r.opener.size r.segments in
    let part : List ℕ = c.new-part.result in
    let left : List ℕ = c.open_next.new.source in
    let t : List ℕ = n.opened.items in
    let some : 0 < r.opener.first = omega (arith, r.opener.some) in
    let part_is : part ≡ take lacking c.args.piece.now = c.new-part.ensures in
    let within : lacking ≤ length c.args.piece.now = omega (arith, c.if-piece-lacking.false) in
    let part_len : length part ≡ lacking = ap length part_is ∙ length-take-le lacking c.args.piece.now within in
    let all : length (held_bytes r ++ part) ≡ r.filled + lacking = omega (arith, length-append (held_bytes r) part, part_len, held_length r) in
    let lacks : lacking ≡ room + 1 - r.filled = omega (arith, c.saturating_sub-lacking.ensures, c.size_of-room.ensures) in
    let long : room < length (held_bytes r ++ part) = omega (arith, all, lacks) in
    let next : room_at r.opener.first r.opener.size (r.segments + length (t ∷ [])) ≡ r.opener.size =
    ap (room_at r.opener.first r.opener.size) (let e : r.segments + length (t ∷ []) ≡ r.segments + 1 = omega arith in e) ∙ room_at_next r.opener.first r.opener.size r.segments in
    let leads : Leads (segment_map r.opener) r.segments (cut room r.opener.size (held_bytes r ++ part)) (t ∷ []) (cut r.opener.size r.opener.size (held_bytes n ++ left)) =
    subst (λ x. Leads (segment_map r.opener) r.segments (cut room r.opener.size (held_bytes r ++ part)) (t ∷ []) (cut x r.opener.size (held_bytes n ++ left))) next o.leads in
    let rest : held_bytes n ++ left ≡ drop room (held_bytes r ++ part) = rest_held (segment_map r.opener) r.opener.first r.opener.size some r.opener.first_fits r.segments (held_bytes r ++ part) t (held_bytes n) left long leads in
    let rest_len : length (held_bytes n ++ left) ≡ length (held_bytes r ++ part) - room = ap length rest ∙ length-drop room (held_bytes r ++ part) in
    let runs = goes_on n.progress o.lives (λ ended. let none : length (held_bytes n ++ left) ≡ 0 = ap length (o.ends ended) in omega (arith, none, rest_len, long)) in
    let carried : 0 < n.filled = n.carried runs (omega (arith, o.number)) in
    let lost = c.open_next.ensures.read in
    let taken : length part ≡ length lost.0 + length left = ap length lost.2 ∙ length-append lost.0 left in
    let none : left ≡ [] = none_left left (omega (arith, taken, part_len, rest_len, all, lacks, carried, held_length n, length-append (held_bytes n) left)) in
    feeds_opened (segment_map r.opener) r.opener.first r.opener.size some r.opener.first_fits (piece_reading c.args.text.now) _ c.args.piece.now part t lacking part_is within long
    (subst (λ x. Leads (segment_map r.opener) r.segments (cut room r.opener.size (held_bytes r ++ part)) (t ∷ []) (cut r.opener.size r.opener.size x)) (ap (λ x. held_bytes n ++ x) none ∙ append-nil (held_bytes n)) leads)
    (omega (arith, held_length n, carried)) o.number refl runs
