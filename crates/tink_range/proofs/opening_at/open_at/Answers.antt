use Rattle.std.proofs.Common.{◌≡◌, ◌+◌, min, nat_le, ℕ, Bool, true, List, length, take, drop, refl, sym, arith, IfSome, vec_len}
use Rattle.std.proofs.lemmas.Result.{IfOk-weaker}
use Rattle.stream_model.specs.Cut.{room_at}
use Rattle.tink_streaming_io.specs.Openers.{segment_map}
use Rattle.tink_range.specs.ChunkReading.{ChunkOpensTo, OpensAt}
use Rattle.tink_range.proofs.ObjectSteps.{chunk_fits, chunk_inside}
use Rattle.tink_range.proofs.ReadingFacts.{chunk_length, opened_at, whole_chunk}
use Rattle.tink_range.proofs.TakenFacts.{chunk_taken}
use Rattle.tink_range.proofs.opening_at.open_at.Goals as goal

pub returns-clause-answer : goal.returns-clause-answer
returns-clause-answer g c =
    let o = c.args.opener.now in
    let seg : ℕ → Bool → List ℕ → List ℕ = segment_map o in
    let all = g.A.ReadAt.bytes c.args.object.now in
    let chunk : List ℕ = take c.min-len.result c.deref_mut.result.now in
    let text : List ℕ = c.open_into.new.text.items in
    let long : length chunk ≡ c.min-len.result = chunk_length c.min-len.result c.args.rest c.room_of-room.result o.size _ c.deref_mut.result.now c.min-len.ensures c.room_of-room.ensures.most c.requires.room.sealed_room c.deref_mut.ensures.len in
    IfOk-weaker c.open_into.result (λ ok. IfSome all (λ S. ChunkOpensTo seg c.args.number (nat_le c.args.rest c.room_of-room.result) (take (length chunk) (drop c.args.at S)) ok text))
    (λ ok. OpensAt seg (record { number = c.args.number; start = c.args.at; rest = c.args.rest; room = room_at o.first o.size c.args.number }) all ok text)
    (λ ok h. opened_at all seg c.args.number c.args.at c.args.rest (room_at o.first o.size c.args.number) c.room_of-room.result c.min-len.result _ _ ok text
    c.room_of-room.ensures.value c.min-len.ensures long c.requires.inside.0 (g.met.A.ReadAt.told c.args.object.now) h) c.open_into.ensures.answer

pub returns-clause-length : goal.returns-clause-length
returns-clause-length g c =
    let o = c.args.opener.now in
    let chunk : List ℕ = take c.min-len.result c.deref_mut.result.now in
    let room : ℕ = room_at o.first o.size c.args.number in
    let long : length chunk ≡ c.min-len.result = chunk_length c.min-len.result c.args.rest c.room_of-room.result o.size _ c.deref_mut.result.now c.min-len.ensures c.room_of-room.ensures.most c.requires.room.sealed_room c.deref_mut.ensures.len in
    IfOk-weaker c.open_into.result (λ ok. ok ≡ true → vec_len c.open_into.new.text + o.overhead ≡ length chunk) (λ ok. ok ≡ true → vec_len c.open_into.new.text + o.overhead ≡ min c.args.rest room)
    (λ ok h yes. whole_chunk (vec_len c.open_into.new.text + o.overhead) (length chunk) c.min-len.result c.args.rest c.room_of-room.result room (h yes) long c.min-len.ensures c.room_of-room.ensures.value) c.open_into.ensures.length

pub returns-clause-ticks : goal.returns-clause-ticks
returns-clause-ticks g c = c.open_into.ensures.ticks

pub returns-clause-read : goal.returns-clause-read
returns-clause-read g c = c.open_into.ensures.read

pub returns-clause-room : goal.returns-clause-room
returns-clause-room g c = record { buffers = c.open_into.ensures.room; sealed_len = refl; sealed_capacity = refl }

-- the chunk is a part of the buffer, and of the object

pub slice_bounds-open_into-end : goal.slice_bounds-open_into-end
slice_bounds-open_into-end g c =
    let long : length (take c.min-len.result c.deref_mut.result.now) ≡ c.min-len.result = chunk_length c.min-len.result c.args.rest c.room_of-room.result c.args.opener.now.size _ c.deref_mut.result.now c.min-len.ensures c.room_of-room.ensures.most c.requires.room.sealed_room c.deref_mut.ensures.len in
    sym long

pub open_into-requires-clause-number : goal.open_into-requires-clause-number
open_into-requires-clause-number g c = c.requires.number

pub open_into-requires-clause-inside : goal.open_into-requires-clause-inside
open_into-requires-clause-inside g c =
    let long : length (take c.min-len.result c.deref_mut.result.now) ≡ c.min-len.result = chunk_length c.min-len.result c.args.rest c.room_of-room.result c.args.opener.now.size _ c.deref_mut.result.now c.min-len.ensures c.room_of-room.ensures.most c.requires.room.sealed_room c.deref_mut.ensures.len in
    chunk_inside c.args.at (length (take c.min-len.result c.deref_mut.result.now)) c.min-len.result c.args.rest c.room_of-room.result _ long c.min-len.ensures c.requires.inside.0 c.requires.inside.1

pub open_into-requires-clause-room : goal.open_into-requires-clause-room
open_into-requires-clause-room g c =
    let long : length (take c.min-len.result c.deref_mut.result.now) ≡ c.min-len.result = chunk_length c.min-len.result c.args.rest c.room_of-room.result c.args.opener.now.size _ c.deref_mut.result.now c.min-len.ensures c.room_of-room.ensures.most c.requires.room.sealed_room c.deref_mut.ensures.len in
    (chunk_fits _ c.min-len.result c.args.rest c.room_of-room.result c.args.opener.now.size long c.min-len.ensures c.room_of-room.ensures.most, c.requires.room.text_room, c.requires.room.nonce_room)

pub returns-clause-taken : goal.returns-clause-taken
returns-clause-taken g c =
    let long : length (take c.min-len.result c.deref_mut.result.now) ≡ c.min-len.result = chunk_length c.min-len.result c.args.rest c.room_of-room.result c.args.opener.now.size _ c.deref_mut.result.now c.min-len.ensures c.room_of-room.ensures.most c.requires.room.sealed_room c.deref_mut.ensures.len in
    chunk_taken _ _ _ c.min-len.result c.args.rest _ c.open_into.ensures.taken long (omega (arith, c.min-len.ensures, c.room_of-room.ensures.value))
