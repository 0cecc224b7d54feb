use Rattle.std.proofs.Common.{refl, arith, add-le-add, le_refl, le_trans}
use Rattle.tink_range.proofs.TakenFacts.{room_most}
use Rattle.tink_range.proofs.chunks.RangeCore.open_chunk.Goals as goal

pub returns-clause-core : goal.returns-clause-core
returns-clause-core g c =
    let room = c.open_at.ensures.room in
    record { opener = refl; front = refl; behind = refl; memory = omega (arith, room.sealed_capacity, room.buffers.capacity, room.buffers.nonce_capacity) }

pub returns-clause-answer : goal.returns-clause-answer
returns-clause-answer g c = c.open_at.ensures.answer

pub returns-clause-length : goal.returns-clause-length
returns-clause-length g c = c.open_at.ensures.length

pub returns-clause-ticks : goal.returns-clause-ticks
returns-clause-ticks g c = c.open_at.ensures.ticks

pub returns-clause-read : goal.returns-clause-read
returns-clause-read g c = c.open_at.ensures.read

pub open_at-requires-clause-number : goal.open_at-requires-clause-number
open_at-requires-clause-number g c = c.requires.number

pub returns-clause-taken : goal.returns-clause-taken
returns-clause-taken g c = le_trans c.open_at.ensures.taken (add-le-add (le_refl _) (room_most _ _ c.args.number c.args.self.now.opener.first_fits))
