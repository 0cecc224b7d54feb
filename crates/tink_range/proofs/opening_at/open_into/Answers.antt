use Rattle.std.proofs.Common.{ℕ, Bool, List, take, drop, length, ◌∙◌}
use Rattle.tink_streaming_io.specs.Openers.{segment_map}
use Rattle.tink_range.proofs.ReadingFacts.{opened_as}
use Rattle.tink_range.proofs.opening_at.open_into.Goals as goal

pub returns-in-Ok-clause-answer : goal.returns-in-Ok-clause-answer
returns-in-Ok-clause-answer g c =
    let seg : ℕ → Bool → List ℕ → List ℕ = segment_map c.args.opener.now in
    let of : List ℕ → List ℕ = λ S. take (length c.args.chunk.now) (drop c.args.at S) in
    opened_as (g.A.ReadAt.bytes c.args.object.now) seg c.args.number c.args.last c.fill_at.new.buf of c.open_held.result c.open_held.new.opened.items c.in-Ok.ensures.given c.open_held.ensures.ok c.open_held.ensures.refused

pub returns-in-Ok-clause-room : goal.returns-in-Ok-clause-room
returns-in-Ok-clause-room g c = c.open_held.ensures.room

pub returns-in-Ok-clause-length : goal.returns-in-Ok-clause-length
returns-in-Ok-clause-length g c = λ ok. c.open_held.ensures.length ok ∙ c.fill_at.auto.buf

pub returns-in-Ok-clause-read : goal.returns-in-Ok-clause-read
returns-in-Ok-clause-read g c = let read = c.in-Ok.ensures.read in record { kept = read.kept; count = read.count; same = read.same }

pub returns-in-Ok-clause-ticks : goal.returns-in-Ok-clause-ticks
returns-in-Ok-clause-ticks g c = c.tick.ensures

pub returns-in-Err-clause-read : goal.returns-in-Err-clause-read
returns-in-Err-clause-read g c = let read = c.in-Err.ensures.read in record { kept = read.kept; count = read.count; same = read.same }

pub open_held-requires-clause-number : goal.open_held-requires-clause-number
open_held-requires-clause-number g c = c.requires.number

pub fill_at-requires-clause-within : goal.fill_at-requires-clause-within
fill_at-requires-clause-within g c = c.requires.inside.0

pub fill_at-requires-clause-fits : goal.fill_at-requires-clause-fits
fill_at-requires-clause-fits g c = c.requires.inside.1

pub returns-in-Err-clause-answer : goal.returns-in-Err-clause-answer
returns-in-Err-clause-answer g c = tt

pub returns-in-Err-clause-length : goal.returns-in-Err-clause-length
returns-in-Err-clause-length g c = tt

pub returns-in-Ok-clause-taken : goal.returns-in-Ok-clause-taken
returns-in-Ok-clause-taken g c = c.in-Ok.ensures.taken

pub returns-in-Err-clause-taken : goal.returns-in-Err-clause-taken
returns-in-Err-clause-taken g c = c.in-Err.ensures.taken
