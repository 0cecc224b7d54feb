use Rattle.std.proofs.Common.{length, ap, sym, ◌∙◌, Some, le_of_eq}
use Rattle.tink_range.specs.MemoryAt.{MemoryAt}
use Rattle.tink_range.proofs.MemoryAtFacts.{is_moved}
use Rattle.tink_range.proofs.memory_at.MemAtReadAt.read_at.Goals as goal

pub returns-clause-room : goal.returns-clause-room
returns-clause-room c =
    let moved = is_moved _ c.deref.result.now _ _ c.args.pos c.args.buf.now c.give_at.new.buf c.give_at.result (c.deref.ensures.value ∙ ap (λ (s : MemoryAt). s.bytes) c.self.view_is) (ap (λ (s : MemoryAt). s.piece) c.self.view_is) c.give_at.ensures.count c.give_at.ensures.given in
    moved.room

pub returns-clause-within : goal.returns-clause-within
returns-clause-within c =
    let moved = is_moved _ c.deref.result.now _ _ c.args.pos c.args.buf.now c.give_at.new.buf c.give_at.result (c.deref.ensures.value ∙ ap (λ (s : MemoryAt). s.bytes) c.self.view_is) (ap (λ (s : MemoryAt). s.piece) c.self.view_is) c.give_at.ensures.count c.give_at.ensures.given in
    moved.within

pub returns-clause-some : goal.returns-clause-some
returns-clause-some c =
    let moved = is_moved _ c.deref.result.now _ _ c.args.pos c.args.buf.now c.give_at.new.buf c.give_at.result (c.deref.ensures.value ∙ ap (λ (s : MemoryAt). s.bytes) c.self.view_is) (ap (λ (s : MemoryAt). s.piece) c.self.view_is) c.give_at.ensures.count c.give_at.ensures.given in
    moved.some

pub returns-clause-given : goal.returns-clause-given
returns-clause-given c =
    let moved = is_moved _ c.deref.result.now _ _ c.args.pos c.args.buf.now c.give_at.new.buf c.give_at.result (c.deref.ensures.value ∙ ap (λ (s : MemoryAt). s.bytes) c.self.view_is) (ap (λ (s : MemoryAt). s.piece) c.self.view_is) c.give_at.ensures.count c.give_at.ensures.given in
    moved.given

pub returns-clause-moved : goal.returns-clause-moved
returns-clause-moved c =
    let moved = is_moved _ c.deref.result.now _ _ c.args.pos c.args.buf.now c.give_at.new.buf c.give_at.result (c.deref.ensures.value ∙ ap (λ (s : MemoryAt). s.bytes) c.self.view_is) (ap (λ (s : MemoryAt). s.piece) c.self.view_is) c.give_at.ensures.count c.give_at.ensures.given in
    moved.count

pub returns-clause-length : goal.returns-clause-length
returns-clause-length c = ap (λ (s : MemoryAt). length s.bytes) c.self.view_is

pub returns-clause-bytes : goal.returns-clause-bytes
returns-clause-bytes c = ap (λ (s : MemoryAt). Some s.bytes) c.self.view_is

pub returns-then-is_listed-clause-length : goal.returns-then-is_listed-clause-length
returns-then-is_listed-clause-length c = ap (λ (s : MemoryAt). length s.bytes) c.self.view_is

pub returns-then-is_listed-clause-bytes : goal.returns-then-is_listed-clause-bytes
returns-then-is_listed-clause-bytes c = ap (λ (s : MemoryAt). Some s.bytes) c.self.view_is

pub returns-clause-cause : goal.returns-clause-cause
returns-clause-cause c = let still = ap (λ (s : MemoryAt). s.faults) c.self.view_is in record { later = le_of_eq (sym still); count = still }

pub returns-clause-same : goal.returns-clause-same
returns-clause-same c =
    let still = ap (λ (s : MemoryAt). s.faults) c.self.view_is in
    record { bytes = ap (λ (s : MemoryAt). s.bytes) c.self.view_is; fails = ap (λ (s : MemoryAt). s.fails) c.self.view_is; count = λ _. still }
