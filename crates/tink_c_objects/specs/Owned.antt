-- What a pointer that C holds owns.
use mir.Syntax.{Ty}
use base.Fml.{Fml, ftrue}
use base.Stored.{Coded}
use denote.RawPtr.{Ptr}
use Rattle.std.specs.Prelude.{◌≡◌, Option, Some, None}
use Rattle.std.specs.Coded.{coded_option}
use Rattle.std.specs.Global.{Box}
use Rattle.std.specs.Box.Ownership.{box_owns}
use Rattle.std_heap.specs.contracts.GlobalAllocator.TheImpl.{ghosts}
use Rattle.tink_c_objects.specs.contracts.object.Object.{the_row}
use Rattle.tink_c_objects.specs.declared.object.Object.{Object}

abbrev pub held_coded : Coded (Option the_row.Denot)
held_coded = coded_option the_row.coded

-- the right to free a block, which is the same by every handle
abbrev pub token : Ty → Ptr → Fml
token = ghosts.dealloc_token (record { memory = record { seal = tt } })

-- the object at the pointer, and the right to free its block; or nothing
abbrev pub slot_owns : Ptr → Option the_row.Denot → Fml
slot_owns p None = ftrue
slot_owns p (Some x) = box_owns token the_row p x

-- the object that was there is in the box, or there was none
abbrev pub IsTakenFrom : Option Object → Option (Box Object) → Type 0
IsTakenFrom held None = held ≡ None
IsTakenFrom held (Some b) = held ≡ Some b.value
