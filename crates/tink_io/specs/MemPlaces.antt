-- What each call leaves of a place over memory.
use Rattle.std.specs.Prelude.{◌≡◌, ◌||◌, ◌&&◌, not, ℕ, [], Bool, Some, is_some, Result, Ok, Err}
use Rattle.tink_io.specs.Memory.{one_more}
use Rattle.tink_io.specs.declared.mem_place.MemPlace.{MemPlace}

-- whether the draft is not shown: it may not be, or a file stands under the name and none is to be replaced
abbrev pub cannot_show : MemPlace → Bool
cannot_show p = not p.can_show || (not p.replaces && is_some p.shown)

-- how often it has failed, after a call
abbrev pub faults_after : {T E : Type 0} → ℕ → Result T E → ℕ
faults_after faults (Ok _) = faults
faults_after faults (Err _) = one_more faults

-- a write leaves what may be shown and the room, and counts its fault
pub record WritesMore {T E : Type 0} (old new : MemPlace) (result : Result T E) : Type 0 where
  pub can_show : new.can_show ≡ old.can_show
  pub room : new.room ≡ old.room
  pub faults : new.faults ≡ faults_after old.faults result

-- the draft became the file, and has no room
pub record LeavesShown (old new : MemPlace) : Type 0 where
  pub shown : new.shown ≡ Some old.draft
  pub draft : new.draft.items ≡ []
  pub room : new.room ≡ 0
  pub replaces : new.replaces ≡ old.replaces
  pub can_show : new.can_show ≡ old.can_show
  pub faults : new.faults ≡ old.faults

-- all is as it was, but for the count of faults
pub record LeavesUnshown (old new : MemPlace) : Type 0 where
  pub draft : new.draft ≡ old.draft
  pub has_draft : new.has_draft ≡ old.has_draft
  pub shown : new.shown ≡ old.shown
  pub replaces : new.replaces ≡ old.replaces
  pub can_show : new.can_show ≡ old.can_show
  pub room : new.room ≡ old.room
  pub faults : new.faults ≡ one_more old.faults

-- no byte of the draft is left, and all else is as it was
pub record LeavesNone (old new : MemPlace) : Type 0 where
  pub draft : new.draft.items ≡ []
  pub shown : new.shown ≡ old.shown
  pub replaces : new.replaces ≡ old.replaces
  pub can_show : new.can_show ≡ old.can_show
  pub room : new.room ≡ old.room
  pub faults : new.faults ≡ old.faults
