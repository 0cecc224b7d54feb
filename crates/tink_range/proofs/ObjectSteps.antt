-- What stays of an object and of a core over two calls, and the sums of what calls say, as lemmas over plain numbers: an
-- answer that cites one is checked without a search among all that the function knows.
use Rattle.std.proofs.Common.{◌≡◌, ◌<◌, ◌≤◌, ◌+◌, ◌-◌, ◌^◌, min, ℕ, List, Fits, w64, refl, sym, subst, ◌∙◌, arith, le_refl, le_trans}
use Rattle.std.specs.Prelude.{Result, Ok, Err, IfErr}
use Rattle.std.specs.declared.option.Option.{Option}
use Rattle.tink_io.specs.Faults.{Rose}
use Rattle.tink_io.specs.declared.error.Kind.{Kind}
use Rattle.tink_io.specs.declared.error.Kind.TheVariants.{WriteFault}
use Rattle.tink_io.specs.declared.error.TinkError.{TinkError}
use Rattle.tink_streaming_segment.specs.declared.segment_traits.SegmentDecrypter.{Ghosts}
use Rattle.tink_range.specs.Objects.{KeepsObject, LeavesObject, RisesByKind, RisesByReadFault}
use Rattle.tink_range.specs.RangeCores.{IsSameCore}
use Rattle.tink_range.specs.Rooms.{HasRoomFor}
use Rattle.tink_range.specs.StepCounts.{TakesOneStep}
use Rattle.tink_range.specs.declared.chunks.RangeCore.{RangeCore}

module _ {A : Type 0} (length_of : A → ℕ) (bytes : A → Option (List ℕ)) (faults : A → ℕ) (old mid new : A) where
  pub keeps_trans : KeepsObject length_of bytes faults old mid → KeepsObject length_of bytes faults mid new → KeepsObject length_of bytes faults old new
  keeps_trans a b = record { length_is = b.length_is ∙ a.length_is; bytes_are = b.bytes_are ∙ a.bytes_are; later = le_trans a.later b.later }

  -- a call that did not fail, and then one with this answer
  pub leaves_trans : {T : Type 0} (r : Result T TinkError) → KeepsObject length_of bytes faults old mid → faults mid ≡ faults old → LeavesObject length_of bytes faults mid new r → LeavesObject length_of bytes faults old new r
  leaves_trans r a e b = record {
    length_is = b.length_is ∙ a.length_is;
    bytes_are = b.bytes_are ∙ a.bytes_are;
    later = le_trans a.later b.later;
    count = subst (λ (n : ℕ). RisesByReadFault n (faults new) r) e b.count;
  }

-- nothing was read
pub unread : {A : Type 0} (length_of : A → ℕ) (bytes : A → Option (List ℕ)) (faults : A → ℕ) (old : A) → KeepsObject length_of bytes faults old old
unread length_of bytes faults old = record { length_is = refl; bytes_are = refl; later = le_refl _ }

module _ {A : Type 0} (length_of : A → ℕ) (bytes : A → Option (List ℕ)) (faults : A → ℕ) (old new : A) where
  -- what is left by an answer that is no refusal
  pub ok_keeps : {T : Type 0} (v : T) → LeavesObject length_of bytes faults old new (Ok v) → KeepsObject length_of bytes faults old new
  ok_keeps v a = record { length_is = a.length_is; bytes_are = a.bytes_are; later = a.later }

  pub ok_leaves : {T : Type 0} (v : T) → KeepsObject length_of bytes faults old new → faults new ≡ faults old → LeavesObject length_of bytes faults old new (Ok v)
  ok_leaves v a e = record { length_is = a.length_is; bytes_are = a.bytes_are; later = a.later; count = e }

  -- a refusal of this kind
  pub refusal_leaves : {T : Type 0} (e : TinkError) (kind : Kind) → e ≡ record { kind = kind } → KeepsObject length_of bytes faults old new → RisesByKind (faults old) (faults new) kind → LeavesObject length_of bytes faults old new {T = T} (Err e)
  refusal_leaves e kind is a h = record { length_is = a.length_is; bytes_are = a.bytes_are; later = a.later; count = subst (λ (x : TinkError). RisesByKind (faults old) (faults new) x.kind) (sym is) h }

  -- an answer that tells of no failed read
  pub writes_leave : {T : Type 0} (r : Result T TinkError) → IfErr r (λ e. e ≡ record { kind = WriteFault }) → KeepsObject length_of bytes faults old new → faults new ≡ faults old → LeavesObject length_of bytes faults old new r
  writes_leave {T} r is a e = record { length_is = a.length_is; bytes_are = a.bytes_are; later = a.later; count = by r is }
    where
      by : (r : Result T TinkError) → IfErr r (λ x. x ≡ record { kind = WriteFault }) → RisesByReadFault (faults old) (faults new) r
      by (Ok v) h = e
      by (Err x) h = subst (λ (y : TinkError). RisesByKind (faults old) (faults new) y.kind) (sym h) e

  -- a refusal of one call is one of another
  pub err_leaves : {S T : Type 0} (e : TinkError) → LeavesObject length_of bytes faults old new {T = S} (Err e) → LeavesObject length_of bytes faults old new {T = T} (Err e)
  err_leaves e a = record { length_is = a.length_is; bytes_are = a.bytes_are; later = a.later; count = a.count }

pub core_trans : {D : Type 0} {g : Ghosts D} (old mid new : RangeCore D g) → IsSameCore old mid → IsSameCore mid new → IsSameCore old new
core_trans old mid new a b = record { opener = b.opener ∙ a.opener; front = b.front ∙ a.front; behind = b.behind ∙ a.behind; memory = b.memory ∙ a.memory }

-- the bytes that were given and those of one chunk more are no more than the object has
pub given_fits : (given count part len text start behind front over room : ℕ) → given ≤ text → text ≤ start → start < behind → count ≡ part → part ≤ len → len + over ≡ min (behind - start) room → front + behind < 2 ^ 64
    → Fits w64 (given + count)
given_fits given count part len text start behind front over room a b c d e f g = omega arith

-- behind a chunk less is left
pub less_left : (behind start over room next : ℕ) → start < behind → over < room → next ≡ start + min (behind - start) room → behind - next < behind - start
less_left behind start over room next a b c = omega arith

-- a range touches a chunk's text where it touches its places
pub touched_in : (lo at len over own n : ℕ) → lo < at + (own - over) → len + over ≡ own → n ≡ len → lo ≤ at + n
touched_in lo at len over own n a b c = omega arith

-- the object of a core is the one that it was
pub whole_of : (front behind whole first rest now : ℕ) → front + behind ≡ whole → first ≡ front → rest ≡ behind → now ≡ whole → first + rest ≡ now
whole_of front behind whole first rest now a b c d = omega arith

-- one step more, and a step for each of so many keys at most
pub one_more : (before now : ℕ) → now ≡ before + 1 → (before ≤ now) × (now ≤ before + 1)
one_more before now e = (omega arith, omega arith)

pub none_more : (before now : ℕ) → now ≡ before → (before ≤ now) × (now ≤ before + 1)
none_more before now e = (omega arith, omega arith)

-- a refused call took no step, which is no more than one
pub within_one : (before now : ℕ) → now ≡ before → now ≤ before + 1
within_one before now e = omega arith

-- a step was taken, whatever came then
pub one_step : {T : Type 0} (before now : ℕ) (r : Result T TinkError) → now ≡ before + 1 → TakesOneStep before now r
one_step before now (Ok v) e = e
one_step before now (Err x) e = omega arith

pub below : (a b : ℕ) → a < b → a ≤ b
below a b h = omega arith

pub no_more_than : (old before now i n : ℕ) → old ≤ before → before ≤ old + i → (before ≤ now) × (now ≤ before + 1) → i < n → (old ≤ now) × (now ≤ old + n)
no_more_than old before now i n a b c d = (omega (arith, c.0), omega (arith, c.1))

-- a refusal for a failed read, where none had failed before
pub rose_since : (old mid new : ℕ) → mid ≡ old → Rose mid new → Rose old new
rose_since old mid new e r = subst (λ (n : ℕ). Rose n new) e r

-- there is room for a segment of a key where there was for each of the key's
pub room_for : (size nonce_bytes segment need out sealed_old sealed text_old text n_old n : ℕ) → size ≡ segment → nonce_bytes ≡ need → out + segment < sealed_old → segment ≤ text_old → need ≤ n_old → sealed ≡ sealed_old → text_old ≤ text → n ≡ n_old
    → HasRoomFor size nonce_bytes sealed text n
room_for size nonce_bytes segment need out sealed_old sealed text_old text n_old n a b c d e f g h = record { sealed_room = omega arith; text_room = omega arith; nonce_room = omega arith }

-- a chunk is as long as what is left of its bytes, or as its room
pub chunk_inside : (at len n rest room whole : ℕ) → len ≡ n → n ≡ min rest room → at + rest ≡ whole → at + rest < 2 ^ 64 → (at + len ≤ whole) × (at + len < 2 ^ 64)
chunk_inside at len n rest room whole a b c d = (omega arith, omega arith)

pub chunk_fits : (len n rest room size : ℕ) → len ≡ n → n ≡ min rest room → room ≤ size → len ≤ size
chunk_fits len n rest room size a b c = omega arith

-- a front with bytes behind it is inside the object, and what is behind it is the rest
pub front_inside : (len front size whole : ℕ) → len ≡ front → front < size → size ≡ whole → len ≤ whole
front_inside len front size whole a b c = omega arith

pub front_below : (front whole now size : ℕ) → front < whole → now ≡ whole → size ≡ now → front < size
front_below front whole now size a b c = omega arith

pub front_and_rest : (front whole now size : ℕ) → front < whole → now ≡ whole → size ≡ now → front + (size - front) ≡ whole
front_and_rest front whole now size a b c = omega arith

pub some_behind : (front size : ℕ) → front < size → 0 < size - front
some_behind front size a = omega arith
