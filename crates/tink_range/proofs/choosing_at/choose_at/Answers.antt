use Rattle.std.proofs.Common.{◌≡◌, ap, ◌≤◌, ◌<◌, ◌+◌, ◌-◌, ℕ, Bool, List, All, length, map, IfSome, None, sym, subst, ◌∙◌, vec_len, vec_capacity, arith, le_of_eq, le_trans}
use Rattle.std.proofs.lemmas.List.Elements.{All-get_or}
use Rattle.std.specs.declared.option.Option.{Option}
use Rattle.stream_model.specs.Cut.{numbered}
use Rattle.stream_model.specs.Key.{StreamKey, nonce_size}
use Rattle.stream_model.specs.Opening.{Begins, IsChosen, OpeningKey, opening_key}
use Rattle.tink_streaming_ciphers.specs.StreamSegments.{segment_by}
use Rattle.tink_streaming_io.specs.Choosing.{Found, IsOpenerOf}
use Rattle.tink_streaming_io.proofs.ChoosingSteps.{ChosenFrom, both_told, key_split, none_left, pass_over, take_key}
use Rattle.tink_range.specs.ChoosingAt.{IsChosenInPlace, Tries, is_tried, one_if}
use Rattle.tink_range.proofs.ObjectSteps.{keeps_trans, no_more_than, room_for, rose_since}
use Rattle.tink_range.proofs.PlacedFacts.{PlacedFrom, one_place, placed_all, placed_first, placed_on}
use Rattle.tink_range.proofs.ReadingFacts.{told_weaker}
use Rattle.tink_range.proofs.TriesFacts.{TriesFrom, is_some_not, tries_first, tries_none, tries_on}
use Rattle.tink_range.proofs.TakenFacts.{taken_last, taken_most, taken_next}
use Rattle.tink_range.proofs.choosing_at.choose_at.Goals as goal

pub returns-in-Ok-Ok-clause-found : goal.returns-in-Ok-Ok-clause-found
returns-in-Ok-Ok-clause-found g c =
    let inside : c.loop-place.place < length c.args.keys.now = omega arith in
    let of : g.row.T.Denot → OpeningKey = λ k. opening_key c.args.aad.now (g.T.DerivesStreams.key_of k) in
    let keys = c.args.keys.now in
    let i = c.loop-place.place in
    let b = c.in-Ok-Ok.begun in
    let o = b.opener in
    let seg : ℕ → Bool → List ℕ → List ℕ = numbered (segment_by o.decrypter) o.nonce_size o.prefix.items in
    let told : Option (List ℕ) = g.A.ReadAt.bytes c.args.object.now in
    let key : g.row.T.Denot = c.index-keys-place.result in
    let inv = c.loop-place.invariant in
    let tried = rw c.in-Ok-Ok.field-0-is at c.in-Ok-Ok.ensures.answer in
    let split = key_split keys i key inside c.index-keys-place.is in
    let begins : List ℕ → Type 0 = λ X. Begins (of key) X × IsOpenerOf (of key) X seg b.front o.first o.size o.overhead in
    record {
      found = both_told told begins (ChosenFrom of keys i) (λ X. Found (map of keys) X seg b.front o.first o.size o.overhead)
          (λ X p h. record { key = of key; chosen = take_key of keys i key X split p.0 h; opener = p.1 })
          (subst (λ (r : Option (List ℕ)). IfSome r begins) inv.kept.bytes_are tried.found)
          inv.chosen;
      inside = omega (arith, tried.inside, inv.kept.length_is);
    }

pub returns-in-Ok-Ok-clause-tries : goal.returns-in-Ok-Ok-clause-tries
returns-in-Ok-Ok-clause-tries g c =
    let inside : c.loop-place.place < length c.args.keys.now = omega arith in
    let of : g.row.T.Denot → OpeningKey = λ k. opening_key c.args.aad.now (g.T.DerivesStreams.key_of k) in
    let keys = c.args.keys.now in
    let i = c.loop-place.place in
    let b = c.in-Ok-Ok.begun in
    let o = b.opener in
    let seg : ℕ → Bool → List ℕ → List ℕ = numbered (segment_by o.decrypter) o.nonce_size o.prefix.items in
    let told : Option (List ℕ) = g.A.ReadAt.bytes c.args.object.now in
    let key : g.row.T.Denot = c.index-keys-place.result in
    let inv = c.loop-place.invariant in
    let tried = rw c.in-Ok-Ok.field-0-is at c.in-Ok-Ok.ensures.answer in
    let split = key_split keys i key inside c.index-keys-place.is in
    let begins : List ℕ → Type 0 = λ X. Begins (of key) X × IsOpenerOf (of key) X seg b.front o.first o.size o.overhead in
    let count : c.try_at.new.steps - c.args.steps.now ≡ (c.loop-place.steps - c.args.steps.now) + 1 = omega (arith, tried.ticked, inv.ticked) in
    both_told told begins (TriesFrom of keys i (c.loop-place.steps - c.args.steps.now)) (λ X. Tries (map of keys) X (c.try_at.new.steps - c.args.steps.now))
    (λ X p h. tries_first of keys i (c.loop-place.steps - c.args.steps.now) (c.try_at.new.steps - c.args.steps.now) key X split p.0 count h)
    (subst (λ (r : Option (List ℕ)). IfSome r begins) inv.kept.bytes_are tried.found)
    inv.tried

pub returns-in-Ok-Ok-clause-none : goal.returns-in-Ok-Ok-clause-none
returns-in-Ok-Ok-clause-none g c = λ none. is_some_not _ none

pub loop-place-preserved : goal.loop-place-preserved
loop-place-preserved g c =
    let inside : c.loop-place.place < length c.args.keys.now = omega arith in
    let of : g.row.T.Denot → OpeningKey = λ k. opening_key c.args.aad.now (g.T.DerivesStreams.key_of k) in
    let keys = c.args.keys.now in
    let i = c.loop-place.place in
    let told : Option (List ℕ) = g.A.ReadAt.bytes c.args.object.now in
    let key : g.row.T.Denot = c.index-keys-place.result in
    let inv = c.loop-place.invariant in
    let called = c.in-Ok-Err.ensures in
    let tried = rw c.in-Ok-Err.field-0-is at called.answer in
    let split = key_split keys i key inside c.index-keys-place.is in
    let not : List ℕ → Type 0 = λ X. Begins (of key) X → ⊥ in
    let ticks : List ℕ → Type 0 = λ X. c.try_at.new.steps ≡ c.loop-place.steps + one_if (is_tried (of key) X) in
    let none : IfSome told not = subst (λ (r : Option (List ℕ)). IfSome r not) inv.kept.bytes_are tried.none in
    let ticked : IfSome told ticks = subst (λ (r : Option (List ℕ)). IfSome r ticks) inv.kept.bytes_are tried.ticked in
    record {
      sealed_len = called.room.sealed_len ∙ inv.sealed_len;
      text_room = omega (arith, called.room.buffers.capacity, inv.text_room);
      nonce_len = called.room.buffers.nonce_len ∙ inv.nonce_len;
      prefix_room = tried.room;
      chosen = both_told told not (ChosenFrom of keys i) (ChosenFrom of keys (i + 1)) (λ X other h. pass_over of keys i key X split other h) none inv.chosen;
      tried = both_told told (λ X. not X × ticks X) (TriesFrom of keys i (c.loop-place.steps - c.args.steps.now)) (TriesFrom of keys (i + 1) (c.try_at.new.steps - c.args.steps.now))
          (λ X p h. tries_on of keys i (c.loop-place.steps - c.args.steps.now) (c.try_at.new.steps - c.args.steps.now) key X split p.0 (omega (arith, p.1, inv.ticked)) h)
          (both_told told not ticks (λ X. not X × ticks X) (λ X a b. (a, b)) none ticked)
          inv.tried;
      placed = both_told told not (PlacedFrom of keys i) (PlacedFrom of keys (i + 1)) (λ X other h. placed_on of keys i key X split other h) none inv.placed;
      ticked = omega (arith, called.ticks.0, inv.ticked);
      few = omega (arith, called.ticks.1, inv.few);
      kept = keeps_trans g.A.ReadAt.length_of g.A.ReadAt.bytes g.A.ReadAt.faults c.args.object.now c.loop-place.object c.try_at.new.object inv.kept called.read.kept;
      count = called.read.count ∙ inv.count;
      taken = taken_next _ _ _ i (vec_len c.args.sealed.now) inv.taken (subst (λ (n : ℕ). g.A.ReadAt.taken c.try_at.new.object ≤ g.A.ReadAt.taken c.loop-place.object + n) inv.sealed_len called.taken);
      same = g.met.A.ReadAt.same_trans _ _ _ inv.same called.read.same;
    }

pub returns-clause-none : goal.returns-clause-none
returns-clause-none g c = λ _.
    let of : g.row.T.Denot → OpeningKey = λ k. opening_key c.args.aad.now (g.T.DerivesStreams.key_of k) in
    let keys = c.args.keys.now in
    told_weaker (g.A.ReadAt.bytes c.args.object.now) (ChosenFrom of keys c.loop-place.place) (λ X. IsChosen (map of keys) X None)
    (λ X h. none_left of keys c.loop-place.place X (omega arith) h) c.loop-place.invariant.chosen

pub returns-clause-tries : goal.returns-clause-tries
returns-clause-tries g c =
    let of : g.row.T.Denot → OpeningKey = λ k. opening_key c.args.aad.now (g.T.DerivesStreams.key_of k) in
    let keys = c.args.keys.now in
    let n : ℕ = c.loop-place.steps - c.args.steps.now in
    told_weaker (g.A.ReadAt.bytes c.args.object.now) (TriesFrom of keys c.loop-place.place n) (λ X. Tries (map of keys) X n)
    (λ X h. tries_none of keys c.loop-place.place n X (omega arith) h) c.loop-place.invariant.tried

-- after a step for each key at most

pub returns-in-Ok-Ok-clause-ticks : goal.returns-in-Ok-Ok-clause-ticks
returns-in-Ok-Ok-clause-ticks g c =
    let inside : c.loop-place.place < length c.args.keys.now = omega arith in
    let inv = c.loop-place.invariant in
    no_more_than c.args.steps.now c.loop-place.steps c.try_at.new.steps c.loop-place.place (length c.args.keys.now) inv.ticked inv.few c.in-Ok-Ok.ensures.ticks inside

pub returns-in-Err-clause-ticks : goal.returns-in-Err-clause-ticks
returns-in-Err-clause-ticks g c =
    let inside : c.loop-place.place < length c.args.keys.now = omega arith in
    let inv = c.loop-place.invariant in
    no_more_than c.args.steps.now c.loop-place.steps c.try_at.new.steps c.loop-place.place (length c.args.keys.now) inv.ticked inv.few c.in-Err.ensures.ticks inside

-- with room for each key

pub returns-in-Ok-Ok-clause-room : goal.returns-in-Ok-Ok-clause-room
returns-in-Ok-Ok-clause-room g c =
    let inside : c.loop-place.place < length c.args.keys.now = omega arith in
    let keys = c.args.keys.now in
    let key : g.row.T.Denot = c.index-keys-place.result in
    let of : g.row.T.Denot → StreamKey = g.T.DerivesStreams.key_of in
    let so : (P : g.row.T.Denot → Type 0) → All P keys → P key = λ P h. subst P (sym c.index-keys-place.is) (All-get_or P keys c.loop-place.place key inside h) in
    let inv = c.loop-place.invariant in
    let room = c.in-Ok-Ok.ensures.room in
    let all = c.requires.room in
    let begun = rw c.in-Ok-Ok.field-0-is at c.in-Ok-Ok.ensures.answer in
    room_for _ _ (of key).segment (nonce_size (of key)) (length (of key).out) (vec_len c.args.sealed.now) _ (vec_capacity c.args.text.now) _ (vec_len c.args.nonce.now) _ begun.opened.size_is begun.opened.nonce_is
    (so (λ k. length (of k).out + (of k).segment < vec_len c.args.sealed.now) all.sealed_room) (so (λ k. (of k).segment ≤ vec_capacity c.args.text.now) all.text_room) (so (λ k. nonce_size (of k) ≤ vec_len c.args.nonce.now) all.nonce_room)
    (room.sealed_len ∙ inv.sealed_len) (le_trans inv.text_room (le_of_eq (sym room.buffers.capacity))) (room.buffers.nonce_len ∙ inv.nonce_len)

pub try_at-requires-clause-sealed : goal.try_at-requires-clause-sealed
try_at-requires-clause-sealed g c =
    let inside : c.loop-place.place < length c.args.keys.now = omega arith in
    let key : g.row.T.Denot = c.index-keys-place.result in
    let of : g.row.T.Denot → StreamKey = g.T.DerivesStreams.key_of in
    subst (λ (n : ℕ). length (of key).out + (of key).segment < n) (sym c.loop-place.invariant.sealed_len)
    (subst (λ (k : g.row.T.Denot). length (of k).out + (of k).segment < vec_len c.args.sealed.now) (sym c.index-keys-place.is)
    (All-get_or (λ k. length (of k).out + (of k).segment < vec_len c.args.sealed.now) c.args.keys.now c.loop-place.place key inside c.requires.room.sealed_room))

pub try_at-requires-clause-text : goal.try_at-requires-clause-text
try_at-requires-clause-text g c =
    let inside : c.loop-place.place < length c.args.keys.now = omega arith in
    let key : g.row.T.Denot = c.index-keys-place.result in
    let of : g.row.T.Denot → StreamKey = g.T.DerivesStreams.key_of in
    le_trans
    (subst (λ (k : g.row.T.Denot). (of k).segment ≤ vec_capacity c.args.text.now) (sym c.index-keys-place.is)
    (All-get_or (λ k. (of k).segment ≤ vec_capacity c.args.text.now) c.args.keys.now c.loop-place.place key inside c.requires.room.text_room))
    c.loop-place.invariant.text_room

pub try_at-requires-clause-nonce : goal.try_at-requires-clause-nonce
try_at-requires-clause-nonce g c =
    let inside : c.loop-place.place < length c.args.keys.now = omega arith in
    let key : g.row.T.Denot = c.index-keys-place.result in
    let of : g.row.T.Denot → StreamKey = g.T.DerivesStreams.key_of in
    subst (λ (n : ℕ). nonce_size (of key) ≤ n) (sym c.loop-place.invariant.nonce_len)
    (subst (λ (k : g.row.T.Denot). nonce_size (of k) ≤ vec_len c.args.nonce.now) (sym c.index-keys-place.is)
    (All-get_or (λ k. nonce_size (of k) ≤ vec_len c.args.nonce.now) c.args.keys.now c.loop-place.place key inside c.requires.room.nonce_room))

-- a refusal says nothing of a key

pub returns-in-Err-clause-none : goal.returns-in-Err-clause-none
returns-in-Err-clause-none g c = tt

pub returns-in-Err-clause-found : goal.returns-in-Err-clause-found
returns-in-Err-clause-found g c = tt

pub returns-in-Err-clause-room : goal.returns-in-Err-clause-room
returns-in-Err-clause-room g c = tt

pub returns-in-Err-clause-tries : goal.returns-in-Err-clause-tries
returns-in-Err-clause-tries g c = tt

pub returns-in-Ok-Ok-clause-read : goal.returns-in-Ok-Ok-clause-read
returns-in-Ok-Ok-clause-read g c =
    let inv = c.loop-place.invariant in
    let read = c.in-Ok-Ok.ensures.read in
    record {
      kept = keeps_trans g.A.ReadAt.length_of g.A.ReadAt.bytes g.A.ReadAt.faults c.args.object.now c.loop-place.object c.try_at.new.object inv.kept read.kept;
      count = read.count ∙ inv.count;
      same = g.met.A.ReadAt.same_trans _ _ _ inv.same read.same;
    }

pub returns-in-Err-clause-read : goal.returns-in-Err-clause-read
returns-in-Err-clause-read g c =
    let inv = c.loop-place.invariant in
    let read = c.in-Err.ensures.read in
    record {
      kept = keeps_trans g.A.ReadAt.length_of g.A.ReadAt.bytes g.A.ReadAt.faults c.args.object.now c.loop-place.object c.try_at.new.object inv.kept read.kept;
      count = rose_since _ _ _ inv.count read.count;
      same = g.met.A.ReadAt.same_trans _ _ _ inv.same read.same;
    }

pub returns-clause-read : goal.returns-clause-read
returns-clause-read g c = let inv = c.loop-place.invariant in record { kept = inv.kept; count = inv.count; same = inv.same }

pub try_at-requires-clause-prefix : goal.try_at-requires-clause-prefix
try_at-requires-clause-prefix g c = c.loop-place.invariant.prefix_room

-- the chosen key stands in its place

pub returns-in-Ok-Ok-clause-placed : goal.returns-in-Ok-Ok-clause-placed
returns-in-Ok-Ok-clause-placed g c =
    let inside : c.loop-place.place < length c.args.keys.now = omega arith in
    let of : g.row.T.Denot → OpeningKey = λ k. opening_key c.args.aad.now (g.T.DerivesStreams.key_of k) in
    let keys = c.args.keys.now in
    let i = c.loop-place.place in
    let b = c.in-Ok-Ok.begun in
    let o = b.opener in
    let seg : ℕ → Bool → List ℕ → List ℕ = numbered (segment_by o.decrypter) o.nonce_size o.prefix.items in
    let told : Option (List ℕ) = g.A.ReadAt.bytes c.args.object.now in
    let key : g.row.T.Denot = c.index-keys-place.result in
    let inv = c.loop-place.invariant in
    let tried = rw c.in-Ok-Ok.field-0-is at c.in-Ok-Ok.ensures.answer in
    let split = key_split keys i key inside c.index-keys-place.is in
    let begins : List ℕ → Type 0 = λ X. Begins (of key) X × IsOpenerOf (of key) X seg b.front o.first o.size o.overhead in
    record {
      inside = inside;
      size_is = λ k at. tried.opened.size_is ∙ ap (λ j. (of j).size) (one_place keys i key k inside c.index-keys-place.is at);
      first = both_told told begins (PlacedFrom of keys i) (λ X. IsChosenInPlace of keys X i)
          (λ X p h. placed_first of keys i key X split p.0 h)
          (subst (λ (r : Option (List ℕ)). IfSome r begins) inv.kept.bytes_are tried.found)
          inv.placed;
    }

pub returns-in-Ok-Ok-clause-taken : goal.returns-in-Ok-Ok-clause-taken
returns-in-Ok-Ok-clause-taken g c =
    let inside : c.loop-place.place < length c.args.keys.now = omega arith in
    let inv = c.loop-place.invariant in
    taken_last _ _ _ c.loop-place.place (length c.args.keys.now) (vec_len c.args.sealed.now) inv.taken
    (subst (λ (n : ℕ). g.A.ReadAt.taken c.try_at.new.object ≤ g.A.ReadAt.taken c.loop-place.object + n) inv.sealed_len c.in-Ok-Ok.ensures.taken) inside

pub returns-in-Err-clause-taken : goal.returns-in-Err-clause-taken
returns-in-Err-clause-taken g c =
    let inside : c.loop-place.place < length c.args.keys.now = omega arith in
    let inv = c.loop-place.invariant in
    taken_last _ _ _ c.loop-place.place (length c.args.keys.now) (vec_len c.args.sealed.now) inv.taken
    (subst (λ (n : ℕ). g.A.ReadAt.taken c.try_at.new.object ≤ g.A.ReadAt.taken c.loop-place.object + n) inv.sealed_len c.in-Err.ensures.taken) inside

pub returns-clause-taken : goal.returns-clause-taken
returns-clause-taken g c = taken_most _ _ c.loop-place.place (length c.args.keys.now) _ c.loop-place.invariant.taken (omega arith)
