use Rattle.std.proofs.Common.{◌≤◌, ◌<◌, ◌+◌, ℕ, Bool, List, length, All, map, refl, le_refl, sym, subst, ◌∙◌, vec_len, vec_capacity, arith}
use Rattle.std.proofs.lemmas.List.Elements.{All-get_or}
use Rattle.std.specs.declared.option.Option.{Option}
use Rattle.std.proofs.KnownBytes.{Keeps-refl, Keeps-trans}
use Rattle.std.proofs.lemmas.Result.{err_from_is_err_and}
use Rattle.tink_io.proofs.FaultLemmas.{Rose-earlier}
use Rattle.stream_model.specs.Key.{StreamKey, nonce_size}
use Rattle.stream_model.specs.Opening.{OpeningKey, Begins, opening_key}
use Rattle.tink_streaming_io.specs.Choosing.{Found, IsOpenerOf}
use Rattle.tink_streaming_io.specs.Keeping.{kept_rest}
use Rattle.tink_streaming_io.specs.Openers.{segment_map}
use Rattle.tink_streaming_io.proofs.ChoosingSteps.{ChosenFrom, all_left, key_split, pass_over, take_key, both_told, keeps_none, keeps_tried, read_kept, reads_fronts, told_before}
use Rattle.tink_streaming_keys.proofs.choosing.choose.Goals as goal

pub returns-in-Begins-clause-answer : goal.returns-in-Begins-clause-answer
returns-in-Begins-clause-answer g c =
    let of : g.row.T.Denot → OpeningKey = λ k. opening_key c.args.aad.now (g.T.DerivesStreams.key_of k) in
    let keys = c.args.keys.now in
    let b = c.in-Begins.begun in
    let o = b.opener in
    let seg : ℕ → Bool → List ℕ → List ℕ = segment_map o in
    let told : Option (List ℕ) = kept_rest g.S.Source.left c.args.kept.now c.args.source.now in
    let key : g.row.T.Denot = c.key-item.result in
    let inv = c.loop-key.invariant in
    let called = c.in_ok-begun.ensures in
    let tried = rw c.in-Begins.is at called.answer in
    let keyed : g.row.T.Denot → StreamKey = g.T.DerivesStreams.key_of in
    let so : (P : g.row.T.Denot → Type 0) → All P keys → P key = λ P h. subst P (sym c.key-item.is) (All-get_or P keys c.loop-key.key-index key (omega arith) h) in
    let sealed : length (keyed key).out + (keyed key).segment < vec_len c.args.kept.now.buffer = so (λ k. length (keyed k).out + (keyed k).segment < vec_len c.args.kept.now.buffer) c.requires.room.sealed_room in
    let nonce : nonce_size (keyed key) ≤ vec_len c.args.nonce.now = so (λ k. nonce_size (keyed k) ≤ vec_len c.args.nonce.now) c.requires.room.nonce_room in
    let text : (keyed key).segment ≤ vec_capacity c.args.opened.now = so (λ k. (keyed k).segment ≤ vec_capacity c.args.opened.now) c.requires.room.text_room in
    let split = key_split keys c.loop-key.key-index key (omega arith) c.key-item.is in
    record {
      found = both_told told (λ X. Begins (of key) X × IsOpenerOf (of key) X seg b.front o.first o.size o.overhead) (ChosenFrom of keys c.loop-key.key-index) (λ X. Found (map of keys) X seg b.front o.first o.size o.overhead)
          (λ X p h. record { key = of key; chosen = take_key of keys c.loop-key.key-index key X split p.0 h; opener = p.1 })
          (told_before told _ (λ X. Begins (of key) X × IsOpenerOf (of key) X seg b.front o.first o.size o.overhead) inv.rest tried.found)
          inv.chosen;
      rest = Keeps-trans _ _ _ inv.rest tried.rest;
      front = tried.front;
      size = omega (arith, tried.size, sealed, called.room.0.len, inv.len);
      near = omega (arith, tried.near, sealed, called.room.0.len, inv.len);
      nonce = omega (arith, tried.nonce, nonce, called.room.0.buffers.nonce_len, inv.nonce_len);
      text = omega (arith, tried.size, text, called.room.0.buffers.capacity, inv.capacity);
    }

pub returns-in-Begins-clause-read : goal.returns-in-Begins-clause-read
returns-in-Begins-clause-read g c =
    let inv = c.loop-key.invariant in
    let called = c.in_ok-begun.ensures in
    let tried = rw c.in-Begins.is at called.answer in
    read_kept g.S.Source.left c.args.kept.now c.try_key.new.kept c.args.source.now c.try_key.new.source (Keeps-trans _ _ _ inv.rest tried.rest) (omega (arith, called.room.0.more, inv.more)) (called.room.0.len ∙ inv.len)

pub returns-in_err-begun-clause-read : goal.returns-in_err-begun-clause-read
returns-in_err-begun-clause-read g c =
    let inv = c.loop-key.invariant in
    let called = c.in_err-begun.ensures in
    read_kept g.S.Source.left c.args.kept.now c.try_key.new.kept c.args.source.now c.try_key.new.source (Keeps-trans _ _ _ inv.rest called.failed.rest) (omega (arith, called.room.0.more, inv.more)) (called.room.0.len ∙ inv.len)

pub returns-clause-read : goal.returns-clause-read
returns-clause-read g c =
    let inv = c.loop-key.invariant in
    read_kept g.S.Source.left c.args.kept.now c.loop-key.kept c.args.source.now c.loop-key.source inv.rest inv.more inv.len

pub returns-in_err-begun-clause-failed : goal.returns-in_err-begun-clause-failed
returns-in_err-begun-clause-failed g c =
    let p = err_from_is_err_and c.from_residual.result c.from_residual.ensures.1 in
    let inv = c.loop-key.invariant in
    let failed = c.in_err-begun.ensures.failed in
    rw p.1 (record { rest = Keeps-trans _ _ _ inv.rest failed.rest; rose = Rose-earlier _ _ _ inv.later failed.rose })

pub loop-key-init : goal.loop-key-init
loop-key-init g c =
    let of : g.row.T.Denot → OpeningKey = λ k. opening_key c.args.aad.now (g.T.DerivesStreams.key_of k) in
    let told : Option (List ℕ) = kept_rest g.S.Source.left c.args.kept.now c.args.source.now in
    record {
      len = refl;
      nonce_len = refl;
      capacity = c.clear.ensures.capacity;
      kept_capacity = refl;
      nonce_capacity = refl;
      more = le_refl _;
      prefix_capacity = refl;
      rest = Keeps-refl told;
      chosen = all_left of c.args.keys.now told;
      further = keeps_none told (map of c.args.keys.now) c.args.kept.now.filled;
      empty = c.clear.ensures.items;
      later = le_refl _;
      same = g.met.S.Source.same_refl _;
    }

pub loop-key-preserved : goal.loop-key-preserved
loop-key-preserved g c =
    let of : g.row.T.Denot → OpeningKey = λ k. opening_key c.args.aad.now (g.T.DerivesStreams.key_of k) in
    let keys = c.args.keys.now in
    let told : Option (List ℕ) = kept_rest g.S.Source.left c.args.kept.now c.args.source.now in
    let key : g.row.T.Denot = c.key-item.result in
    let inv = c.loop-key.invariant in
    let called = c.in_ok-begun.ensures in
    let tried = rw c.in-Differs.is at called.answer in
    let split = key_split keys c.loop-key.key-index key (omega arith) c.key-item.is in
    record {
      len = called.room.0.len ∙ inv.len;
      nonce_len = called.room.0.buffers.nonce_len ∙ inv.nonce_len;
      capacity = called.room.0.buffers.capacity ∙ inv.capacity;
      kept_capacity = called.room.0.kept_capacity ∙ inv.kept_capacity;
      nonce_capacity = called.room.0.buffers.nonce_capacity ∙ inv.nonce_capacity;
      more = omega (arith, called.room.0.more, inv.more);
      prefix_capacity = (rw c.in-Differs.is at called.room.1) ∙ inv.prefix_capacity;
      rest = Keeps-trans _ _ _ inv.rest tried.rest;
      chosen = both_told told (λ X. Begins (of key) X → ⊥) (ChosenFrom of keys c.loop-key.key-index) (ChosenFrom of keys (c.loop-key.key-index + 1))
          (λ X other h. pass_over of keys c.loop-key.key-index key X split other h)
          (told_before told _ (λ X. Begins (of key) X → ⊥) inv.rest tried.none)
          inv.chosen;
      further = keeps_tried of keys c.loop-key.key-index key c.args.kept.now.filled c.loop-key.kept.filled c.try_key.new.kept.filled told _ (omega arith) c.key-item.is inv.rest inv.further called.further;
      empty = called.opened;
      later = omega (arith, called.stays.0, inv.later);
      same = g.met.S.Source.same_trans _ _ _ inv.same called.stays.1;
    }

pub try_key-requires : goal.try_key-requires
try_key-requires g c =
    let keys = c.args.keys.now in
    let key : g.row.T.Denot = c.key-item.result in
    let inv = c.loop-key.invariant in
    let keyed : g.row.T.Denot → StreamKey = g.T.DerivesStreams.key_of in
    let so : (P : g.row.T.Denot → Type 0) → All P keys → P key = λ P h. subst P (sym c.key-item.is) (All-get_or P keys c.loop-key.key-index key (omega arith) h) in
    let sealed : length (keyed key).out + (keyed key).segment < vec_len c.args.kept.now.buffer = so (λ k. length (keyed k).out + (keyed k).segment < vec_len c.args.kept.now.buffer) c.requires.room.sealed_room in
    let nonce : nonce_size (keyed key) ≤ vec_len c.args.nonce.now = so (λ k. nonce_size (keyed k) ≤ vec_len c.args.nonce.now) c.requires.room.nonce_room in
    let text : (keyed key).segment ≤ vec_capacity c.args.opened.now = so (λ k. (keyed k).segment ≤ vec_capacity c.args.opened.now) c.requires.room.text_room in
    record {
      room = record {
        sealed_room = omega (arith, sealed, inv.len);
        text_room = omega (arith, text, inv.capacity);
        nonce_room = omega (arith, nonce, inv.nonce_len);
        prefix_room = omega (arith, c.requires.room.prefix_room, inv.prefix_capacity);
      };
    }

pub returns-in-Begins-clause-failed : goal.returns-in-Begins-clause-failed
returns-in-Begins-clause-failed g c = tt

pub returns-in-Begins-clause-room : goal.returns-in-Begins-clause-room
returns-in-Begins-clause-room g c =
    let inv = c.loop-key.invariant in
    let called = c.in_ok-begun.ensures.room.0 in
    record {
      buffers = record { nonce_len = called.buffers.nonce_len ∙ inv.nonce_len; nonce_capacity = called.buffers.nonce_capacity ∙ inv.nonce_capacity; capacity = called.buffers.capacity ∙ inv.capacity };
      len = called.len ∙ inv.len;
      kept_capacity = called.kept_capacity ∙ inv.kept_capacity;
      more = omega (arith, called.more, inv.more);
    }

pub returns-in-Begins-clause-prefix : goal.returns-in-Begins-clause-prefix
returns-in-Begins-clause-prefix g c = (rw c.in-Begins.is at c.in_ok-begun.ensures.room.1) ∙ c.loop-key.invariant.prefix_capacity

pub returns-in-Begins-clause-later : goal.returns-in-Begins-clause-later
returns-in-Begins-clause-later g c = omega (arith, c.in_ok-begun.ensures.stays.0, c.loop-key.invariant.later)

pub returns-in-Begins-clause-same : goal.returns-in-Begins-clause-same
returns-in-Begins-clause-same g c = g.met.S.Source.same_trans _ _ _ c.loop-key.invariant.same c.in_ok-begun.ensures.stays.1

pub returns-in_err-begun-clause-answer : goal.returns-in_err-begun-clause-answer
returns-in_err-begun-clause-answer g c = let p = err_from_is_err_and c.from_residual.result c.from_residual.ensures.1 in rw p.1 tt

pub returns-in_err-begun-clause-room : goal.returns-in_err-begun-clause-room
returns-in_err-begun-clause-room g c =
    let inv = c.loop-key.invariant in
    let called = c.in_err-begun.ensures.room.0 in
    record {
      buffers = record { nonce_len = called.buffers.nonce_len ∙ inv.nonce_len; nonce_capacity = called.buffers.nonce_capacity ∙ inv.nonce_capacity; capacity = called.buffers.capacity ∙ inv.capacity };
      len = called.len ∙ inv.len;
      kept_capacity = called.kept_capacity ∙ inv.kept_capacity;
      more = omega (arith, called.more, inv.more);
    }

pub returns-in_err-begun-clause-prefix : goal.returns-in_err-begun-clause-prefix
returns-in_err-begun-clause-prefix g c = let p = err_from_is_err_and c.from_residual.result c.from_residual.ensures.1 in rw p.1 tt

pub returns-in_err-begun-clause-later : goal.returns-in_err-begun-clause-later
returns-in_err-begun-clause-later g c = omega (arith, c.in_err-begun.ensures.stays.0, c.loop-key.invariant.later)

pub returns-in_err-begun-clause-same : goal.returns-in_err-begun-clause-same
returns-in_err-begun-clause-same g c = g.met.S.Source.same_trans _ _ _ c.loop-key.invariant.same c.in_err-begun.ensures.stays.1

pub returns-clause-failed : goal.returns-clause-failed
returns-clause-failed g c = tt

pub returns-clause-room : goal.returns-clause-room
returns-clause-room g c =
    let inv = c.loop-key.invariant in
    record {
      buffers = record { nonce_len = inv.nonce_len; nonce_capacity = inv.nonce_capacity; capacity = inv.capacity };
      len = inv.len;
      kept_capacity = inv.kept_capacity;
      more = inv.more;
    }

pub returns-clause-prefix : goal.returns-clause-prefix
returns-clause-prefix g c = tt

pub returns-clause-later : goal.returns-clause-later
returns-clause-later g c = c.loop-key.invariant.later

pub returns-clause-same : goal.returns-clause-same
returns-clause-same g c = c.loop-key.invariant.same

pub returns-in-Begins-clause-further : goal.returns-in-Begins-clause-further
returns-in-Begins-clause-further g c =
    let of : g.row.T.Denot → OpeningKey = λ k. opening_key c.args.aad.now (g.T.DerivesStreams.key_of k) in
    let keys = c.args.keys.now in
    let old = c.args.kept.now in
    let new = c.try_key.new.kept in
    let told : Option (List ℕ) = kept_rest g.S.Source.left old c.args.source.now in
    let key : g.row.T.Denot = c.key-item.result in
    let inv = c.loop-key.invariant in
    let called = c.in_ok-begun.ensures in
    let tried = rw c.in-Begins.is at called.answer in
    reads_fronts g.S.Source.left (map of keys) old new c.args.source.now c.try_key.new.source (Keeps-trans _ _ _ inv.rest tried.rest) (omega (arith, called.room.0.more, inv.more))
    (keeps_tried of keys c.loop-key.key-index key old.filled c.loop-key.kept.filled new.filled told _ (omega arith) c.key-item.is inv.rest inv.further called.further)

pub returns-in-Begins-clause-opened : goal.returns-in-Begins-clause-opened
returns-in-Begins-clause-opened g c = c.in_ok-begun.ensures.opened

pub returns-in_err-begun-clause-further : goal.returns-in_err-begun-clause-further
returns-in_err-begun-clause-further g c =
    let of : g.row.T.Denot → OpeningKey = λ k. opening_key c.args.aad.now (g.T.DerivesStreams.key_of k) in
    let keys = c.args.keys.now in
    let old = c.args.kept.now in
    let new = c.try_key.new.kept in
    let told : Option (List ℕ) = kept_rest g.S.Source.left old c.args.source.now in
    let key : g.row.T.Denot = c.key-item.result in
    let inv = c.loop-key.invariant in
    let called = c.in_err-begun.ensures in
    reads_fronts g.S.Source.left (map of keys) old new c.args.source.now c.try_key.new.source (Keeps-trans _ _ _ inv.rest called.failed.rest) (omega (arith, called.room.0.more, inv.more))
    (keeps_tried of keys c.loop-key.key-index key old.filled c.loop-key.kept.filled new.filled told _ (omega arith) c.key-item.is inv.rest inv.further called.further)

pub returns-in_err-begun-clause-opened : goal.returns-in_err-begun-clause-opened
returns-in_err-begun-clause-opened g c = c.in_err-begun.ensures.opened

pub returns-clause-further : goal.returns-clause-further
returns-clause-further g c =
    let inv = c.loop-key.invariant in
    reads_fronts g.S.Source.left _ c.args.kept.now c.loop-key.kept c.args.source.now c.loop-key.source inv.rest inv.more inv.further

pub returns-clause-opened : goal.returns-clause-opened
returns-clause-opened g c = c.loop-key.invariant.empty
