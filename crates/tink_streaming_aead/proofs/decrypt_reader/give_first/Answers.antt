use Rattle.std.proofs.Common.{◌≡◌, ◌∙◌, ℕ, Bool, List, length, map, refl, sym, arith, vec_len}
use Rattle.std.proofs.lemmas.Result.{err_from_is_err_and}
use Rattle.std.proofs.lemmas.Simd.{map-map}
use Rattle.stream_model.specs.Opening.{opening_key}
use Rattle.tink_streaming_keys.specs.StreamKinds.{key_in_set}
use Rattle.tink_streaming_io.specs.Openers.{segment_map, text_moment}
use Rattle.tink_streaming_io.specs.TextReading.{TextMoment, ReadRefused}
use Rattle.tink_streaming_aead.proofs.DecryptSteps.{first_moment, first_refused, fresh_gives, fresh_refused, reads_more, reads_near, start_refused, started_fronts, unread}
use Rattle.tink_streaming_aead.proofs.decrypt_reader.give_first.Goals as goal

pub returns-in_err-reader-clause-answer : goal.returns-in_err-reader-clause-answer
returns-in_err-reader-clause-answer g c =
    let p = err_from_is_err_and c.from_residual.result c.from_residual.ensures.1 in
    let choice = c.args.choice in
    let keys : map (λ k. opening_key choice.data.items (key_in_set k)) choice.keys.items ≡ map (opening_key choice.data.items) (map key_in_set choice.keys.items) = sym (map-map (opening_key choice.data.items) key_in_set choice.keys.items) in
    let told = unread choice.trial.kept.filled choice.trial.kept.buffer.items (g.S.Source.left c.args.source.now) choice.unread in
    let refused = rw told at (rw (c.deref.ensures.value, c.deref-2.ensures.value) at c.in_err-reader.ensures.refused) in
    rw (p.1, p.2) (refl, start_refused _ _ _ _ _ (rw keys at refused))

pub returns-in-Ok-clause-answer : goal.returns-in-Ok-clause-answer
returns-in-Ok-clause-answer g c =
    let choice = c.args.choice in
    let keys : map (λ k. opening_key choice.data.items (key_in_set k)) choice.keys.items ≡ map (opening_key choice.data.items) (map key_in_set choice.keys.items) = sym (map-map (opening_key choice.data.items) key_in_set choice.keys.items) in
    let told = unread choice.trial.kept.filled choice.trial.kept.buffer.items (g.S.Source.left c.args.source.now) choice.unread in
    let started = rw told at (rw (c.deref.ensures.value, c.deref-2.ensures.value) at c.in_ok-reader.ensures.started) in
    let fresh = c.in_ok-reader.ensures.fresh in
    let reader = c.in_ok-reader.reader in
    let m : TextMoment = first_moment g.S.Source.left g.S.Source.faults reader c.start.new.source in
    let o = reader.opener in
    let seg : ℕ → Bool → List ℕ → List ℕ = segment_map o in
    let n : TextMoment = text_moment g.S.Source.left g.S.Source.faults c.read.new.self c.read.new.source in
    rw c.read.ensures.keeps.0 (record {
      rest = m.rest;
      chosen = rw keys at started;
      faults = m.faults;
      gave = fresh_gives seg o.first o.size m n c.args.buf.now c.read.new.buf c.in-Ok.n fresh.0 fresh.1 fresh.2 c.in-Ok.ensures.answer;
    })

pub returns : goal.returns
returns g c =
    let choice = c.args.choice in
    let keys : map (λ k. opening_key choice.data.items (key_in_set k)) choice.keys.items ≡ map (opening_key choice.data.items) (map key_in_set choice.keys.items) = sym (map-map (opening_key choice.data.items) key_in_set choice.keys.items) in
    let told = unread choice.trial.kept.filled choice.trial.kept.buffer.items (g.S.Source.left c.args.source.now) choice.unread in
    let started = rw told at (rw (c.deref.ensures.value, c.deref-2.ensures.value) at c.in_ok-reader.ensures.started) in
    let fresh = c.in_ok-reader.ensures.fresh in
    let reader = c.in_ok-reader.reader in
    let o = reader.opener in
    let seg : ℕ → Bool → List ℕ → List ℕ = segment_map o in
    let m : TextMoment = first_moment g.S.Source.left g.S.Source.faults reader c.start.new.source in
    let n : TextMoment = text_moment g.S.Source.left g.S.Source.faults c.read.new.self c.read.new.source in
    let kind = c.in-Err.e.kind in
    let refused : ReadRefused seg o.first o.size o.overhead m n (length c.args.buf.now) kind = c.in-Err.ensures.answer.1 in
    record {
      answer = (
        c.in-Err.ensures.answer.0,
        rw (c.new.ensures, c.first_refusal.ensures) (first_refused _ (g.S.Source.left c.args.source.now) m.rest seg o.first o.size o.overhead (g.S.Source.faults c.args.source.now) m.faults (length c.args.buf.now) n kind (rw keys at started) c.start.ensures.stays.0
            (fresh_refused seg o.first o.size o.overhead m n (length c.args.buf.now) kind fresh.0 fresh.1 fresh.2 refused)),
      );
      within = tt;
      room = tt;
      memory = tt;
      read = reads_near (vec_len choice.trial.kept.buffer) choice.trial.kept.filled reader (g.S.Source.left c.args.source.now) (g.S.Source.left c.start.new.source) (g.S.Source.left c.read.new.source) fresh.1 fresh.3
          c.in_ok-reader.ensures.read.1 c.read.ensures.read;
      fronts = started_fronts _ (g.S.Source.left c.args.source.now) m.rest (g.S.Source.left c.args.source.now) (g.S.Source.left c.read.new.source) seg o.first o.size o.overhead (rw keys at started);
      at_end = tt;
      later = omega (arith, c.start.ensures.stays.0, c.read.ensures.stays.0);
      same = g.met.S.Source.same_trans _ _ _ c.start.ensures.stays.1 c.read.ensures.stays.1;
    }

pub returns-in_err-reader-clause-within : goal.returns-in_err-reader-clause-within
returns-in_err-reader-clause-within g c = let p = err_from_is_err_and c.from_residual.result c.from_residual.ensures.1 in rw p.1 tt

pub returns-in_err-reader-clause-room : goal.returns-in_err-reader-clause-room
returns-in_err-reader-clause-room g c = let p = err_from_is_err_and c.from_residual.result c.from_residual.ensures.1 in rw p.1 tt

pub returns-in_err-reader-clause-memory : goal.returns-in_err-reader-clause-memory
returns-in_err-reader-clause-memory g c = let p = err_from_is_err_and c.from_residual.result c.from_residual.ensures.1 in rw p.1 tt

pub returns-in_err-reader-clause-at_end : goal.returns-in_err-reader-clause-at_end
returns-in_err-reader-clause-at_end g c = let p = err_from_is_err_and c.from_residual.result c.from_residual.ensures.1 in rw p.1 tt

pub returns-in_err-reader-clause-read : goal.returns-in_err-reader-clause-read
returns-in_err-reader-clause-read g c = reads_more _ _ (g.S.Source.left c.args.source.now) (g.S.Source.left c.start.new.source) (omega arith) c.start.ensures.read.0

pub returns-in_err-reader-clause-later : goal.returns-in_err-reader-clause-later
returns-in_err-reader-clause-later g c = c.in_err-reader.ensures.stays.0

pub returns-in_err-reader-clause-same : goal.returns-in_err-reader-clause-same
returns-in_err-reader-clause-same g c = c.in_err-reader.ensures.stays.1

pub returns-in-Ok-clause-within : goal.returns-in-Ok-clause-within
returns-in-Ok-clause-within g c = c.in-Ok.ensures.within

pub returns-in-Ok-clause-room : goal.returns-in-Ok-clause-room
returns-in-Ok-clause-room g c = c.read.ensures.keeps.1 ∙ c.in_ok-reader.ensures.fresh.3

pub returns-in-Ok-clause-memory : goal.returns-in-Ok-clause-memory
returns-in-Ok-clause-memory g c = c.read.ensures.keeps.2 ∙ c.in_ok-reader.ensures.memory

pub returns-in-Ok-clause-read : goal.returns-in-Ok-clause-read
returns-in-Ok-clause-read g c =
    let kept = c.args.choice.trial.kept in
    let fresh = c.in_ok-reader.ensures.fresh in
    reads_near (vec_len kept.buffer) kept.filled c.in_ok-reader.reader (g.S.Source.left c.args.source.now) (g.S.Source.left c.start.new.source) (g.S.Source.left c.read.new.source) fresh.1 fresh.3
    c.in_ok-reader.ensures.read.1 c.read.ensures.read

pub returns-in-Ok-clause-at_end : goal.returns-in-Ok-clause-at_end
returns-in-Ok-clause-at_end g c = c.read.ensures.at_end

pub returns-in-Ok-clause-later : goal.returns-in-Ok-clause-later
returns-in-Ok-clause-later g c = omega (arith, c.start.ensures.stays.0, c.read.ensures.stays.0)

pub returns-in-Ok-clause-same : goal.returns-in-Ok-clause-same
returns-in-Ok-clause-same g c = g.met.S.Source.same_trans _ _ _ c.start.ensures.stays.1 c.read.ensures.stays.1

pub returns-in-Ok-clause-fronts : goal.returns-in-Ok-clause-fronts
returns-in-Ok-clause-fronts g c = tt

pub returns-in_err-reader-clause-fronts : goal.returns-in_err-reader-clause-fronts
returns-in_err-reader-clause-fronts g c =
    let p = err_from_is_err_and c.from_residual.result c.from_residual.ensures.1 in
    let choice = c.args.choice in
    let keys : map (λ k. opening_key choice.data.items (key_in_set k)) choice.keys.items ≡ map (opening_key choice.data.items) (map key_in_set choice.keys.items) = sym (map-map (opening_key choice.data.items) key_in_set choice.keys.items) in
    let told = unread choice.trial.kept.filled choice.trial.kept.buffer.items (g.S.Source.left c.args.source.now) choice.unread in
    let fronts = rw told at (rw (c.deref.ensures.value, c.deref-2.ensures.value) at c.in_err-reader.ensures.further) in
    rw p.1 (rw (keys, choice.unread) at fronts)
