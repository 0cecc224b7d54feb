use Rattle.std.proofs.Common.{◌+◌, ◌-◌, List, map, IfSome, refl, ap, subst, ◌∙◌}
use Rattle.std.specs.Prelude.{IfErr, IfOk}
use Rattle.stream_model.specs.Opening.{OpeningKey, opening_key}
use Rattle.tink_io.specs.declared.error.Kind.TheVariants.{OutOfMemory}
use Rattle.tink_streaming_aead.specs.DecryptReaders.{largest}
use Rattle.tink_streaming_keys.specs.StreamKinds.{key_in_set}
use Rattle.tink_streaming_io.specs.Choosing.{Found, StartRefused}
use Rattle.tink_streaming_io.specs.Openers.{segment_map}
use Rattle.tink_range.specs.ChoosingAt.{HasTried}
use Rattle.tink_range.proofs.ObjectSteps.{refusal_leaves, unread}
use Rattle.tink_range.proofs.StartAtFacts.{fused, memory_refused, memory_untried, new_refused, ticks_of}
use Rattle.tink_range.proofs.TakenFacts.{none_taken, taken_as_many}
use Rattle.tink_range.proofs.starting_at.begin_at.Goals as goal

pub returns-in-Ok-reserve-clause-found : goal.returns-in-Ok-reserve-clause-found
returns-in-Ok-reserve-clause-found g c =
    let of = opening_key c.args.aad.now in
    let keys = fused of (λ e. key_in_set e.now) c.deref-in-Ok-reserve.result.now ∙ ap (map of) (ap (map (λ e. key_in_set e.now)) c.deref-in-Ok-reserve.ensures.value ∙ c.in-Ok.ensures.keys) in
    subst (λ (ks : List OpeningKey). IfOk c.start_at.result (λ core. IfSome (g.A.ReadAt.bytes c.args.object.now) (λ S. Found ks S (segment_map core.opener) core.front core.opener.first core.opener.size core.opener.overhead)))
    keys c.start_at.ensures.found

pub returns-in-Ok-reserve-clause-refused : goal.returns-in-Ok-reserve-clause-refused
returns-in-Ok-reserve-clause-refused g c =
    let of = opening_key c.args.aad.now in
    let keys = fused of (λ e. key_in_set e.now) c.deref-in-Ok-reserve.result.now ∙ ap (map of) (ap (map (λ e. key_in_set e.now)) c.deref-in-Ok-reserve.ensures.value ∙ c.in-Ok.ensures.keys) in
    new_refused g.A.ReadAt.bytes g.A.ReadAt.faults (map of c.args.w.now.keys) c.args.object.now c.start_at.new.object c.start_at.result
    (subst (λ (ks : List OpeningKey). IfErr c.start_at.result (λ e. StartRefused ks (g.A.ReadAt.bytes c.args.object.now) (g.A.ReadAt.faults c.args.object.now) (g.A.ReadAt.faults c.start_at.new.object) e.kind)) keys c.start_at.ensures.refused)

pub returns-in-Ok-reserve-clause-tried : goal.returns-in-Ok-reserve-clause-tried
returns-in-Ok-reserve-clause-tried g c =
    let of = opening_key c.args.aad.now in
    let keys = fused of (λ e. key_in_set e.now) c.deref-in-Ok-reserve.result.now ∙ ap (map of) (ap (map (λ e. key_in_set e.now)) c.deref-in-Ok-reserve.ensures.value ∙ c.in-Ok.ensures.keys) in
    subst (λ (ks : List OpeningKey). HasTried c.start_at.result (g.A.ReadAt.bytes c.args.object.now) ks (c.start_at.new.steps - c.args.steps.now)) keys c.start_at.ensures.tried

pub returns-in-Ok-reserve-clause-ticks : goal.returns-in-Ok-reserve-clause-ticks
returns-in-Ok-reserve-clause-ticks g c =
    ticks_of (λ e. key_in_set e.now) c.deref-in-Ok-reserve.result.now c.args.w.now.keys c.args.steps.now c.start_at.new.steps (ap (map (λ e. key_in_set e.now)) c.deref-in-Ok-reserve.ensures.value ∙ c.in-Ok.ensures.keys) c.start_at.ensures.ticks

-- there is no memory for a trial

pub returns-in-Ok-clause-kept : goal.returns-in-Ok-clause-kept
returns-in-Ok-clause-kept g c =
    refusal_leaves g.A.ReadAt.length_of g.A.ReadAt.bytes g.A.ReadAt.faults c.args.object.now c.args.object.now c.in-Err-reserve.e OutOfMemory c.in-Err-reserve.ensures.refused
    (unread g.A.ReadAt.length_of g.A.ReadAt.bytes g.A.ReadAt.faults c.args.object.now) refl

pub returns-in-Ok-clause-same : goal.returns-in-Ok-clause-same
returns-in-Ok-clause-same g c = g.met.A.ReadAt.same_refl c.args.object.now

pub returns-in-Ok-clause-tried : goal.returns-in-Ok-clause-tried
returns-in-Ok-clause-tried g c = memory_untried c.in-Err-reserve.e c.in-Err-reserve.ensures.refused

pub returns-in-Ok-clause-refused : goal.returns-in-Ok-clause-refused
returns-in-Ok-clause-refused g c = memory_refused g.A.ReadAt.bytes g.A.ReadAt.faults (map (opening_key c.args.aad.now) c.args.w.now.keys) c.args.object.now c.in-Err-reserve.e c.in-Err-reserve.ensures.refused

pub returns-in-Ok-reserve-clause-kept : goal.returns-in-Ok-reserve-clause-kept
returns-in-Ok-reserve-clause-kept g c = c.start_at.ensures.kept

pub returns-in-Ok-reserve-clause-same : goal.returns-in-Ok-reserve-clause-same
returns-in-Ok-reserve-clause-same g c = c.start_at.ensures.same

pub returns-in-Ok-reserve-clause-whole : goal.returns-in-Ok-reserve-clause-whole
returns-in-Ok-reserve-clause-whole g c = c.start_at.ensures.whole

-- nor for the entries

pub returns-clause-kept : goal.returns-clause-kept
returns-clause-kept g c =
    refusal_leaves g.A.ReadAt.length_of g.A.ReadAt.bytes g.A.ReadAt.faults c.args.object.now c.args.object.now c.in-Err.e OutOfMemory c.in-Err.ensures.cause
    (unread g.A.ReadAt.length_of g.A.ReadAt.bytes g.A.ReadAt.faults c.args.object.now) refl

pub returns-clause-same : goal.returns-clause-same
returns-clause-same g c = g.met.A.ReadAt.same_refl c.args.object.now

pub returns-clause-tried : goal.returns-clause-tried
returns-clause-tried g c = memory_untried c.in-Err.e c.in-Err.ensures.cause

pub returns-in-Ok-reserve-clause-taken : goal.returns-in-Ok-reserve-clause-taken
returns-in-Ok-reserve-clause-taken g c =
    let are = ap (map (λ e. key_in_set e.now)) c.deref-in-Ok-reserve.ensures.value ∙ c.in-Ok.ensures.keys in
    let first = ap (map (λ e. key_in_set e.now)) c.deref.ensures.value ∙ c.in-Ok.ensures.keys in
    taken_as_many (λ e. key_in_set e.now) c.deref-in-Ok-reserve.result.now c.args.w.now.keys _ _ _ (largest c.args.w.now.keys + 1) are
    (c.in-Ok-reserve.ensures.buffer ∙ c.room_of.ensures.value ∙ ap (λ ks. largest ks + 1) first) c.start_at.ensures.taken

pub returns-in-Ok-clause-taken : goal.returns-in-Ok-clause-taken
returns-in-Ok-clause-taken g c = none_taken _ _

pub returns-clause-taken : goal.returns-clause-taken
returns-clause-taken g c = none_taken _ _
