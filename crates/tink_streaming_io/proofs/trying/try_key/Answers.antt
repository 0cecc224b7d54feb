use Rattle.std.proofs.Common.{◌≡◌, ◌+◌, ◌-◌, ◌∙◌, ℕ, Bool, List, length, take, drop, max, Some, ap, refl, arith}
use Rattle.std.proofs.KnownBytes.{Keeps-trans}
use Rattle.std.proofs.lemmas.List.{length-take}
use Rattle.std.proofs.lemmas.Result.{err_from_is_err_and}
use Rattle.std.specs.declared.option.Option.{Option}
use Rattle.stream_model.specs.Opening.{OpeningKey, Begins, front_length, header_of}
use Rattle.tink_streaming_io.specs.Choosing.{IsOpenerOf}
use Rattle.tink_streaming_segment.specs.Keeping.{kept_bytes, kept_rest}
use Rattle.tink_streaming_io.specs.Openers.{segment_map}
use Rattle.tink_streaming_io.proofs.TrialFacts.{Tried, not_begun, no_further, goes_further, held_from, begun, refused, part_of, trial_means, prefix_kept}
use Rattle.tink_streaming_io.proofs.ChoosingSteps.{both_told}
use Rattle.tink_streaming_io.proofs.trying.try_key.Goals as goal

pub returns-in-Err-clause-answer : goal.returns-in-Err-clause-answer
returns-in-Err-clause-answer g c =
    let k : OpeningKey = g.T.OpensStreams.opening_key c.args.key.now in
    let front : ℕ = length c.output_prefix.result.now + c.header_length-h.result in
    let front_is : front ≡ front_length k = omega (arith, ap length c.output_prefix.ensures.is, c.header_length-h.ensures.is) in
    let old : Option (List ℕ) = kept_rest g.S.Source.left c.args.kept.now c.args.source.now in
    let left : Option (List ℕ) = g.S.Source.left c.keep.new.source in
    let held : List ℕ = kept_bytes c.keep.new.self in
    record {
      none = not_begun k _ old left held (omega (arith, c.header_length-h.ensures.is, c.header_length-h.ensures.long)) c.in_ok-keep.ensures.held (omega (arith, front_is))
          (rw c.deref.ensures.value at c.in-Err.ensures.none);
      rest = c.in_ok-keep.ensures.held.all;
      room = omega (arith, c.in-Err.ensures.room, c.requires.room.prefix_room);
    }

pub returns-clause-answer : goal.returns-clause-answer
returns-clause-answer g c =
    let k : OpeningKey = g.T.OpensStreams.opening_key c.args.key.now in
    let o = c.in-Ok.opener in
    let seg : ℕ → Bool → List ℕ → List ℕ = segment_map o in
    let filled : ℕ = c.keep-2.new.self.filled in
    let front : ℕ = length c.output_prefix.result.now + c.header_length-h.result in
    let front_is : front ≡ front_length k = omega (arith, ap length c.output_prefix.ensures.is, c.header_length-h.ensures.is) in
    let read : front + o.first ≡ front_length k + k.first = omega (arith, front_is, c.in-Ok.ensures.sizes.0) in
    let tried : Tried k (kept_rest g.S.Source.left c.args.kept.now c.args.source.now) (g.S.Source.left c.keep.new.source) (g.S.Source.left c.keep-2.new.source)
    (kept_bytes c.keep.new.self) (kept_bytes c.keep-2.new.self) (take (filled - front) (drop front c.deref-2.result.now)) seg o.first = record {
      some = omega (arith, c.header_length-h.ensures.is, c.header_length-h.ensures.long);
      room = omega (arith, c.first_segment_size.ensures.is, c.first_segment_size.ensures.long);
      fits = omega (arith, c.first_segment_size.ensures.is, c.first_segment_size.ensures.fits);
      before = c.in_ok-keep.ensures.held.all;
      front = rw c.deref.ensures.value at c.in-Ok.ensures.front;
      map = rw c.deref.ensures.value at c.in-Ok.ensures.map;
      held = held_from _ _ _ _ _ c.in_ok-keep.ensures.held.all (rw read at c.in_ok-keep-2.ensures.held);
      long = omega (arith, c.in-Ok.ensures.front.long, ap length c.deref.ensures.value, length-take c.keep.new.self.filled c.deref.result.now, length-take filled c.keep-2.new.self.buffer.items, c.in_ok-keep-2.ensures.more, c.keep-2.new.self.filled_in, c.keep-2.new.self.buffer.ok.0, front_is);
      size_is = c.in-Ok.ensures.sizes.0;
      part_is = part_of front (front_length k) filled c.deref-2.result.now c.keep-2.new.self.buffer.items front_is c.deref-2.ensures.value (omega (arith, front_is, c.in-Ok.ensures.front.long, length-take c.keep.new.self.filled c.deref.result.now, c.in_ok-keep-2.ensures.more));
    } in
    trial_means k (g.T.OpensStreams.nonce_of c.args.key.now) _ _ filled c.open_front-begins.result (record { opener = o; front = front }) c.trial_by.result c.trial_by.ensures
    (λ does.
    let first = begun k _ _ _ _ _ _ seg o.first _ tried (c.open_front-begins.ensures.ok does) in
    record {
      found = both_told (kept_rest g.S.Source.left c.args.kept.now c.args.source.now) (λ X. Begins k X × (k.seg (header_of k X) ≡ Some seg)) (λ X. Begins k X × (k.seg (header_of k X) ≡ Some seg)) (λ X. Begins k X × IsOpenerOf k X seg front o.first o.size o.overhead)
          (λ X b _. (b.0, record { map = b.1; front_is = front_is; first_is = c.in-Ok.ensures.sizes.0; size_is = c.in-Ok.ensures.sizes.1; overhead_is = c.in-Ok.ensures.sizes.2; fits = tried.fits }))
          first first;
      rest = tried.held.all;
      front = omega (arith, front_is, c.in-Ok.ensures.front.long, length-take c.keep.new.self.filled c.deref.result.now, c.in_ok-keep-2.ensures.more);
      size = c.in-Ok.ensures.sizes.1;
      nonce = c.in-Ok.ensures.nonce;
      near = omega (arith, read, tried.fits);
    })
    (λ fails. record {
      none = refused k _ _ _ _ _ _ seg o.first tried (c.open_front-begins.ensures.refused fails);
      rest = tried.held.all;
      room = omega (arith, c.in-Ok.ensures.prefix_room, c.requires.room.prefix_room);
    })

pub keep-requires : goal.keep-requires
keep-requires g c = omega (arith, ap length c.output_prefix.ensures.is, c.header_length-h.ensures.is, c.first_segment_size.ensures.is, c.first_segment_size.ensures.long, c.first_segment_size.ensures.fits, c.requires.room.sealed_room)

pub keep-requires-2 : goal.keep-requires-2
keep-requires-2 g c = omega (arith, ap length c.output_prefix.ensures.is, c.header_length-h.ensures.is, c.first_segment_size.ensures.is, c.first_segment_size.ensures.fits, c.requires.room.sealed_room, c.in-Ok.ensures.sizes.0, c.in_ok-keep.ensures.len)

pub returns-in_err-keep-clause-answer : goal.returns-in_err-keep-clause-answer
returns-in_err-keep-clause-answer g c = let p = err_from_is_err_and c.from_residual.result c.from_residual.ensures.1 in rw p.1 tt

pub returns-in_err-keep-clause-failed : goal.returns-in_err-keep-clause-failed
returns-in_err-keep-clause-failed g c =
    let p = err_from_is_err_and c.from_residual.result c.from_residual.ensures.1 in
    rw p.1 (record { rest = c.in_err-keep.ensures.held; rose = c.in_err-keep.ensures.rose })

pub returns-in_err-keep-clause-most : goal.returns-in_err-keep-clause-most
returns-in_err-keep-clause-most g c = omega (arith, ap length c.output_prefix.ensures.is, c.header_length-h.ensures.is, c.first_segment_size.ensures.is, c.first_segment_size.ensures.long, c.in_err-keep.ensures.most)

pub returns-in_err-keep-clause-further : goal.returns-in_err-keep-clause-further
returns-in_err-keep-clause-further g c =
    let k : OpeningKey = g.T.OpensStreams.opening_key c.args.key.now in
    let old : Option (List ℕ) = kept_rest g.S.Source.left c.args.kept.now c.args.source.now in
    no_further k old (max c.args.kept.now.filled (front_length k + 1)) c.keep.new.self.filled
    (omega (arith, ap length c.output_prefix.ensures.is, c.header_length-h.ensures.is, c.in_err-keep.ensures.most))

pub returns-in_err-keep-clause-room : goal.returns-in_err-keep-clause-room
returns-in_err-keep-clause-room g c =
    let kept = c.in_err-keep.ensures in
    (record { buffers = record { nonce_len = refl; nonce_capacity = refl; capacity = c.clear.ensures.capacity }; len = kept.len; kept_capacity = kept.capacity; more = kept.more }, (let p = err_from_is_err_and c.from_residual.result c.from_residual.ensures.1 in rw p.1 tt))

pub returns-in_err-keep-clause-stays : goal.returns-in_err-keep-clause-stays
returns-in_err-keep-clause-stays g c = (c.in_err-keep.ensures.later, c.in_err-keep.ensures.same)

pub returns-in-Err-clause-failed : goal.returns-in-Err-clause-failed
returns-in-Err-clause-failed g c = tt

pub returns-in-Err-clause-most : goal.returns-in-Err-clause-most
returns-in-Err-clause-most g c = omega (arith, ap length c.output_prefix.ensures.is, c.header_length-h.ensures.is, c.first_segment_size.ensures.is, c.first_segment_size.ensures.long, c.in_ok-keep.ensures.most)

pub returns-in-Err-clause-further : goal.returns-in-Err-clause-further
returns-in-Err-clause-further g c =
    let k : OpeningKey = g.T.OpensStreams.opening_key c.args.key.now in
    let old : Option (List ℕ) = kept_rest g.S.Source.left c.args.kept.now c.args.source.now in
    no_further k old (max c.args.kept.now.filled (front_length k + 1)) c.keep.new.self.filled
    (omega (arith, ap length c.output_prefix.ensures.is, c.header_length-h.ensures.is, c.in_ok-keep.ensures.most))

pub returns-in-Err-clause-room : goal.returns-in-Err-clause-room
returns-in-Err-clause-room g c =
    let kept = c.in_ok-keep.ensures in
    (record { buffers = record { nonce_len = refl; nonce_capacity = refl; capacity = c.clear.ensures.capacity }; len = kept.len; kept_capacity = kept.capacity; more = kept.more }, (c.in-Err.ensures.room))

pub returns-in-Err-clause-stays : goal.returns-in-Err-clause-stays
returns-in-Err-clause-stays g c = (c.in_ok-keep.ensures.later, c.in_ok-keep.ensures.same)

pub returns-in_err-keep-2-clause-answer : goal.returns-in_err-keep-2-clause-answer
returns-in_err-keep-2-clause-answer g c = let p = err_from_is_err_and c.from_residual-in_err-keep-2.result c.from_residual-in_err-keep-2.ensures.1 in rw p.1 tt

pub returns-in_err-keep-2-clause-failed : goal.returns-in_err-keep-2-clause-failed
returns-in_err-keep-2-clause-failed g c =
    let p = err_from_is_err_and c.from_residual-in_err-keep-2.result c.from_residual-in_err-keep-2.ensures.1 in
    let first = c.in_ok-keep.ensures in
    let then = c.in_err-keep-2.ensures in
    let old : Option (List ℕ) = kept_rest g.S.Source.left c.args.kept.now c.args.source.now in
    let between : Option (List ℕ) = kept_rest g.S.Source.left c.keep.new.self c.keep.new.source in
    let new : Option (List ℕ) = kept_rest g.S.Source.left c.keep-2.new.self c.keep-2.new.source in
    rw p.1 (record { rest = Keeps-trans old between new first.held.all then.held; rose = omega (arith, first.later, then.rose) })

pub returns-in_err-keep-2-clause-most : goal.returns-in_err-keep-2-clause-most
returns-in_err-keep-2-clause-most g c = omega (arith, ap length c.output_prefix.ensures.is, c.header_length-h.ensures.is, c.first_segment_size.ensures.is, c.first_segment_size.ensures.long, c.in-Ok.ensures.sizes.0, c.in_ok-keep.ensures.most, c.in_err-keep-2.ensures.most)

pub returns-in_err-keep-2-clause-further : goal.returns-in_err-keep-2-clause-further
returns-in_err-keep-2-clause-further g c =
    let k : OpeningKey = g.T.OpensStreams.opening_key c.args.key.now in
    let old : Option (List ℕ) = kept_rest g.S.Source.left c.args.kept.now c.args.source.now in
    let left : Option (List ℕ) = g.S.Source.left c.keep.new.source in
    goes_further k old left (kept_bytes c.keep.new.self) (segment_map c.in-Ok.opener) (max c.args.kept.now.filled (front_length k + 1)) c.keep-2.new.self.filled
    (omega (arith, c.header_length-h.ensures.is, c.header_length-h.ensures.long)) c.in_ok-keep.ensures.held.all
    (rw c.deref.ensures.value at c.in-Ok.ensures.front) (rw c.deref.ensures.value at c.in-Ok.ensures.map)

pub returns-in_err-keep-2-clause-room : goal.returns-in_err-keep-2-clause-room
returns-in_err-keep-2-clause-room g c =
    let first = c.in_ok-keep.ensures in
    let then = c.in_err-keep-2.ensures in
    (record { buffers = record { nonce_len = refl; nonce_capacity = refl; capacity = c.clear.ensures.capacity }; len = then.len ∙ first.len; kept_capacity = then.capacity ∙ first.capacity; more = omega (arith, first.more, then.more) }, (let p = err_from_is_err_and c.from_residual-in_err-keep-2.result c.from_residual-in_err-keep-2.ensures.1 in rw p.1 tt))

pub returns-in_err-keep-2-clause-stays : goal.returns-in_err-keep-2-clause-stays
returns-in_err-keep-2-clause-stays g c = (omega (arith, c.in_ok-keep.ensures.later, c.in_err-keep-2.ensures.later), g.met.S.Source.same_trans _ _ _ c.in_ok-keep.ensures.same c.in_err-keep-2.ensures.same)

pub open_front-begins-requires-clause-room : goal.open_front-begins-requires-clause-room
open_front-begins-requires-clause-room g c = omega (arith, c.in-Ok.ensures.sizes.1, c.requires.room.text_room, c.clear.ensures.capacity)

pub open_front-begins-requires-clause-nonce : goal.open_front-begins-requires-clause-nonce
open_front-begins-requires-clause-nonce g c = omega (arith, c.in-Ok.ensures.nonce, c.requires.room.nonce_room)

pub returns-clause-failed : goal.returns-clause-failed
returns-clause-failed g c = tt

pub returns-clause-most : goal.returns-clause-most
returns-clause-most g c = omega (arith, ap length c.output_prefix.ensures.is, c.header_length-h.ensures.is, c.first_segment_size.ensures.is, c.first_segment_size.ensures.long, c.in-Ok.ensures.sizes.0, c.in_ok-keep.ensures.most, c.in_ok-keep-2.ensures.most)

pub returns-clause-further : goal.returns-clause-further
returns-clause-further g c =
    let k : OpeningKey = g.T.OpensStreams.opening_key c.args.key.now in
    let old : Option (List ℕ) = kept_rest g.S.Source.left c.args.kept.now c.args.source.now in
    let left : Option (List ℕ) = g.S.Source.left c.keep.new.source in
    goes_further k old left (kept_bytes c.keep.new.self) (segment_map c.in-Ok.opener) (max c.args.kept.now.filled (front_length k + 1)) c.keep-2.new.self.filled
    (omega (arith, c.header_length-h.ensures.is, c.header_length-h.ensures.long)) c.in_ok-keep.ensures.held.all
    (rw c.deref.ensures.value at c.in-Ok.ensures.front) (rw c.deref.ensures.value at c.in-Ok.ensures.map)

pub returns-clause-room : goal.returns-clause-room
returns-clause-room g c =
    let first = c.in_ok-keep.ensures in
    let then = c.in_ok-keep-2.ensures in
    let tried = c.open_front-begins.ensures.room in
    (record { buffers = record { nonce_len = tried.nonce_len; nonce_capacity = tried.nonce_capacity; capacity = c.clear-2.ensures.capacity ∙ tried.capacity ∙ c.clear.ensures.capacity }; len = then.len ∙ first.len; kept_capacity = then.capacity ∙ first.capacity; more = omega (arith, first.more, then.more) }, (prefix_kept c.open_front-begins.result (record { opener = c.in-Ok.opener; front = length c.output_prefix.result.now + c.header_length-h.result }) c.trial_by.result _ c.in-Ok.ensures.prefix_room c.trial_by.ensures))

pub returns-clause-stays : goal.returns-clause-stays
returns-clause-stays g c = (omega (arith, c.in_ok-keep.ensures.later, c.in_ok-keep-2.ensures.later), g.met.S.Source.same_trans _ _ _ c.in_ok-keep.ensures.same c.in_ok-keep-2.ensures.same)

pub returns-in_err-keep-clause-opened : goal.returns-in_err-keep-clause-opened
returns-in_err-keep-clause-opened g c = c.clear.ensures.items

pub returns-in-Err-clause-opened : goal.returns-in-Err-clause-opened
returns-in-Err-clause-opened g c = c.clear.ensures.items

pub returns-in_err-keep-2-clause-opened : goal.returns-in_err-keep-2-clause-opened
returns-in_err-keep-2-clause-opened g c = c.clear.ensures.items

pub returns-clause-opened : goal.returns-clause-opened
returns-clause-opened g c = c.clear-2.ensures.items
