use Rattle.std.proofs.Common.{◌≡◌, ◌≤◌, ◌<◌, ◌-◌, take, length, get_or, refl, sym, subst, ◌∙◌, arith}
use Rattle.std.proofs.lemmas.List.{length-take, length-take-le}
use Rattle.stream_model.specs.Key.{header_length}
use Rattle.tink_streaming_keys.specs.Decrypting.{ReadsHeader}
use Rattle.tink_streaming_keys.proofs.NewReaderSteps.{consumed, front_byte, header_part, other_header, short_header}
use Rattle.tink_streaming_keys.proofs.decrypting.read_header.Goals as goal

pub returns-in_default-clause-refused : goal.returns-in_default-clause-refused
returns-in_default-clause-refused g c =
    let k = g.T.DerivesStreams.key_of c.args.key.now in
    let few : c.header_length-size.result - 0 ≤ header_length k = omega (arith, c.header_length-size.ensures.value) in
    rw c.new.ensures (header_part k _ _ _ _ _ c.in_default.ensures.rose few c.fill.ensures.read)

pub returns-then-n-size-clause-refused : goal.returns-then-n-size-clause-refused
returns-then-n-size-clause-refused g c =
    let k = g.T.DerivesStreams.key_of c.args.key.now in
    let n = c.fill.new.filled in
    let buffer = c.fill.new.buffer in
    let short : n < c.header_length-size.result = omega (arith, c.if-n-size.true) in
    let few : length (take n buffer) < header_length k = omega (arith, length-take n buffer, short, c.header_length-size.ensures.value) in
    rw c.new-then-n-size.ensures (short_header k _ _ _ (take n buffer) refl c.fill.ensures.rest few (c.in-Ok.ensures.end short))

pub returns-then-from-size-clause-refused : goal.returns-then-from-size-clause-refused
returns-then-from-size-clause-refused g c =
    let k = g.T.DerivesStreams.key_of c.args.key.now in
    let n = c.fill.new.filled in
    let buffer = c.fill.new.buffer in
    let whole : n ≡ header_length k = omega (arith, c.fill.ensures.within, c.if-n-size.false, c.header_length-size.ensures.value) in
    let some : 0 < n = omega (arith, whole) in
    let long : length (take n buffer) ≡ header_length k = length-take-le n buffer (omega arith) ∙ whole in
    rw c.new-then-from-size.ensures (other_header k _ _ _ (take n buffer) refl c.fill.ensures.rest long (λ e. let mark = sym (front_byte n buffer some) ∙ e in omega (arith, mark, c.if-from-size.true, c.from.ensures, c.header_length-size.ensures.value)))

pub returns-clause-ok : goal.returns-clause-ok
returns-clause-ok g c =
    let k = g.T.DerivesStreams.key_of c.args.key.now in
    let n = c.fill.new.filled in
    let buffer = c.fill.new.buffer in
    let whole : n ≡ header_length k = omega (arith, c.fill.ensures.within, c.if-n-size.false, c.header_length-size.ensures.value) in
    let some : 0 < n = omega (arith, whole) in
    let long : length (take n buffer) ≡ header_length k = length-take-le n buffer (omega arith) ∙ whole in
    let mark : get_or buffer 0 0 ≡ header_length k = omega (arith, c.if-from-size.false, c.from.ensures, c.header_length-size.ensures.value) in
    subst (λ m. ReadsHeader k (g.S.Source.left c.args.source.now) (g.S.Source.left c.fill.new.source) (take m buffer)) whole
    (record { long = long; mark = front_byte n buffer some ∙ mark; read = consumed _ _ _ (take n buffer) refl c.fill.ensures.rest })
