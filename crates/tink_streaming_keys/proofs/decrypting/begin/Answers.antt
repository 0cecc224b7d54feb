use Rattle.std.proofs.Common.{◌≡◌, ◌-◌, ap, take, refl, ◌∙◌, arith}
use Rattle.std.proofs.lemmas.Result.{err_from_is_err_and}
use Rattle.std.specs.Io.KnownBytes.{prepend_known}
use Rattle.tink_streaming_keys.proofs.NewReaderSteps.{header_refused, new_reader, reader_hash_refused}
use Rattle.tink_streaming_keys.proofs.decrypting.begin.Goals as goal

pub returns-in_err-cipher-clause-answer : goal.returns-in_err-cipher-clause-answer
returns-in_err-cipher-clause-answer g c =
    let p = err_from_is_err_and c.from_residual-in_err-cipher.result c.from_residual-in_err-cipher.ensures.1 in
    let k = g.T.DerivesStreams.key_of c.args.key.now in
    rw (p.1, p.2) (reader_hash_refused g.S.Source.left g.S.Source.faults k _ _ _ _ c.in_ok-header.ensures.ok c.in_err-cipher.ensures)

pub returns-clause-answer : goal.returns-clause-answer
returns-clause-answer g c =
    let k = g.T.DerivesStreams.key_of c.args.key.now in
    let n = c.header_length-size.result in
    let salt : n - 7 - 1 ≡ k.derived = omega (arith, c.header_length-size.ensures.value) in
    let s = c.opener_of-opener.ensures in
    let made = c.from_parts.ensures in
    let reader = c.from_parts.result in
    new_reader k c.args.aad.now (g.S.Source.left c.args.source.now) (g.S.Source.left c.read_header.new.source) (take n c.in_ok-header.header) (n - 7 - 1) c.in_ok-cipher.cipher
    reader.opener.decrypter reader.opener.nonce_size reader.opener.prefix.items reader.opener.first reader.opener.size reader.opener.overhead (take reader.filled reader.buffer.items)
    (record {
      progress = reader.progress;
      number = reader.segments;
      pending = reader.opened.items;
      rest = prepend_known (take reader.filled reader.buffer.items) (g.S.Source.left c.read_header.new.source);
      faults = g.S.Source.faults c.read_header.new.source;
    })
    (rw c.header_length-size.ensures.value c.in_ok-header.ensures.ok) salt c.in_ok-cipher.ensures
    (ap (λ x. x.decrypter) made.opener ∙ s.decrypter) (ap (λ x. x.nonce_size) made.opener ∙ s.sizes.nonce_is) (ap (λ x. x.prefix.items) made.opener ∙ s.prefix)
    (ap (λ x. x.first) made.opener ∙ s.sizes.first_is) (ap (λ x. x.size) made.opener ∙ s.sizes.size_is) (ap (λ x. x.overhead) made.opener ∙ s.sizes.overhead_is)
    made.held refl made.progress made.segments made.opened

pub returns-in_err-memory-clause-answer : goal.returns-in_err-memory-clause-answer
returns-in_err-memory-clause-answer g c = let p = err_from_is_err_and c.from_residual.result c.from_residual.ensures.1 in rw (p.1, p.2, c.in_err-memory.ensures.refused) refl

pub returns-in_err-memory-clause-memory : goal.returns-in_err-memory-clause-memory
returns-in_err-memory-clause-memory g c = let p = err_from_is_err_and c.from_residual.result c.from_residual.ensures.1 in rw p.1 tt

pub returns-in_err-memory-clause-later : goal.returns-in_err-memory-clause-later
returns-in_err-memory-clause-later g c = omega arith

pub returns-in_err-memory-clause-same : goal.returns-in_err-memory-clause-same
returns-in_err-memory-clause-same g c = g.met.S.Source.same_refl _

pub returns-in_err-header-clause-answer : goal.returns-in_err-header-clause-answer
returns-in_err-header-clause-answer g c =
    let p = err_from_is_err_and c.from_residual-in_err-header.result c.from_residual-in_err-header.ensures.1 in
    rw (p.1, p.2) (header_refused g.S.Source.left g.S.Source.faults (g.T.DerivesStreams.key_of c.args.key.now) c.args.source.now c.read_header.new.source _ c.in_err-header.ensures.refused)

pub returns-in_err-header-clause-memory : goal.returns-in_err-header-clause-memory
returns-in_err-header-clause-memory g c = let p = err_from_is_err_and c.from_residual-in_err-header.result c.from_residual-in_err-header.ensures.1 in rw p.1 tt

pub returns-in_err-header-clause-later : goal.returns-in_err-header-clause-later
returns-in_err-header-clause-later g c = c.in_err-header.ensures.later

pub returns-in_err-header-clause-same : goal.returns-in_err-header-clause-same
returns-in_err-header-clause-same g c = c.in_err-header.ensures.same

pub returns-in_err-cipher-clause-memory : goal.returns-in_err-cipher-clause-memory
returns-in_err-cipher-clause-memory g c = let p = err_from_is_err_and c.from_residual-in_err-cipher.result c.from_residual-in_err-cipher.ensures.1 in rw p.1 tt

pub returns-in_err-cipher-clause-later : goal.returns-in_err-cipher-clause-later
returns-in_err-cipher-clause-later g c = c.in_ok-header.ensures.later

pub returns-in_err-cipher-clause-same : goal.returns-in_err-cipher-clause-same
returns-in_err-cipher-clause-same g c = c.in_ok-header.ensures.same

pub from_parts-requires-clause-room : goal.from_parts-requires-clause-room
from_parts-requires-clause-room g c =
    let m = c.in_ok-memory.ensures in
    let s = c.opener_of-opener.ensures.sizes in
    record {
      empty = m.text.0;
      text_room = omega (arith, m.text.1, s.size_is);
      sealed_room = omega (arith, m.sealed.0, s.size_is);
      nonce_room = omega (arith, m.nonce.0, s.nonce_is);
    }

pub returns-clause-memory : goal.returns-clause-memory
returns-clause-memory g c = omega (arith, c.from_parts.ensures.memory, c.opener_of-opener.ensures.room, c.in_ok-memory.ensures.text.1, c.in_ok-memory.ensures.sealed.1, c.in_ok-memory.ensures.nonce.1, c.in_ok-memory.ensures.prefix)

pub returns-clause-later : goal.returns-clause-later
returns-clause-later g c = c.in_ok-header.ensures.later

pub returns-clause-same : goal.returns-clause-same
returns-clause-same g c = c.in_ok-header.ensures.same
