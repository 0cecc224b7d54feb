use Rattle.std.proofs.Common.{◌≡◌, ◌+◌, ◌*◌, ◌<◌, ◌∙◌, ap, refl, arith}
use Rattle.cipher_stream.specs.ByteStream.{bytes_from}
use Rattle.cipher_stream.proofs.SoughtPlaces.{at_end, past_end, false_is, place_joins, room_of}
use Rattle.cipher_stream.proofs.wrapper.seeking.BufferedCoreArrayU8StreamCipherSeek.try_seek.Goals as goal

pub returns-clause-ok : goal.returns-clause-ok
returns-clause-ok g c =
    let told = c.in_ok-block.ensures in
    let within =
    at_end (g.N.SeekNum.place c.args.pos) g.row.B (g.T.Counter.StreamCipherCounter.value c.in_ok-block.block) c.in_ok-block.byte g.T.Counter.StreamCipherCounter.most (omega (arith, g.met.T.StreamCipherCore.block_size)) told.value.0 told.value.1 (told.ok.0 refl)
    c.seek_to.ensures.further in
    ((λ _. within), (λ _. refl))

pub returns-clause-ahead : goal.returns-clause-ahead
returns-clause-ahead g c = λ n j e.
    let told = c.in_ok-block.ensures in
    let n_of = g.T.Counter.StreamCipherCounter.value in
    let s = bytes_from g.row.B (g.T.StreamCipherCore.keystream c.args.self.now.0) c.args.self.now.1 in
    ◌∙◌ {b = s.byte_at (n_of c.in_ok-block.block * g.row.B + c.in_ok-block.byte + j)} (c.seek_to.ensures.ahead j)
    (ap (λ m. s.byte_at (m + j)) (place_joins (g.N.SeekNum.place c.args.pos) g.row.B n (n_of c.in_ok-block.block) c.in_ok-block.byte e told.value.0 told.value.1))

pub returns-then-is_max-clause-ok : goal.returns-then-is_max-clause-ok
returns-then-is_max-clause-ok g c =
    let told = c.in_ok-block.ensures in
    let some : 0 < c.in_ok-block.byte = omega arith in
    let last : g.T.Counter.StreamCipherCounter.value c.in_ok-block.block ≡ g.T.Counter.StreamCipherCounter.most = c.if-is_max.ensures.value.0 refl in (
      (λ e. absurd (false_is e)),
      (λ h. absurd (past_end (g.N.SeekNum.place c.args.pos) g.row.B (g.T.Counter.StreamCipherCounter.value c.in_ok-block.block) c.in_ok-block.byte g.T.Counter.StreamCipherCounter.most (omega (arith, g.met.T.StreamCipherCore.block_size)) told.value.0 told.value.1 last some h)),
    )

pub returns-clause-left : goal.returns-clause-left
returns-clause-left g c = λ n m e.
    let told = c.in_ok-block.ensures in
    room_of g.row.B g.T.StreamCipherSeekCore.remaining_at _ _ _ n m (place_joins (g.N.SeekNum.place c.args.pos) g.row.B n (g.T.Counter.StreamCipherCounter.value c.in_ok-block.block) c.in_ok-block.byte e told.value.0 told.value.1)
    c.seek_to.ensures.left c.seek_to.ensures.rest

pub returns-clause-same : goal.returns-clause-same
returns-clause-same g c = c.seek_to.ensures.same
