use Rattle.std.proofs.Common.{length, ap, arith}
use Rattle.tink_streaming_keys.proofs.DecrypterFacts.{opens_behind}
use Rattle.tink_streaming_keys.proofs.behind_front.opener_behind.Goals as goal

pub front_opener-requires-clause-front : goal.front_opener-requires-clause-front
front_opener-requires-clause-front g c = omega (arith, ap length c.output_prefix.ensures, c.header_length.ensures.value)

pub returns-clause-opens : goal.returns-clause-opens
returns-clause-opens g c =
    let made = c.front_opener.ensures in
    opens_behind _ _ c.args.held.now c.front_opener.result made.front made.map made.sizes made.nonce

pub returns-clause-prefix : goal.returns-clause-prefix
returns-clause-prefix g c = c.front_opener.ensures.prefix_room

pub returns-clause-none : goal.returns-clause-none
returns-clause-none g c = c.front_opener.ensures.none

pub returns-clause-room : goal.returns-clause-room
returns-clause-room g c = c.front_opener.ensures.room
