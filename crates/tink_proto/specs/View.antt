-- The fields of the code without where their bytes lie in memory.
use Rattle.wire_format.specs.Grammar.{Content as Held, Field as Spelled}
use Rattle.wire_format.specs.Grammar.Content.{Varint as HeldVarint, Eight as HeldEight, Body as HeldBody, Four as HeldFour}
use Rattle.tink_proto.specs.declared.wire.reading.Content.{Content}
use Rattle.tink_proto.specs.declared.wire.reading.Content.TheVariants.{Varint, Eight, Body, Four}
use Rattle.tink_proto.specs.declared.wire.reading.Field.{Field}

abbrev pub content_of : Content → Held
content_of (Varint n) = HeldVarint n
content_of (Eight b) = HeldEight b.now
content_of (Body b) = HeldBody b.now
content_of (Four b) = HeldFour b.now

abbrev pub field_of : Field → Spelled
field_of f = record { number = f.number; content = content_of f.content }
