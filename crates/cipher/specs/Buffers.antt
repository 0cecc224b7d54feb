-- What a buffer reads: the input where there is one, and else what stands in the output.
use Rattle.std.specs.Prelude.{ℕ, List, [], ◌-◌, take, drop, length, cond, ◌==◌, slice_index_or}
use Rattle.cipher.specs.declared.buffers.InOutBuf.{InOutBuf}
use Rattle.cipher.specs.declared.buffers.InOut.{InOut}
use Rattle.cipher.specs.declared.buffers.InOutBufReserved.{InOutBufReserved}

-- the input, if it is as long as the output, and else the output
abbrev pub pick : {X : Type 0} → List X → List X → List X
pick input output = cond (length input == length output) input output

-- the first of the input, or what stands in the output
abbrev pub read_of : {X : Type 0} → InOut X → X
read_of b = slice_index_or b.input.now 0 b.output.now

abbrev pub read_all : {X : Type 0} → InOutBuf X → List X
read_all b = pick b.input.now b.output.now

-- the message of a buffer with room: the input, if it has its length, and else a prefix of the output
abbrev pub message_of : {X : Type 0} → InOutBufReserved X → List X
message_of b = pick b.input.now (take b.len b.output.now)

-- what an input of an output of n has at the places from a to before e
abbrev pub part_of : {X : Type 0} → List X → ℕ → ℕ → ℕ → List X
part_of input n a e = cond (length input == n) (take (e - a) (drop a input)) []
