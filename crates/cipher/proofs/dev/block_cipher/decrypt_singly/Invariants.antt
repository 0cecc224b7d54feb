use Rattle.std.proofs.Common.{◌≡◌, ◌++◌, map, take, drop}
use Rattle.cipher.proofs.dev.block_cipher.decrypt_singly.Given as goal

abbrev pub invariant-loop-i : goal.invariant-loop-i
invariant-loop-i g l = l.blocks ≡ map (g.C.BlockCipherDecrypt.decrypts l.cipher) (take l.i l.initial.blocks) ++ drop l.i l.initial.blocks
