-- SIV (RFC 5297, 2008), over one-block maps on 16 bytes, with one component of associated data, which may be empty.
use Rattle.std.specs.Prelude.{ℕ, ◌-◌, List, ◌++◌, length, take, drop, set, replicate, slice_index, bit_and, nat_lt, if◌then◌else◌}
use Rattle.std.specs.Int.{w128}
use Rattle.standards.specs.Lists.{xor_bytes}
use Rattle.standards.specs.Counter.{ctr, plus_be}
use Rattle.standards.specs.Blocks.{bit_padded}
use Rattle.standards.specs.Cmac.{cmac, double_block}

-- D after the data: dbl (CMAC (zero)) xor CMAC (data) (2.4)
unfoldable pub s2v_data : (List ℕ → List ℕ) → List ℕ → List ℕ
s2v_data E aad = xor_bytes (double_block (cmac E (replicate 16 0))) (cmac E aad)

-- xorend: d xor the last 16 bytes of the text (2.1, 2.4)
abbrev pub xor_end : List ℕ → List ℕ → List ℕ
xor_end text d = take (length text - 16) text ++ xor_bytes (drop (length text - 16) text) d

-- T: the text xorend D, or dbl (D) xor the padded text where it is shorter than a block (2.4)
abbrev pub s2v_last : List ℕ → List ℕ → List ℕ
s2v_last d text = if nat_lt (length text) 16 then xor_bytes (double_block d) (bit_padded text) else xor_end text d

-- S2V of the data and the text (2.4)
unfoldable pub s2v : (List ℕ → List ℕ) → List ℕ → List ℕ → List ℕ
s2v E aad text = cmac E (s2v_last (s2v_data E aad) text)

-- Q: V with the top bits of bytes 8 and 12 cleared (2.6)
abbrev pub siv_counter : List ℕ → List ℕ
siv_counter v =
    let q = set v 8 (bit_and (slice_index v 8) 0x7f) in
    set q 12 (bit_and (slice_index q 12) 0x7f)

-- V and the ciphertext (2.6); Emac is of the key's first half, and Ectr of its second
unfoldable pub siv : (List ℕ → List ℕ) → (List ℕ → List ℕ) → List ℕ → List ℕ → List ℕ
siv Emac Ectr aad text =
    let v = s2v Emac aad text in
    v ++ ctr Ectr (plus_be w128) (siv_counter v) text
