-- The blocks that AES is asked for under a stream's derived key.
use Rattle.std.specs.Prelude.{◌≡◌, ◌<◌, ◌≤◌, ◌+◌, ◌/◌, ◌^◌, ℕ, zero, suc, Bool, List, [], ◌++◌, length, take, drop, get_or, replicate}
use Rattle.std.specs.Int.{w32, w64, to_be_bytes}
use Rattle.hash_keys.specs.Hash.{hmac_of}
use Rattle.standards.specs.AesKeys.{aes}
use Rattle.standards.specs.Counter.{plus_be}
use Rattle.standards.specs.Ghash.{ghash}
use Rattle.standards.specs.Lists.{xor_bytes}
use Rattle.stream_model.specs.Cut.{chunks, nonce}
use Rattle.stream_model.specs.Key.{SegmentKind, StreamKey, IsUsable, first_room, nonce_size_of, room, segment_of}
use Rattle.stream_model.specs.Key.SegmentKind.{CtrHmac, Gcm}
use Rattle.stream_model.specs.Sealing.{chunk_count}

-- the zero block, from which GCM has its hash key
abbrev pub zero_block : List ℕ
zero_block = replicate 16 0

-- the blocks of a text, a part block counted
abbrev pub block_count : List ℕ → ℕ
block_count text = (length text + 15) / 16

-- block j of segment i: in counter mode the nonce with j added in its last eight bytes; by GCM the nonce and j + 1 in
-- four bytes, block 0 being the one that covers the tag
abbrev pub block_of : SegmentKind → List ℕ → ℕ → Bool → ℕ → List ℕ
block_of (CtrHmac hash tag) prefix i last j = plus_be w64 (nonce 16 prefix i last) j
block_of Gcm prefix i last j = nonce 12 prefix i last ++ to_be_bytes w32 (j + 1)

-- the segment of the text asks for its block j
abbrev pub AsksFor : SegmentKind → List ℕ → ℕ → Type 0
AsksFor (CtrHmac hash tag) text j = j < block_count text
AsksFor Gcm text j = j ≤ block_count text

-- E of the first n of these blocks, joined
abbrev pub enciphered : (List ℕ → List ℕ) → (ℕ → List ℕ) → ℕ → List ℕ
enciphered E blocks zero = []
enciphered E blocks (suc n) = enciphered E blocks n ++ E (blocks n)

-- a text's segment, from these blocks under the derived keys, and by GCM from the zero block
abbrev pub segment_from : SegmentKind → ℕ → List ℕ → List ℕ → (ℕ → List ℕ) → List ℕ → List ℕ
segment_from (CtrHmac hash tag) derived keys n blocks text =
    let c = xor_bytes text (enciphered (aes (take derived keys)) blocks (block_count text)) in
    c ++ take tag (hmac_of hash (drop derived keys) (n ++ c))
segment_from Gcm derived keys n blocks text =
    let c = xor_bytes text (enciphered (aes keys) (λ j. blocks (j + 1)) (block_count text)) in
    c ++ xor_bytes (ghash (aes keys zero_block) [] c) (aes keys (blocks 0))

-- the stream of the text asks for block j of segment i
pub record IsAsked (k : StreamKey) (text : List ℕ) (i j : ℕ) : Type 0 where
  pub segment : i < chunk_count k text
  pub block : AsksFor k.kind (get_or (chunks (first_room k) (room k) text) i []) j

-- ---- what the laws say

-- a segment asks for its own blocks and no others, besides the zero block
abbrev pub AsksForItsOwn : Type 0
AsksForItsOwn =
    (kind : SegmentKind) (derived : ℕ) (keys prefix : List ℕ) (i : ℕ) (last : Bool) (text : List ℕ)
    → length prefix ≡ 7 → length text < 2 ^ 32
    → segment_of kind derived keys (nonce (nonce_size_of kind) prefix i last) text
    ≡ segment_from kind derived keys (nonce (nonce_size_of kind) prefix i last) (block_of kind prefix i last) text

-- a block of a stream is that of one segment by its number and mark, and of one place in it
abbrev pub BlocksDiffer : Type 0
BlocksDiffer =
    (kind : SegmentKind) (prefix text other : List ℕ) (i m j n : ℕ) (last final : Bool)
    → length prefix ≡ 7 → i < 2 ^ 32 → m < 2 ^ 32 → length text < 2 ^ 32 → length other < 2 ^ 32
    → AsksFor kind text j → AsksFor kind other n
    → block_of kind prefix i last j ≡ block_of kind prefix m final n → (i ≡ m) × (last ≡ final) × (j ≡ n)

-- so no two blocks of a text's stream are equal, whichever segments are marked
abbrev pub StreamBlocksDiffer : Type 0
StreamBlocksDiffer =
    (k : StreamKey) (prefix text : List ℕ) (marks : ℕ → Bool) (i m j n : ℕ)
    → IsUsable k → length prefix ≡ 7 → chunk_count k text ≤ 2 ^ 32 → IsAsked k text i j → IsAsked k text m n
    → block_of k.kind prefix i (marks i) j ≡ block_of k.kind prefix m (marks m) n → (i ≡ m) × (j ≡ n)

-- by GCM none is the zero block
abbrev pub NoneIsZero : Type 0
NoneIsZero =
    (prefix text : List ℕ) (i j : ℕ) (last : Bool) → length prefix ≡ 7 → length text < 2 ^ 32 → AsksFor Gcm text j
    → block_of Gcm prefix i last j ≡ zero_block → ⊥
