-- What the tests of stream ciphers by vectors answer.
use Rattle.std.specs.Prelude.{◌≡◌, ◌≢◌, ℕ, ◌+◌, ◌<◌, List, Option, None, Some, Result, Ok, Err, if◌then◌else◌, ◌==◌, ◌&&◌, length, take, codes, ◌⊎◌}
use Rattle.std.specs.Borrow.{Bor}
use Rattle.cipher.specs.BlockVectors.{Reports}
use Rattle.cipher_stream.specs.Keystream.{xored}
use Rattle.cipher_stream.specs.ByteStream.{ByteStream, to_come}
use Rattle.cipher_stream.specs.declared.dev.stream.TestVector.{TestVector}

-- the first i bytes are left, one after the other, and give the wanted ones
pub record Passes (s : ByteStream) (has : ℕ → Type 0) (from wanted : List ℕ) (i : ℕ) : Type 0 where
  pub left : (j : ℕ) → j < i → has (j + 1)
  pub gives : xored (to_come s) (take i from) ≡ take i wanted

-- the bytes are not left, or they give others
abbrev pub Fault : ByteStream → (ℕ → Type 0) → List ℕ → List ℕ → ℕ → ℕ → List ℕ → Type 0
Fault s has from wanted i n text =
    ((text ≡ codes "end of keystream reached") × (has (i + n) → ⊥))
    ⊎ ((text ≡ codes "ciphertext mismatch") × has (i + n) × (xored (to_come s) (take (i + n) from) ≢ take (i + n) wanted))

-- of one piece
abbrev pub PieceTold : ByteStream → (ℕ → Type 0) → List ℕ → List ℕ → Result (Unit {0}) (Bor (List ℕ)) → Type 0
PieceTold s has from wanted (Ok _) = has (length from) × (xored (to_come s) from ≡ wanted)
PieceTold s has from wanted (Err text) =
    ((text.now ≡ codes "end of keystream reached") × (has (length from) → ⊥))
    ⊎ ((text.now ≡ codes "ciphertext mismatch") × has (length from) × (xored (to_come s) from ≢ wanted))

-- byte by byte: all pass, or some pass and the next one has a fault
abbrev pub BytesTold : ByteStream → (ℕ → Type 0) → List ℕ → List ℕ → Result (Unit {0}) (Bor (List ℕ)) → Type 0
BytesTold s has from wanted (Ok _) = Passes s has from wanted (length from)
BytesTold s has from wanted (Err text) = (i : ℕ) × (i < length from) × Passes s has from wanted i × Fault s has from wanted i 1 text.now

-- the lengths of text and ciphertext; a key of K bytes, an initialization vector of I
abbrev pub size_fault : ℕ → ℕ → TestVector → Option (List ℕ)
size_fault K I v =
    if length v.plaintext.now == length v.ciphertext.now then
    (if length v.key.now == K && length v.iv.now == I then None
    else Some (codes "cipher initialization failure"))
    else Some (codes "mismatch of plaintext and ciphertext lengths")

-- a fault of the sizes, or else what the bytes tell
abbrev pub OrElse : Option (List ℕ) → Result (Unit {0}) (Bor (List ℕ)) → Type 0 → Type 0
OrElse (Some text) result told = Reports result (Some text)
OrElse None result told = told

abbrev pub VectorTold : {C : Type 0} → ℕ → ℕ → (List ℕ → List ℕ → C) → (C → ByteStream) → (C → ℕ → Type 0) → TestVector → Result (Unit {0}) (Bor (List ℕ)) → Type 0
VectorTold K I keyed stream has v result =
    OrElse (size_fault K I v) result
    (BytesTold (stream (keyed v.key.now v.iv.now)) (has (keyed v.key.now v.iv.now)) v.plaintext.now v.ciphertext.now result)
