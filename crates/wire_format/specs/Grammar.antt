-- The wire format by cases: which bytes spell which fields (protobuf.dev, "Encoding"). What has no case here is
-- no message: a field that is cut off, number 0, a key of more than 32 bits, the types 3, 4, 6 and 7.
use Rattle.std.specs.Prelude.{◌≡◌, ℕ, ◌+◌, ◌*◌, ◌<◌, ◌≤◌, ◌^◌, List, [], ◌∷◌, ◌++◌, length}

-- what a field holds: a number, eight bytes, as many bytes as their length says, or four bytes
pub data Content : Type 0 where
  Varint : ℕ → Content
  Eight : List ℕ → Content
  Body : List ℕ → Content
  Four : List ℕ → Content

pub record Field : Type 0 where
  pub number : ℕ
  pub content : Content

-- Seven bits in each byte, the lowest first. A byte below 128 is the last. One from 128 on has seven bits, and the
-- bytes after it stand for the rest, which may be 0: a spelling may be longer than its number needs.
abbrev pub StandsFor : List ℕ → ℕ → Type 0
StandsFor [] n = ⊥
StandsFor (b ∷ []) n = (b < 128) × (n ≡ b)
StandsFor (b ∷ c ∷ bytes) n = (high : ℕ) × (128 ≤ b) × (n + 128 ≡ b + 128 * high) × StandsFor (c ∷ bytes) high

-- a varint: ten bytes at most, and a number of 64 bits, so that the tenth byte is at most 1
pub record IsVarint (bytes : List ℕ) (n : ℕ) : Type 0 where
  pub short : length bytes ≤ 10
  pub small : n < 2 ^ 64
  pub value : StandsFor bytes n

-- the type in a field's key; there are no others
abbrev pub type_of : Content → ℕ
type_of (Varint n) = 0
type_of (Eight b) = 1
type_of (Body b) = 2
type_of (Four b) = 5

-- which bytes spell the content
abbrev pub IsContent : List ℕ → Content → Type 0
IsContent bytes (Varint n) = IsVarint bytes n
IsContent bytes (Eight b) = (bytes ≡ b) × (length b ≡ 8)
IsContent bytes (Body b) = (len : List ℕ) × (bytes ≡ len ++ b) × IsVarint len (length b)
IsContent bytes (Four b) = (bytes ≡ b) × (length b ≡ 4)

-- the varint of the key, which is the number and the type in 32 bits, and then the content
pub record IsField (bytes : List ℕ) (f : Field) : Type 0 where
  pub front : List ℕ
  pub rest : List ℕ
  pub whole : bytes ≡ front ++ rest
  pub key : IsVarint front (f.number * 8 + type_of f.content)
  pub small : f.number * 8 + type_of f.content < 2 ^ 32
  pub numbered : 0 < f.number
  pub content : IsContent rest f.content

-- the bytes are these fields, one after the other
abbrev pub AreFields : List ℕ → List Field → Type 0
AreFields bytes [] = bytes ≡ []
AreFields bytes (f ∷ fs) = (front : List ℕ) × (rest : List ℕ) × (bytes ≡ front ++ rest) × IsField front f × AreFields rest fs
