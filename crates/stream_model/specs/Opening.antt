-- Which streams open, under which of some keys, and to what text: by encryption alone.
use Rattle.std.specs.Prelude.{◌≡◌, ◌⊎◌, ℕ, ◌+◌, ◌-◌, ◌^◌, ◌<◌, ◌≤◌, Bool, true, false, ◌&&◌, nat_eq, List, [], ◌∷◌, ◌++◌, length, take, drop, None, Some, slice_index}
use Rattle.std.specs.List.{starts_with}
use Rattle.std.specs.declared.option.Option.{Option}
use Rattle.stream_model.specs.Cut.{cut}
use Rattle.stream_model.specs.Agree.{AreTexts, Agree}
use Rattle.stream_model.specs.Key.{StreamKey, header_length, first_segment, overhead, keys_of, segment_at}

-- a key as opening sees it, under its associated data: what stands before the header of its streams, the length of a
-- header, the sizes of the first segment and of each later one, their overhead, and its segments under a header, where
-- keys are derived from it
pub record OpeningKey : Type 0 where
  pub out : List ℕ
  pub header : ℕ
  pub first : ℕ
  pub size : ℕ
  pub overhead : ℕ
  pub seg : List ℕ → Option (ℕ → Bool → List ℕ → List ℕ)

abbrev pub under : Option (List ℕ) → (List ℕ → ℕ → Bool → List ℕ → List ℕ) → Option (ℕ → Bool → List ℕ → List ℕ)
under None seg = None
under (Some keys) seg = Some (seg keys)

-- a header is a byte, the salt, and a prefix of seven bytes
abbrev pub opening_key : List ℕ → StreamKey → OpeningKey
opening_key aad k = record {
  out = k.out;
  header = header_length k;
  first = first_segment k;
  size = k.segment;
  overhead = overhead k;
  seg = λ H. under (keys_of k aad (take k.derived (drop 1 H))) (λ keys. segment_at k keys (drop (k.derived + 1) H));
}

-- the bytes of a front, which is what stands before a header, and a header
abbrev pub front_length : OpeningKey → ℕ
front_length k = length k.out + k.header

-- the first bytes are those of a front: what stands before a header, and the byte that tells the header's length
abbrev pub begins_front : OpeningKey → List ℕ → Bool
begins_front k S = starts_with nat_eq S k.out && nat_eq (slice_index S (length k.out)) k.header

-- the stream begins in a front of the key
pub record HasFront (k : OpeningKey) (S : List ℕ) : Type 0 where
  pub long : front_length k ≤ length S
  pub mark : begins_front k S ≡ true

-- the header in the front
abbrev pub header_of : OpeningKey → List ℕ → List ℕ
header_of k S = take k.header (drop (length k.out) S)

-- what is behind the front
abbrev pub behind_front : OpeningKey → List ℕ → List ℕ
behind_front k S = drop (front_length k) S

-- the chunks behind the front
abbrev pub chunks_of : OpeningKey → List ℕ → List (List ℕ)
chunks_of k S = cut k.first k.size (behind_front k S)

-- the longest list of texts whose segments are the leading chunks; no text where no keys are derived
abbrev pub AgreeBy : Option (ℕ → Bool → List ℕ → List ℕ) → List (List ℕ) → List (List ℕ) → Type 0
AgreeBy None chunks texts = texts ≡ []
AgreeBy (Some seg) chunks texts = Agree seg 0 chunks texts

abbrev pub IsAgreed : OpeningKey → List ℕ → List (List ℕ) → Type 0
IsAgreed k S texts = AgreeBy (k.seg (header_of k S)) (chunks_of k S) texts

-- some text's segment is the first chunk
abbrev pub FirstAgrees : Option (ℕ → Bool → List ℕ → List ℕ) → List (List ℕ) → Type 0
FirstAgrees None chunks = ⊥
FirstAgrees (Some seg) chunks = (t : List ℕ) × AreTexts seg 0 chunks (t ∷ [])

-- the stream begins in a front of the key, and some first text agrees
pub record Begins (k : OpeningKey) (S : List ℕ) : Type 0 where
  pub front : HasFront k S
  pub first : FirstAgrees (k.seg (header_of k S)) (chunks_of k S)

-- the first of the keys under which the stream begins
abbrev pub IsChosen : List OpeningKey → List ℕ → Option OpeningKey → Type 0
IsChosen [] S chosen = chosen ≡ None
IsChosen (k ∷ ks) S chosen = (Begins k S × (chosen ≡ Some k)) ⊎ ((Begins k S → ⊥) × IsChosen ks S chosen)

-- the segments of the texts in order, numbered from i: all but the last fill their room, the last fits it, and the last alone is marked
abbrev pub AreSegments : (ℕ → Bool → List ℕ → List ℕ) → ℕ → ℕ → ℕ → List ℕ → List (List ℕ) → Type 0
AreSegments seg i first room X [] = ⊥
AreSegments seg i first room X (t ∷ []) = (i < 2 ^ 32) × (length t ≤ first) × (X ≡ seg i true t)
AreSegments seg i first room X (t ∷ u ∷ ts) = (i < 2 ^ 32) × (length t ≡ first) × ((Y : List ℕ) × (X ≡ seg i false t ++ Y) × AreSegments seg (i + 1) room room Y (u ∷ ts))

abbrev pub AreSegmentsBy : Option (ℕ → Bool → List ℕ → List ℕ) → ℕ → ℕ → List ℕ → List (List ℕ) → Type 0
AreSegmentsBy None first room X texts = ⊥
AreSegmentsBy (Some seg) first room X texts = AreSegments seg 0 first room X texts

-- the stream is a front of the key and then the segments of these texts
pub record IsStream (k : OpeningKey) (S : List ℕ) (texts : List (List ℕ)) : Type 0 where
  pub front : HasFront k S
  pub segments : AreSegmentsBy (k.seg (header_of k S)) (k.first - k.overhead) (k.size - k.overhead) (behind_front k S) texts
