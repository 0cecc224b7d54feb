-- What the trial of one key after another answers.
use Rattle.std.specs.Prelude.{◌≡◌, ◌≤◌, ◌<◌, ◌+◌, ◌-◌, ℕ, List, [], ◌∷◌, All, length, max, Bool, true, false, Vec, None, Some, IfSome, vec_len, vec_capacity}
use Rattle.std.specs.declared.option.Option.{Option}
use Rattle.std.specs.Io.KnownBytes.{Keeps}
use Rattle.stream_model.specs.Opening.{OpeningKey, Begins, HasFront, IsChosen, front_length, header_of}
use Rattle.tink_io.specs.Faults.{Rose}
use Rattle.tink_io.specs.Taken.{LosesAtMost}
use Rattle.tink_streaming_segment.specs.declared.segment_traits.SegmentDecrypter.{Ghosts}
use Rattle.tink_streaming_io.specs.Choosing.{IsOpenerOf, Found}
use Rattle.tink_streaming_io.specs.Openers.{segment_map}
use Rattle.tink_streaming_segment.specs.declared.kept.Kept.{Kept}
use Rattle.tink_streaming_io.specs.declared.trying.Begun.{Begun}
use Rattle.tink_streaming_io.specs.declared.trying.KeyTrial.{KeyTrial}
use Rattle.tink_streaming_io.specs.declared.trying.KeyTrial.TheVariants.{Begins as BeginsUnder, Differs}

-- the stream does not begin under the key, none of its bytes is lost, and the memory of a prefix is handed back
pub record DoesNotBegin {Z : Type 0} (k : OpeningKey) (old new : Option (List ℕ)) (prefix : Vec ℕ Z) : Type 0 where
  pub none : IfSome old (λ X. Begins k X → ⊥)
  pub rest : Keeps old new
  pub room : 7 ≤ vec_capacity prefix

-- the stream begins in a front of the key, from whose header keys are derived
pub record MayBegin (k : OpeningKey) (X : List ℕ) : Type 0 where
  pub front : HasFront k X
  pub derived : k.seg (header_of k X) ≡ None → ⊥

-- the longest front of some keys
abbrev pub longest_front : List OpeningKey → ℕ
longest_front [] = 0
longest_front (k ∷ ks) = max (front_length k) (longest_front ks)

-- the stream begins in a front of none of these keys, but for those from whose headers no keys are derived
abbrev pub BeginsInNone : List OpeningKey → List ℕ → Type 0
BeginsInNone ks X = All (λ k. MayBegin k X → ⊥) ks

-- so no more was read than the longest front and a byte, of which so many bytes were kept already
abbrev pub ReadsFronts : List OpeningKey → ℕ → Option (List ℕ) → Option (List ℕ) → List ℕ → Type 0
ReadsFronts ks filled before after X = BeginsInNone ks X → LosesAtMost (longest_front ks + 1 - filled) before after

-- the source failed, and none of its bytes is lost
pub record TrialFailed (old new : Option (List ℕ)) (before after : ℕ) : Type 0 where
  pub rest : Keeps old new
  pub rose : Rose before after

-- the stream begins under none of the keys, and none of its bytes is lost
pub record IsOfNone (ks : List OpeningKey) (old new : Option (List ℕ)) : Type 0 where
  pub chosen : IfSome old (λ X. IsChosen ks X None)
  pub rest : Keeps old new

module _ {D : Type 0} {g : Ghosts D} where
  -- the stream begins under the key and is opened so, none of its bytes is lost, its front is kept, and with the first
  -- segment it is no longer than an output prefix and a segment
  pub record DoesBegin (k : OpeningKey) (nonce_size : ℕ) (old new : Option (List ℕ)) (filled : ℕ) (b : Begun D g) : Type 0 where
    pub found : IfSome old (λ X. Begins k X × IsOpenerOf k X (segment_map b.opener) b.front b.opener.first b.opener.size b.opener.overhead)
    pub rest : Keeps old new
    pub front : b.front ≤ filled
    pub size : b.opener.size ≡ k.size
    pub nonce : b.opener.nonce_size ≡ nonce_size
    pub near : b.front + b.opener.first ≤ length k.out + k.size

  -- the stream begins first under this key of those and is opened so, none of its bytes is lost, its front is kept,
  -- and a segment, its nonce and its text have room, and so has a byte more than the front and the first segment
  pub record IsOfFirst {Z : Type 0} (ks : List OpeningKey) (old new : Option (List ℕ)) (kept : Kept) (nonces texts : Vec ℕ Z) (b : Begun D g) : Type 0 where
    pub found : IfSome old (λ X. Found ks X (segment_map b.opener) b.front b.opener.first b.opener.size b.opener.overhead)
    pub rest : Keeps old new
    pub front : b.front ≤ kept.filled
    pub size : b.opener.size < vec_len kept.buffer
    pub nonce : b.opener.nonce_size ≤ vec_len nonces
    pub text : b.opener.size ≤ vec_capacity texts
    pub near : b.front + b.opener.first < vec_len kept.buffer

  -- what the trial of a key answers where the source did not fail
  abbrev pub TrialMeans : OpeningKey → ℕ → Option (List ℕ) → Option (List ℕ) → ℕ → KeyTrial D g → Type 0
  TrialMeans k nonce_size old new filled (BeginsUnder b) = DoesBegin k nonce_size old new filled b
  TrialMeans k nonce_size old new filled (Differs prefix) = DoesNotBegin k old new prefix

  -- the trial whose first segment opens, or does not
  abbrev pub IsTrialBy : Bool → Begun D g → KeyTrial D g → Type 0
  IsTrialBy begins b (BeginsUnder x) = (begins ≡ true) × (x ≡ b)
  IsTrialBy begins b (Differs prefix) = (begins ≡ false) × (prefix ≡ b.opener.prefix)

  -- the memory of a nonce prefix, in the opener or handed back, has so many bytes
  abbrev pub HasPrefixRoom : ℕ → KeyTrial D g → Type 0
  HasPrefixRoom n (BeginsUnder b) = vec_capacity b.opener.prefix ≡ n
  HasPrefixRoom n (Differs prefix) = vec_capacity prefix ≡ n

  -- what the choice of a key answers where the source did not fail
  abbrev pub ChoiceMeans : {Z : Type 0} → List OpeningKey → Option (List ℕ) → Option (List ℕ) → Kept → Vec ℕ Z → Vec ℕ Z → Option (Begun D g) → Type 0
  ChoiceMeans ks old new kept nonces texts (Some b) = IsOfFirst ks old new kept nonces texts b
  ChoiceMeans ks old new kept nonces texts None = IsOfNone ks old new
