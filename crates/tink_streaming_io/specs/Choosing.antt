-- The key of a stream.
use Rattle.std.specs.Prelude.{◌≡◌, ℕ, ◌+◌, ◌≤◌, Bool, List, drop, None, Some, IfSome}
use Rattle.std.specs.declared.option.Option.{Option}
use Rattle.stream_model.specs.Opening.{OpeningKey, IsChosen, front_length, header_of}
use Rattle.tink_io.specs.Faults.{Rose}
use Rattle.tink_io.specs.declared.error.Kind.{Kind}
use Rattle.tink_io.specs.declared.error.Kind.TheVariants.{NoMatchingKey, ReadFault}

-- the sizes of the first and of each later segment, and by how much a segment is longer than its text, are the key's
abbrev pub HasSizesOf : OpeningKey → ℕ → ℕ → ℕ → Type 0
HasSizesOf k first size overhead = (first ≡ k.first) × (size ≡ k.size) × (overhead ≡ k.overhead)

-- the segments are those of the key under the header in the stream's front, with its sizes
pub record IsOpenerOf (k : OpeningKey) (X : List ℕ) (seg : ℕ → Bool → List ℕ → List ℕ) (front first size overhead : ℕ) : Type 0 where
  pub map : k.seg (header_of k X) ≡ Some seg
  pub front_is : front ≡ front_length k
  pub first_is : first ≡ k.first
  pub size_is : size ≡ k.size
  pub overhead_is : overhead ≡ k.overhead
  pub fits : k.header + k.first ≤ k.size

-- the chosen key, and how its stream is opened
pub record Found (ks : List OpeningKey) (X : List ℕ) (seg : ℕ → Bool → List ℕ → List ℕ) (front first size overhead : ℕ) : Type 0 where
  pub key : OpeningKey
  pub chosen : IsChosen ks X (Some key)
  pub opener : IsOpenerOf key X seg front first size overhead

-- the chosen key, how its stream is opened, and that what is left to open is all behind its front
pub record Started (ks : List OpeningKey) (X : List ℕ) (left : Option (List ℕ)) (seg : ℕ → Bool → List ℕ → List ℕ) (first size overhead : ℕ) : Type 0 where
  pub front : ℕ
  pub found : Found ks X seg front first size overhead
  pub rest : left ≡ Some (drop front X)

-- each refusal of a start has its cause
abbrev pub StartRefused : List OpeningKey → Option (List ℕ) → ℕ → ℕ → Kind → Type 0
StartRefused ks told before now NoMatchingKey = IfSome told (λ X. IsChosen ks X None)
StartRefused ks told before now ReadFault = Rose before now
StartRefused ks told before now _ = ⊥
