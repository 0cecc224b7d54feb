-- The key of an object's stream.
use Rattle.std.specs.Prelude.{◌≡◌, ◌⊎◌, ℕ, zero, suc, ◌+◌, ◌≤◌, ◌<◌, Bool, ◌&&◌, nat_lt, is_some, if◌then◌else◌, List, [], ◌∷◌, length, get_or, Option, None, IfSome, Result, Ok, Err}
use Rattle.tink_io.specs.Faults.{Rose}
use Rattle.tink_io.specs.declared.error.Kind.{Kind}
use Rattle.tink_io.specs.declared.error.Kind.TheVariants.{NoMatchingKey, OutOfMemory, ReadFault}
use Rattle.tink_io.specs.declared.error.TinkError.{TinkError}
use Rattle.stream_model.specs.Opening.{Begins, IsChosen, OpeningKey, begins_front, front_length, header_of}
use Rattle.tink_streaming_io.specs.Choosing.{Found, IsOpenerOf}

-- whether the first segment of a stream is opened to try a key: the stream begins in a front of the key and goes on, and
-- keys are derived from its header
abbrev pub is_tried : OpeningKey → List ℕ → Bool
is_tried k S = nat_lt (front_length k) (length S) && (begins_front k S && is_some (k.seg (header_of k S)))

abbrev pub one_if : Bool → ℕ
one_if b = if b then 1 else 0

-- so many of the keys are tried, up to the first one under which the stream begins
abbrev pub Tries : List OpeningKey → List ℕ → ℕ → Type 0
Tries [] S n = n ≡ 0
Tries (k ∷ ks) S n = (Begins k S × (n ≡ 1)) ⊎ ((Begins k S → ⊥) × ((m : ℕ) × (n ≡ one_if (is_tried k S) + m) × Tries ks S m))

-- the first of the keys under which the stream begins stands in this place of the list
abbrev pub IsChosenInPlace : {K : Type 0} → (K → OpeningKey) → List K → List ℕ → ℕ → Type 0
IsChosenInPlace of [] S place = ⊥
IsChosenInPlace of (k ∷ ks) S zero = Begins (of k) S
IsChosenInPlace of (k ∷ ks) S (suc place) = (Begins (of k) S → ⊥) × IsChosenInPlace of ks S place

-- the place of the chosen key, of whose segments a whole one has so many bytes
pub record IsPlaced {K : Type 0} (of : K → OpeningKey) (keys : List K) (all : Option (List ℕ)) (place size : ℕ) : Type 0 where
  pub inside : place < length keys
  pub size_is : (k : K) → k ≡ get_or keys place k → size ≡ (of k).size
  pub first : IfSome all (λ S. IsChosenInPlace of keys S place)

-- how the segments of a stream under a key are opened: the map, the bytes of a nonce, and the sizes
pub record OpenedBy (k : OpeningKey) (nonce first size over nonce_bytes : ℕ) : Type 0 where
  pub first_is : first ≡ k.first
  pub size_is : size ≡ k.size
  pub overhead_is : over ≡ k.overhead
  pub nonce_is : nonce_bytes ≡ nonce

-- the stream begins under the key, and is opened so, in one step
pub record DoesBeginAt (k : OpeningKey) (nonce length_of : ℕ) (all : Option (List ℕ)) (seg : ℕ → Bool → List ℕ → List ℕ) (front first size over nonce_bytes before now : ℕ) : Type 0 where
  pub found : IfSome all (λ S. Begins k S × IsOpenerOf k S seg front first size over)
  pub opened : OpenedBy k nonce first size over nonce_bytes
  pub front_is : front ≡ front_length k
  pub inside : front < length_of
  pub ticked : now ≡ before + 1

-- the stream does not begin under the key, and there was a step where its first segment was opened to see this
pub record DoesNotBeginAt (k : OpeningKey) (all : Option (List ℕ)) (before now memory : ℕ) : Type 0 where
  pub none : IfSome all (λ S. Begins k S → ⊥)
  pub ticked : IfSome all (λ S. now ≡ before + one_if (is_tried k S))
  pub room : 7 ≤ memory

-- the key that is chosen, how its stream is opened, and that some bytes are behind its front
pub record IsFirstAt (ks : List OpeningKey) (length_of : ℕ) (all : Option (List ℕ)) (seg : ℕ → Bool → List ℕ → List ℕ) (front first size over : ℕ) : Type 0 where
  pub found : IfSome all (λ S. Found ks S seg front first size over)
  pub inside : front < length_of

-- each refusal of a new reader of ranges
abbrev pub NewRefused : {A : Type 0} → (A → Option (List ℕ)) → (A → ℕ) → List OpeningKey → A → A → Kind → Type 0
NewRefused bytes faults ks old new OutOfMemory = new ≡ old
NewRefused bytes faults ks old new ReadFault = Rose (faults old) (faults new)
NewRefused bytes faults ks old new NoMatchingKey = IfSome (bytes old) (λ S. IsChosen ks S None)
NewRefused bytes faults ks old new _ = ⊥

-- where a key was chosen or none, so many were tried
abbrev pub HasTried : {T : Type 0} → Result T TinkError → Option (List ℕ) → List OpeningKey → ℕ → Type 0
HasTried (Ok _) all ks n = IfSome all (λ S. Tries ks S n)
HasTried (Err e) all ks n = e.kind ≡ NoMatchingKey → IfSome all (λ S. Tries ks S n)
