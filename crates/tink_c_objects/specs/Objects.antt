-- What an object answers, and what a call leaves in it.
use Rattle.std.specs.Prelude.{◌≡◌, ◌⊎◌, ℕ, List, Option, Some, Result, Ok, Err}
use Rattle.std.specs.Global.{Box}
use Rattle.tink_io.specs.declared.error.Kind.{Kind}
use Rattle.tink_io.specs.declared.error.Kind.TheVariants.{Closed, OutOfMemory}
use Rattle.tink_io.specs.declared.error.TinkError.{TinkError}
use Rattle.tink_aead.specs.declared.aead_kind.AeadKind.{AeadKind}
use Rattle.tink_aead.specs.declared.factory.WrappedAead.{WrappedAead}
use Rattle.tink_daead.specs.declared.factory.WrappedDeterministicAead.{WrappedDeterministicAead}
use Rattle.tink_daead.specs.declared.subtle.aes_siv.AesSiv.{AesSiv}
use Rattle.tink_mac.specs.declared.factory.WrappedMac.{WrappedMac}
use Rattle.tink_mac.specs.declared.mac_kind.MacKind.{MacKind}
use Rattle.tink_sets.specs.Groups.{group_of}
use Rattle.tink_mac.specs.MacKinds.{kind_computes, kind_verifies}
use Rattle.tink_mac.specs.Tokens.{IsAnswered, IsSigned, IsTokenRefused, spelled}
use Rattle.tink_mac.specs.Wrapped.{primary_mac}
use Rattle.tink_prf.specs.declared.prf_kind.PrfKind.{PrfKind}
use Rattle.tink_prf.specs.declared.set_factory.Set.{Set}
use Rattle.tink_c_bytes.specs.Statuses.{c_status, ok, out_of_memory}
use Rattle.tink_c_objects.specs.declared.object.Object.{Object}
use Rattle.tink_c_objects.specs.declared.object.Object.TheVariants.{Aead, Daead, Mac, Prfs}
use Rattle.tink_c_objects.specs.declared.owner.Owner.{Owner}

-- the object that C holds, if any
abbrev pub held_by : Owner → Option Object
held_by owner = owner.slot.held

-- ---- what an object answers: one that is empty or of another primitive answers Closed

abbrev pub by_aead : {T : Type 0} → (WrappedAead AeadKind → Result T Kind) → Option Object → Result T Kind
by_aead answer (Some (Aead w)) = answer w
by_aead answer _ = Err Closed

abbrev pub by_daead : {T : Type 0} → (WrappedDeterministicAead AesSiv → Result T Kind) → Option Object → Result T Kind
by_daead answer (Some (Daead w)) = answer w
by_daead answer _ = Err Closed

abbrev pub by_mac : {T : Type 0} → (WrappedMac MacKind → Result T Kind) → Option Object → Result T Kind
by_mac answer (Some (Mac w)) = answer w
by_mac answer _ = Err Closed

abbrev pub by_prfs : {T : Type 0} → (Set PrfKind → Result T Kind) → Option Object → Result T Kind
by_prfs answer (Some (Prfs w)) = answer w
by_prfs answer _ = Err Closed

-- ---- what a call that loads a keyset leaves

module _ {K W : Type 0} (Is : K → W → Type 0) (make : W → Object) (told : Result K Kind) where
  -- the object is what the keyset loads as
  pub record IsLoaded (object : Object) : Type 0 where
    pub keys : K
    pub loads : told ≡ Ok keys
    pub primitive : W
    pub is : Is keys primitive
    pub made : object ≡ make primitive

  -- a call loads the keyset, or refuses by its error, or there is no memory
  abbrev pub Loads : Result (Box Object) TinkError → Type 0
  Loads (Ok b) = IsLoaded b.value
  Loads (Err e) = (e.kind ≡ OutOfMemory) ⊎ (told ≡ Err e.kind)

  -- C holds this object, by status 0
  pub record IsFilled (new : Option Object) (status : ℕ) : Type 0 where
    pub object : Object
    pub loaded : IsLoaded object
    pub held : new ≡ Some object
    pub status_ok : status ≡ ok

  -- C holds what it held, since the keyset does not load, by the status of its error
  pub record IsUnfilled (old new : Option Object) (status : ℕ) : Type 0 where
    pub kind : Kind
    pub refused : told ≡ Err kind
    pub same : new ≡ old
    pub status_err : status ≡ c_status kind

  abbrev pub Fills : Option Object → Option Object → ℕ → Type 0
  Fills old new status = IsFilled new status ⊎ IsUnfilled old new status ⊎ ((new ≡ old) × (status ≡ out_of_memory))

-- the same by what was loaded
abbrev pub Puts : Result (Box Object) TinkError → Option Object → Option Object → ℕ → Type 0
Puts (Ok b) old new status = (new ≡ Some b.value) × (status ≡ ok)
Puts (Err e) old new status = (new ≡ old) × (status ≡ c_status e.kind)

-- ---- what a call that makes a reader leaves

module _ (Is : Option Object → Type 0) (Refuses : Kind → Type 0) where
  -- C holds such an object, by status 0
  pub record IsRefilled (new : Option Object) (status : ℕ) : Type 0 where
    pub is : Is new
    pub status_ok : status ≡ ok

  -- C holds what it held, by the status of an error
  pub record IsUnchanged (old new : Option Object) (status : ℕ) : Type 0 where
    pub kind : Kind
    pub refused : Refuses kind
    pub same : new ≡ old
    pub status_err : status ≡ c_status kind

  abbrev pub Refills : Option Object → Option Object → ℕ → Type 0
  Refills old new status = IsRefilled new status ⊎ IsUnchanged old new status

-- ---- tokens

-- this holds of the MACs that an object holds
abbrev pub OfMacs : (WrappedMac MacKind → Type 0) → Option Object → Type 0
OfMacs P (Some (Mac w)) = P w
OfMacs P _ = ⊥

-- or it holds none, and the kind is Closed
abbrev pub OfMacsOrClosed : (WrappedMac MacKind → Type 0) → Kind → Option Object → Type 0
OfMacsOrClosed P kind (Some (Mac w)) = P w
OfMacsOrClosed P kind _ = kind ≡ Closed

-- the token of a payload by the primary key
abbrev pub Signs : Option Object → List ℕ → List ℕ → Type 0
Signs held payload token = OfMacs (λ w. IsSigned kind_computes w.ps.primary payload token) held

abbrev pub SignsNot : Option Object → List ℕ → Kind → Type 0
SignsNot held payload kind = OfMacsOrClosed (λ w. primary_mac kind_computes w.ps.primary (spelled payload) ≡ Err kind) kind held

-- the payload of a token whose MAC a key accepts
abbrev pub Verifies : Option Object → List ℕ → List ℕ → Type 0
Verifies held token payload = OfMacs (λ w. IsAnswered kind_verifies (group_of w.ps.entries) token (Ok tt) payload) held

abbrev pub VerifiesNot : Option Object → List ℕ → Kind → Type 0
VerifiesNot held token kind = OfMacsOrClosed (λ w. IsTokenRefused kind_verifies (group_of w.ps.entries) token kind) kind held
