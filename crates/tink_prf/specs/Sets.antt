-- The pseudorandom functions of a keyset by the ids of their keys.
use Rattle.std.specs.Prelude.{◌≡◌, ℕ, List, [], ◌∷◌, Vec, Bool, find, nat_eq, if◌then◌else◌, cond, Option, Some, None, Result, Ok, Err, ok_or}
use Rattle.std.specs.List.{list_all}
use Rattle.std.specs.Str.{bytes_eq}
use Rattle.std.specs.Ordering.{nat_cmp, eq_by_cmp}
use Rattle.std.specs.BTreeMap.{BTreeMap, get, IsFromIterResult, IsOrdered}
use Rattle.tink_io.specs.declared.error.Kind.{Kind}
use Rattle.tink_io.specs.declared.error.Kind.TheVariants.{NoPrimary, NotRawOnly}
use Rattle.tink_io.specs.declared.error.TinkError.{TinkError}
use Rattle.tink_io.specs.Answering.{and_then, made_of}
use Rattle.tink_primitives.specs.Sorts.{as_prf}
use Rattle.tink_sets.specs.Converting.{converted}
use Rattle.tink_sets.specs.Entries.{prefix_of}
use Rattle.tink_sets.specs.Groups.{AreGroupsOf}
use Rattle.tink_sets.specs.declared.entry.Entry.{Entry}
use Rattle.tink_keysets.specs.Built.{GivesSet, HasEntries}
use Rattle.tink_prf.specs.declared.set_factory.Set.{Set}

module _ {K A D HD HE M P S St V : Type 0} where
  -- the id and the function of an entry, or the refusal of another sort
  abbrev pub prf_of : Entry K A D HD HE M P S St V → Result (ℕ × P) Kind
  prf_of e = made_of (λ p. (e.key_id, p)) (as_prf e.primitive)

  abbrev pub is_raw : Entry K A D HD HE M P S St V → Bool
  is_raw e = bytes_eq e.prefix []

  -- the functions of entries that are all raw
  abbrev pub raw_prfs : List (Entry K A D HD HE M P S St V) → Result (List (ℕ × P)) Kind
  raw_prfs es = if list_all is_raw es then converted prf_of es else Err NotRawOnly

  -- the function of the primary entry
  abbrev pub primary_prf : Option (Entry K A D HD HE M P S St V) → Result P Kind
  primary_prf None = Err NoPrimary
  primary_prf (Some e) = as_prf e.primitive

  -- the functions of a set with these entries, whose primary one is the first of the id
  abbrev pub prfs_of : ℕ → List (Entry K A D HD HE M P S St V) → Result (List (ℕ × P)) Kind
  prfs_of id es = and_then (primary_prf (find (λ e. nat_eq e.key_id id) es)) (λ _. raw_prfs es)

-- a set of these functions with their ids: of those with one id it has the last
pub record HasPrfs {P : Type 0} (id : ℕ) (prfs : List (ℕ × P)) (set : Set P) : Type 0 where
  pub primary : set.primary_id ≡ id
  pub by_id : IsFromIterResult nat_cmp prfs set.prfs

-- the output of the primary function
abbrev pub primary_output : {P : Type 0} → (P → List ℕ → ℕ → Result (List ℕ) Kind) → Set P
    → List ℕ → ℕ → Result (List ℕ) Kind
primary_output computes set input n =
    and_then (ok_or (get nat_cmp set.prfs set.primary_id) NoPrimary) (λ p. computes p input n)

-- ---- steps, which only the code needs

-- a map has this function at an id, and elsewhere what it had
pub record PutsAt {P : Type 0} (id : ℕ) (prf : P) (old new : BTreeMap ℕ P) : Type 0 where
  pub put : (k : ℕ) → get nat_cmp new k ≡ cond (eq_by_cmp nat_cmp id k) (Some prf) (get nat_cmp old k)
  pub ordered : IsOrdered nat_cmp new

-- a list that isn't empty
abbrev pub IsFilled : {T : Type 0} → List T → Type 0
IsFilled [] = ⊥
IsFilled (x ∷ xs) = Unit {0}

module _ {K A D HD HE M P S St V G : Type 0} where
  -- whether the entries of a set are all raw
  abbrev pub TellsRaw : BTreeMap (Vec ℕ G) (List (Entry K A D HD HE M P S St V)) → Bool → Type 0
  TellsRaw groups told =
      (es : List (Entry K A D HD HE M P S St V)) → AreGroupsOf prefix_of es groups → told ≡ list_all is_raw es

  -- the functions of a set of entries
  abbrev pub GivesPrfs : Option (Entry K A D HD HE M P S St V)
      → BTreeMap (Vec ℕ G) (List (Entry K A D HD HE M P S St V)) → Result (Set P) TinkError → Type 0
  GivesPrfs primary groups given =
      (id : ℕ) (es : List (Entry K A D HD HE M P S St V)) → HasEntries prefix_of (λ e. e.key_id) id es primary groups
      → GivesSet (HasPrfs id) given (prfs_of id es)
