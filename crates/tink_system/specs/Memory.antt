-- The state of a system over memory.
use Rattle.std.specs.Prelude.{◌≡◌, ℕ, List, [], ◌∷◌, false, true, Option, None, bytes_eq, if◌then◌else◌, option_map}
use Rattle.tink_system.specs.States.{SystemState}
use Rattle.tink_system.specs.declared.mem_system.File.{File}
use Rattle.tink_system.specs.declared.mem_system.Link.{Link}
use Rattle.tink_system.specs.declared.mem_system.MemSystem.{MemSystem}

-- the name of the file that a name is of
abbrev pub target_of : List Link → List ℕ → List ℕ
target_of [] name = name
target_of (link ∷ links) name = if bytes_eq link.name.items name then link.target.items else target_of links name

-- the bytes under a name that is no link
abbrev pub file_at : List File → List ℕ → Option (List ℕ)
file_at [] name = None
file_at (file ∷ files) name = if bytes_eq file.name.items name then option_map (λ v. v.items) file.bytes else file_at files name

-- the state of a system
abbrev pub state_of : MemSystem → SystemState
state_of m = record {
  is_known = true;
  file = λ name. file_at m.files.items (target_of m.links.items name);
  are_one = λ name other. bytes_eq (target_of m.links.items name) (target_of m.links.items other);
  is_stream = λ _. false;
  input = m.input.items;
  random = m.random;
}

-- that of a system without files and links
abbrev pub beginning : List ℕ → List ℕ → SystemState
beginning input random = record {
  is_known = true;
  file = λ _. None;
  are_one = λ name other. bytes_eq name other;
  is_stream = λ _. false;
  input = input;
  random = random;
}

-- The name is of the file of another name. Every other name is of the same file as before, with the same other names.
pub record IsLinked (old new : SystemState) (name target : List ℕ) : Type 0 where
  pub one : new.are_one name target ≡ true
  pub file : new.file name ≡ old.file target
  pub others : (other : List ℕ) → bytes_eq name other ≡ false → new.file other ≡ old.file other
  pub apart : (other more : List ℕ) → bytes_eq name other ≡ false → bytes_eq name more ≡ false → new.are_one other more ≡ old.are_one other more
  pub streams : (other : List ℕ) → new.is_stream other ≡ old.is_stream other
  pub known : new.is_known ≡ old.is_known
  pub input : new.input ≡ old.input
  pub random : new.random ≡ old.random
