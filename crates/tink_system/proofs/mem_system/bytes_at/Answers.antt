use Rattle.std.proofs.Common.{◌≡◌, ◌∙◌, ◌+◌, ℕ, List, ◌∷◌, false, drop, get_or, refl, sym, subst, bytes_eq, option_map, if◌then◌else◌}
use Rattle.std.proofs.lemmas.List.{at_drop_more}
use Rattle.tink_system.specs.Memory.{file_at}
use Rattle.tink_system.specs.declared.mem_system.File.{File}
use Rattle.tink_system.proofs.mem_system.bytes_at.Goals as goal

-- a file of another name is passed over
passed : (name : List ℕ) (file : File) (files : List File) → false ≡ bytes_eq file.name.items name → file_at (file ∷ files) name ≡ file_at files name
passed name file files other = subst (λ b. (if b then option_map (λ v. v.items) file.bytes else file_at files name) ≡ file_at files name) other refl

pub files-preserved : goal.files-preserved
files-preserved c =
    let files = c.args.files.now in
    let i = c.files.file-index in
    let name = c.args.name.now in
    let differs = subst (λ (known : List ℕ). false ≡ bytes_eq known name) c.as_slice.ensures.value c.if-eq.ensures in
    let other = subst (λ file. false ≡ bytes_eq file.name.items name) c.file-item.is differs in
    let left = at_drop_more (λ l. file_at l name) files i c.file-item.result c.files-test.true in
    sym (left ∙ passed name (get_or files i c.file-item.result) (drop (i + 1) files) other) ∙ c.files.invariant
