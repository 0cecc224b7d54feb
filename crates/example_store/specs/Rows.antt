-- What is written into a store, and what is read from it.
use Rattle.std.specs.Prelude.{◌≡◌, ◌⊎◌, ℕ, List, [], ◌∷◌, Result, Ok, Err, codes}
use Rattle.sqlite.specs.Order.{Row, column}
use Rattle.sqlite.specs.Reading.{IsReadError}
use Rattle.sqlite.specs.declared.error.Error.{Error}
use Rattle.sqlite.specs.declared.types.Value.TheVariants.{Text, Blob}
use Rattle.sqlite.specs.State.{State, Executes, HasCleanDisk, QueriesRow}
use Rattle.tink_io.specs.declared.error.Kind.{Kind}
use Rattle.tink_io.specs.Answering.{Answers, Replies}
use Rattle.example_store.specs.declared.StoreError.{StoreError}
use Rattle.example_store.specs.declared.StoreError.TheVariants.{Tink, Sql}

-- the statement that makes the table ran
abbrev pub IsCreated : State → State → Type 0
IsCreated old new =
    (count : ℕ) × Executes (codes "CREATE TABLE entry (name TEXT PRIMARY KEY, value BLOB NOT NULL) STRICT") [] old new (Ok count)

-- the statement that writes a row has this result, with this name and this ciphertext
abbrev pub Writes : List ℕ → List ℕ → State → State → Result ℕ Error → Type 0
Writes row ciphertext old new result =
    Executes (codes "INSERT OR REPLACE INTO entry (name, value) VALUES (?1, ?2)") (Text row ∷ Blob ciphertext ∷ []) old new result

-- the query of a row's value has this result
abbrev pub Queries : List ℕ → State → State → Result Row Error → Type 0
Queries row old new result = QueriesRow (codes "SELECT value FROM entry WHERE name = ?1") (Text row ∷ []) old new result

-- a row has this ciphertext
abbrev pub IsRead : List ℕ → List ℕ → State → State → Type 0
IsRead row ciphertext old new = (found : Row) × Queries row old new (Ok found) × (column found 0 ≡ Blob ciphertext)

-- the query failed, or what it gave cannot be read as bytes
abbrev pub IsUnread : List ℕ → State → State → Error → Type 0
IsUnread row old new e = Queries row old new (Err e) ⊎ ((found : Row) × Queries row old new (Ok found) × IsReadError 0 (column found 0) e)

-- the ciphertext that a call gives was written under the name of the row
pub record IsPut (told : Result (List ℕ) Kind × List ℕ) (row : List ℕ) (old new : State) : Type 0 where
  pub ciphertext : List ℕ
  pub encrypted : told.0 ≡ Ok ciphertext
  pub count : ℕ
  pub written : Writes row ciphertext old new (Ok count)

-- an error of the library is that of the call which encrypts, and the store stays; one of SQL is that of the statement
abbrev pub IsPutError : Result (List ℕ) Kind × List ℕ → List ℕ → List ℕ → List ℕ → State → State → Type 0 → StoreError → Type 0
IsPutError told before now row old new kept (Tink e) = Replies (Err e) told before now × kept
IsPutError told before now row old new kept (Sql e) =
    HasCleanDisk new → (ciphertext : List ℕ) × (told.0 ≡ Ok ciphertext) × Writes row ciphertext old new (Err e)

-- a value is what a call decrypts the ciphertext of the row to
pub record IsGot (decrypts : List ℕ → Result (List ℕ) Kind) (row value : List ℕ) (old new : State) : Type 0 where
  pub ciphertext : List ℕ
  pub is_read : IsRead row ciphertext old new
  pub decrypted : decrypts ciphertext ≡ Ok value

-- an error of the library is that of the call which decrypts the ciphertext of the row; one of SQL is that of the query
abbrev pub IsGetError : (List ℕ → Result (List ℕ) Kind) → List ℕ → State → State → StoreError → Type 0
IsGetError decrypts row old new (Tink e) = (ciphertext : List ℕ) × IsRead row ciphertext old new × Answers (Err e) (decrypts ciphertext)
IsGetError decrypts row old new (Sql e) = IsUnread row old new e
