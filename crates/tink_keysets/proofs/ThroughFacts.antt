-- What calls through a reader or a writer answer, from what each of their parts does.
use Rattle.std.proofs.Common.{◌≡◌, ◌⊎◌, ◌∙◌, inl, inr, ap, refl, subst, sym, [], List, Option, None, Result, Ok, Err, ℕ}
use Rattle.std.specs.Prelude.{OnOk, IfErr}
use Rattle.tink_io.specs.Answering.{Answers, IsShort, made_of, Tells}
use Rattle.tink_io.specs.declared.error.Kind.{Kind}
use Rattle.tink_io.specs.declared.error.Kind.TheVariants.{OutOfMemory as NoMemory}
use Rattle.tink_io.specs.declared.error.TinkError.{TinkError}
use Rattle.tink_proto.specs.Outcome.{Fails}
use Rattle.tink_proto.specs.declared.error.ProtoError.{ProtoError}
use Rattle.tink_proto.specs.declared.error.ProtoError.TheVariants.{BadMessage, BadJson, OutOfMemory}
use Rattle.tink_keysets.specs.Encrypted.{by_master, chained}
use Rattle.tink_keyset_rules.specs.Ends.{HasWritten, IsAsTold, IsReadRefusal}
use Rattle.tink_keysets.specs.Through.{GivesBy, IsUnmade, LeavesDraws, MakesAndWrites}

-- an answer by what was read
pub from_read : {S T : Type 0} (makes : S → Result T Kind) (r : Result T TinkError) (told : Option (Result S Kind)) (read : S) (before now : ℕ)
    → IsAsTold told (Ok read) → Answers r (makes read) → GivesBy makes r told before now
from_read makes (Ok v) told read before now is h = record { read = read; is_read = is; made = h }
from_read makes (Err e) told read before now is h = elim h [
  | inl memory ↦ inl (subst (λ k. IsReadRefusal told k before now) (sym memory) tt)
  | inr made ↦ inr (record { read = read; is_read = is; made = made })
]

-- an answer by what a message that was made is written as
pub to_write : {S W : Type 0} (answers : W → S → Option (Result (Unit {0}) Kind)) (writes : W → S → W → Type 0) (refused : W → S → Kind → W → Type 0) (faults : W → ℕ)
    (r : Result (Unit {0}) TinkError) (made : Result S Kind) (message : S) (old new : W)
    → made ≡ Ok message → HasWritten r (answers old message) (faults old) (faults new)
    → OnOk r (writes old message new) → IfErr r (λ e. refused old message e.kind new) → MakesAndWrites answers writes refused faults r made old new
to_write answers writes refused faults (Ok v) made message old new is h wrote left = record { message = message; is_made = is; answer = h; written = wrote }
to_write answers writes refused faults (Err e) made message old new is h wrote left = inr (record { message = message; is_made = is; cause = h; left = left })

-- what is so of whatever is answered
pub so_on_ok : {T E : Type 0} (r : Result T E) (P : Type 0) → P → OnOk r P
so_on_ok (Ok v) P so = so
so_on_ok (Err e) P so = tt

-- the draws are left as they are told
pub leaves_told : {T : Type 0} (r : Result T TinkError) (left before now : List ℕ) → now ≡ left → LeavesDraws r left before now
leaves_told (Ok v) left before now is = is
leaves_told (Err e) left before now is = inr is

-- an answer by a value that is told
pub answers_chained : {S T : Type 0} (makes : S → Result T Kind) (r : Result T TinkError) (told : Result S Kind) (v : S) → told ≡ Ok v → Answers r (makes v) → Answers r (chained makes told)
answers_chained makes r told v is h = subst (Answers r) (sym (ap (chained makes) is)) h

pub tells_chained : {S T : Type 0} (makes : S → Result T Kind) (r : Result T TinkError) (told : Result S Kind) (v : S) → told ≡ Ok v → Tells r (makes v) → Answers r (chained makes told)
tells_chained makes (Ok x) told v is h = ap (chained makes) is ∙ h
tells_chained makes (Err e) told v is h = inr (ap (chained makes) is ∙ h)

-- an error that does not come from memory says that nothing is read
pub not_read : {M : Type 0} (e : ProtoError) (read : Option M) → (e ≡ OutOfMemory → ⊥) → Fails BadMessage e read → read ≡ None
not_read BadMessage read other h = h
not_read BadJson read other h = absurd h
not_read OutOfMemory read other h = absurd (other refl)

-- a refusal of the first of two steps
pub refused_chained : {S T : Type 0} (makes : S → Result T Kind) (told : Result S Kind) (kind : Kind) → (kind ≡ NoMemory) ⊎ (told ≡ Err kind) → (kind ≡ NoMemory) ⊎ (chained makes told ≡ Err kind)
refused_chained makes told kind h = elim h [ inl memory ↦ inl memory | inr is ↦ inr (ap (chained makes) is) ]

-- and of the making of a message, which leaves the writer
pub unmade : {S W : Type 0} (made : Result S Kind) (left : List ℕ) (kind : Kind) (before now : List ℕ) (w : W) → IsShort kind before now ⊎ ((made ≡ Err kind) × (now ≡ left)) → IsUnmade made kind w w
unmade made left kind before now w h = elim h [
  | inl short ↦ record { cause = inl short.kind; same = refl }
  | inr said ↦ record { cause = inr said.0; same = refl }
]

pub left_unmade : {S : Type 0} (made : Result S Kind) (left : List ℕ) (kind : Kind) (before now : List ℕ) → IsShort kind before now ⊎ ((made ≡ Err kind) × (now ≡ left)) → IsShort kind before now ⊎ (now ≡ left)
left_unmade made left kind before now h = elim h [ inl short ↦ inl short | inr said ↦ inr said.1 ]

-- nothing was drawn, and there is no memory
pub without_memory : (e : TinkError) (draws : List ℕ) → e ≡ record { kind = NoMemory } → IsShort e.kind draws draws
without_memory e draws is = record { kind = ap (λ (x : TinkError). x.kind) is; ends = ([], refl) }

-- a master's refusal, and so that of what is made of its answer
pub refused_beside : {T : Type 0} (f : List ℕ → T) (encrypts : List ℕ → Result (List ℕ) Kind × List ℕ) (kind : Kind) (before now seen text : List ℕ) → seen ≡ text
    → IsShort kind before now ⊎ ((by_master (encrypts seen).0 ≡ Err kind) × (now ≡ (encrypts seen).1))
    → IsShort kind before now ⊎ ((made_of f (by_master (encrypts text).0) ≡ Err kind) × (now ≡ (encrypts text).1))
refused_beside f encrypts kind before now seen text same h =
    subst (λ (bytes : List ℕ). IsShort kind before now ⊎ ((made_of f (by_master (encrypts bytes).0) ≡ Err kind) × (now ≡ (encrypts bytes).1))) same
    (elim h [ inl short ↦ inl short | inr said ↦ inr (ap (made_of f) said.0, said.1) ])
