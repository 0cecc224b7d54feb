-- What the managers for tests answer: keys of sixteen draws, asked for by the empty format, and an AEAD that puts one draw
-- before a text and the key behind it.
use Rattle.std.specs.Prelude.{◌≡◌, ◌++◌, ◌-◌, ⊤, ℕ, ℤ, List, length, take, drop, Bool, true, false, ◌||◌, if◌then◌else◌, nat_eq, nat_le, Result, Ok, Err, pos, refl}
use Rattle.std.specs.Str.{bytes_eq}
use Rattle.std.proofs.Common.{ap, subst, sym}
use Rattle.std.proofs.lemmas.Bool.{false≢true}
use Rattle.tink_io.specs.declared.error.Kind.{Kind}
use Rattle.tink_io.specs.declared.error.Kind.TheVariants.{DecryptFailed, InvalidFormat, InvalidKey, NoPrivateKeys, RandomFault, TooShort}
use Rattle.tink_proto.specs.declared.messages.keys.KeyData.{KeyData}
use Rattle.tink_primitives.specs.Meaning.{IsDrawn, IsTold}
use Rattle.tink_primitives.specs.MeaningLaws.{drawn_if, drawn_none, drawn_take, told_if}
use Rattle.tink_registry.specs.Known.{IsOfKnownMaterial}
use Rattle.tink_core_subtle.specs.Random.{takes_bytes}

abbrev pub sealed : List ℕ → List ℕ → List ℕ → Result (List ℕ) Kind × List ℕ
sealed key text draws = if nat_le 1 (length draws) then (Ok (take 1 draws ++ text ++ key), drop 1 draws) else (Err RandomFault, draws)

abbrev pub unsealed : List ℕ → List ℕ → Result (List ℕ) Kind
unsealed key input =
    if nat_le 17 (length input)
    then (if bytes_eq (drop (length input - 16) input) key then Ok (take (length input - 17) (drop 1 input)) else Err DecryptFailed)
    else Err TooShort

-- a key of sixteen bytes, or of any: one byte builds the one, any other number the other
abbrev pub built_by : {P : Type 0} → P → P → Bool → List ℕ → Result P Kind
built_by one other any key =
    if any || nat_eq (length key) 16 then (if nat_eq (length key) 1 then Ok one else Ok other) else Err InvalidKey

-- the bytes of a new key
abbrev pub made : List ℕ → List ℕ → Result (List ℕ) Kind × List ℕ
made format draws = if nat_eq (length format) 0 then takes_bytes 16 draws else (Err InvalidFormat, draws)

abbrev pub data_of : List ℕ → ℤ → Result (List ℕ) Kind → Result KeyData Kind
data_of url material (Ok key) = Ok (record { type_url = url; value = key; key_material_type = material })
data_of url material (Err kind) = Err kind

-- private where the manager has private keys, and else symmetric
abbrev pub material_of : Bool → ℤ
material_of private = if private then pos 2 else pos 1

-- the data of a new key
abbrev pub made_data : List ℕ → Bool → List ℕ → List ℕ → Result KeyData Kind × List ℕ
made_data url private format draws = (data_of url (material_of private) (made format draws).0, (made format draws).1)

-- the public part of a key is itself
abbrev pub public_of : List ℕ → Bool → List ℕ → Result KeyData Kind
public_of url private key = if private then data_of url (pos 3) (Ok key) else Err NoPrivateKeys

-- ---- each answer is given

pub sealed_told : (key text draws : List ℕ) → IsDrawn draws (sealed key text draws)
sealed_told key text draws =
    drawn_if draws (nat_le 1 (length draws)) _ _ (drawn_take draws 1 (Ok (take 1 draws ++ text ++ key)) tt) (drawn_none draws (Err RandomFault) tt)

pub unsealed_told : (key input : List ℕ) → IsTold (unsealed key input)
unsealed_told key input = told_if (nat_le 17 (length input)) _ _ (told_if (bytes_eq (drop (length input - 16) input) key) _ _ tt tt) tt

pub built_told : {P : Type 0} (one other : P) (any : Bool) (key : List ℕ) → IsTold (built_by one other any key)
built_told one other any key =
    told_if (any || nat_eq (length key) 16) _ _ (told_if (nat_eq (length key) 1) (Ok one) (Ok other) tt tt) tt

pub made_told : (format draws : List ℕ) → IsDrawn draws (made format draws)
made_told format draws =
    drawn_if draws (nat_eq (length format) 0) _ _
    (drawn_if draws (nat_le 16 (length draws)) _ _ (drawn_take draws 16 (Ok (take 16 draws)) tt) (drawn_none draws (Err RandomFault) tt))
    (drawn_none draws (Err InvalidFormat) tt)

data_told : (url : List ℕ) (material : ℤ) (r : Result (List ℕ) Kind) → IsTold r → IsTold (data_of url material r)
data_told url material (Ok key) told = tt
data_told url material (Err kind) told = told

pub made_data_told : (url : List ℕ) (private : Bool) (format draws : List ℕ) → IsDrawn draws (made_data url private format draws)
made_data_told url private format draws =
    let drawn = made_told format draws in
    record { answer = data_told url (material_of private) (made format draws).0 drawn.answer; ends = drawn.ends }

pub public_told : (url : List ℕ) (private : Bool) (key : List ℕ) → IsTold (public_of url private key)
public_told url true key = tt
public_told url false key = tt

-- ---- data has a known material

abbrev IsKnown : Result KeyData Kind → Type 0
IsKnown (Ok d) = IsOfKnownMaterial d
IsKnown (Err _) = ⊤

pub refused_known : (k : Kind) (d : KeyData) → Err k ≡ Ok d → IsOfKnownMaterial d
refused_known k d e = subst IsKnown e tt

data_known : (url : List ℕ) (private : Bool) (r : Result (List ℕ) Kind) → IsKnown (data_of url (material_of private) r)
data_known url true (Ok key) = refl
data_known url false (Ok key) = refl
data_known url private (Err kind) = tt

pub new_known : (url : List ℕ) (private : Bool) (format draws : List ℕ) (d : KeyData) → (made_data url private format draws).0 ≡ Ok d → IsOfKnownMaterial d
new_known url private format draws d e = subst IsKnown e (data_known url private (made format draws).0)

public_is_known : (url : List ℕ) (private : Bool) (key : List ℕ) → IsKnown (public_of url private key)
public_is_known url true key = refl
public_is_known url false key = tt

pub public_known : (url : List ℕ) (private : Bool) (key : List ℕ) (d : KeyData) → public_of url private key ≡ Ok d → IsOfKnownMaterial d
public_known url private key d e = subst IsKnown e (public_is_known url private key)

-- ---- public parts

pub not_both : false ≡ true → ⊥
not_both e = false≢true e

pub none_public : (url : List ℕ) (private : Bool) (key : List ℕ) → private ≡ false → public_of url private key ≡ Err NoPrivateKeys
none_public url private key e = ap (λ (b : Bool). public_of url b key) e

abbrev IsValue : Result KeyData Kind → Type 0
IsValue (Ok _) = ⊤
IsValue (Err _) = ⊥

pub some_public : (url : List ℕ) (private : Bool) (key : List ℕ) → private ≡ true → public_of url private key ≡ Err NoPrivateKeys → ⊥
some_public url private key e refused =
    let value : IsValue (public_of url true key) = tt in
    subst IsValue refused (subst (λ (b : Bool). IsValue (public_of url b key)) (sym e) value)
