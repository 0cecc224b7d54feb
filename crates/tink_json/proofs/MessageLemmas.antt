-- A keyset that is read from the value that it is written as.
use Rattle.std.proofs.Common.{◌≡◌, ℕ, ◌^◌, ◌<◌, ◌≤◌, ℤ, List, [], ◌∷◌, map, Bool, true, false, codes, Option, Some, None, IfSome, refl, sym, ap, ◌∙◌, subst, arith, lt-ltb}
use Rattle.std.specs.Prelude.{is_some}
use Rattle.std.specs.List.{AllByRecursion}
use Rattle.std.specs.Str.{IsUtf8, IsAscii}
use Rattle.std.proofs.lemmas.Str.{IsUtf8-from_ascii}
use Rattle.base64.specs.Engines.{standard}
use Rattle.base64.specs.GeneralPurpose.{encode_of, decoded_of, IsBytes}
use Rattle.base64.proofs.EngineFacts.{decode_of-encode_of, IsAscii-encode_of}
use Rattle.base64.proofs.Streams.{decoded_of-ok}
use Rattle.serde_json.specs.Data.{Data, number, string, array, object, unsigned, no_members, put}
use Rattle.serde_json.specs.Find.{as_null}
use Rattle.serde_json.specs.Read.{max_depth}
use Rattle.serde_json.specs.View.{items_of}
use Rattle.tink_json.specs.Fields.{enum, items, text_field, bytes_field, number_field, enum_field, message_field, list_field}
use Rattle.tink_json.specs.Messages as form
use Rattle.tink_json.specs.Names.{statuses, prefixes, materials}
use Rattle.tink_json.specs.ReadAgain.{IsKeyData, IsKey, IsKeyset}
use Rattle.json.specs.Lex.{tokens}
use Rattle.json.specs.Layout.{pretty, pretty_from}
use Rattle.json.specs.Tree.{json_tokens}
use Rattle.serde_json.specs.Written.{outline}
use Rattle.tink_json.specs.Whole.{are_whole, is_whole_token}
use Rattle.std.specs.List.{list_all}
use Rattle.tink_json.specs.Written.{key_data_value, key_value, keyset_value, pretty_text}
use Rattle.tink_json.proofs.PrettyLemmas.{sound-printable, sound-utf8, sound-whole, tokens-pretty}
use Rattle.tink_json.proofs.TextLemmas.{are_whole-utf8, value_of-found}
use Rattle.tink_json.proofs.NameLemmas.{status-is, prefix-is, material-is}
use Rattle.tink_json.proofs.ValueLemmas.{IsGiven, given_string, given_unsigned, given_array, begun, ended, membered, read-pretty}
use Rattle.tink_proto.specs.declared.messages.keys.KeyData.{KeyData}
use Rattle.tink_proto.specs.declared.messages.keys.Key.{Key}
use Rattle.tink_proto.specs.declared.messages.keys.Keyset.{Keyset}

-- ---- base 64

encoded-utf8 : (b : List ℕ) → IsUtf8 (encode_of standard b)
encoded-utf8 b = IsUtf8-from_ascii _ (IsAscii-encode_of standard b)

encoded-decoded : (b : List ℕ) → IsBytes b → decoded_of standard (encode_of standard b) ≡ Some b
encoded-decoded b h = decoded_of-ok standard _ b (decode_of-encode_of standard b refl h)

-- ---- the data of a key

data-given : (material value url : Data) → IsGiven material 0 → IsGiven value 0 → IsGiven url 0
    → IsGiven (object (put (codes "keyMaterialType") material (put (codes "value") value (put (codes "typeUrl") url no_members)))) 1
data-given material value url m v u = record {
  value = rw (m.value, v.value, u.value) refl;
  tokens = begun _ (membered (codes "keyMaterialType") _ _ refl m.tokens (membered (codes "typeUrl") _ _ refl u.tokens (membered (codes "value") _ _ refl v.tokens ended)));
  depth = omega (arith, m.depth, v.depth, u.depth);
}

data-read : (material : Data) (n : ℤ) (text url bytes : List ℕ) → is_some (as_null material) ≡ false → enum materials material ≡ Some n → decoded_of standard text ≡ Some bytes
    → form.key_data (object (put (codes "keyMaterialType") material (put (codes "value") (string text) (put (codes "typeUrl") (string url) no_members))))
    ≡ Some (record { type_url = url; value = bytes; key_material_type = n })
unfolding text_field bytes_field enum_field
data-read material n text url bytes there read decoded = rw (there, read, decoded) refl

pub record IsReadAgain {T : Type 0} (read : Data → Option T) (m : T) (d : Data) (k : ℕ) : Type 0 where
  pub given : IsGiven d k
  pub there : is_some (as_null d) ≡ false
  pub is : read d ≡ Some m

pub key_data-is : (m : KeyData) → IsKeyData m → IsReadAgain form.key_data m (key_data_value m) 1
key_data-is m h =
    let e = material-is m.key_material_type h.material in
    record {
      given = data-given _ _ _ e.given (given_string _ (encoded-utf8 m.value)) (given_string m.type_url h.type_url);
      there = refl;
      is = data-read _ _ _ _ _ e.there e.read (encoded-decoded m.value h.value);
    }

-- ---- a key

with-given : (prefix id status held : Data) → IsGiven prefix 0 → IsGiven id 0 → IsGiven status 0 → IsGiven held 1
    → IsGiven (object (put (codes "outputPrefixType") prefix (put (codes "keyId") id (put (codes "status") status (put (codes "keyData") held no_members))))) 2
with-given prefix id status held p i s h = record {
  value = rw (p.value, i.value, s.value, h.value) refl;
  tokens = begun _ (membered (codes "keyData") _ _ refl h.tokens (membered (codes "keyId") _ _ refl i.tokens
      (membered (codes "outputPrefixType") _ _ refl p.tokens (membered (codes "status") _ _ refl s.tokens ended))));
  depth = omega (arith, p.depth, i.depth, s.depth, h.depth);
}

without-given : (prefix id status : Data) → IsGiven prefix 0 → IsGiven id 0 → IsGiven status 0
    → IsGiven (object (put (codes "outputPrefixType") prefix (put (codes "keyId") id (put (codes "status") status no_members)))) 2
without-given prefix id status p i s = record {
  value = rw (p.value, i.value, s.value) refl;
  tokens = begun _ (membered (codes "keyId") _ _ refl i.tokens
      (membered (codes "outputPrefixType") _ _ refl p.tokens (membered (codes "status") _ _ refl s.tokens ended)));
  depth = omega (arith, p.depth, i.depth, s.depth);
}

with-read : (prefix status held : Data) (p s : ℤ) (id : ℕ) (m : KeyData)
    → is_some (as_null prefix) ≡ false → enum prefixes prefix ≡ Some p → id < 2 ^ 32 → is_some (as_null status) ≡ false → enum statuses status ≡ Some s
    → is_some (as_null held) ≡ false → form.key_data held ≡ Some m
    → form.key (object (put (codes "outputPrefixType") prefix (put (codes "keyId") (number (unsigned id)) (put (codes "status") status (put (codes "keyData") held no_members)))))
    ≡ Some (record { key_data = Some m; status = s; key_id = id; output_prefix_type = p })
unfolding form.use_of number_field enum_field message_field
with-read prefix status held p s id m prefix_there prefix_is small status_there status_is held_there held_is =
    rw (prefix_there, prefix_is, lt-ltb id (2 ^ 32) small, status_there, status_is, held_there, held_is) refl

without-read : (prefix status : Data) (p s : ℤ) (id : ℕ)
    → is_some (as_null prefix) ≡ false → enum prefixes prefix ≡ Some p → id < 2 ^ 32 → is_some (as_null status) ≡ false → enum statuses status ≡ Some s
    → form.key (object (put (codes "outputPrefixType") prefix (put (codes "keyId") (number (unsigned id)) (put (codes "status") status no_members))))
    ≡ Some (record { key_data = None; status = s; key_id = id; output_prefix_type = p })
unfolding form.use_of number_field enum_field message_field
without-read prefix status p s id prefix_there prefix_is small status_there status_is =
    rw (prefix_there, prefix_is, lt-ltb id (2 ^ 32) small, status_there, status_is) refl

key-of : (held : Option KeyData) (m : Key) → m.key_data ≡ held → IfSome held IsKeyData → IsKey m → IsReadAgain form.key m (key_value m) 2
key-of None m e inner h =
    let p = prefix-is m.output_prefix_type h.prefix in
    let s = status-is m.status h.status in
    record {
      given = rw e (without-given _ _ _ p.given (given_unsigned m.key_id (omega (arith, h.key_id))) s.given);
      there = refl;
      is = rw e (without-read _ _ _ _ _ p.there p.read h.key_id s.there s.read);
    }
key-of (Some held) m e inner h =
    let p = prefix-is m.output_prefix_type h.prefix in
    let s = status-is m.status h.status in
    let d = key_data-is held inner in
    record {
      given = rw e (with-given _ _ _ _ p.given (given_unsigned m.key_id (omega (arith, h.key_id))) s.given d.given);
      there = refl;
      is = rw e (with-read _ _ _ _ _ _ _ p.there p.read h.key_id s.there s.read d.there d.is);
    }

pub key-is : (m : Key) → IsKey m → IsReadAgain form.key m (key_value m) 2
key-is m h = key-of m.key_data m refl h.key_data h

-- ---- a keyset

keys-given : (ms : List Key) → AllByRecursion IsKey ms → AllByRecursion (λ d. IsGiven d 2) (map key_value ms)
keys-given [] h = tt
keys-given (m ∷ ms) h = ((key-is m h.0).given, keys-given ms h.1)

keys-read : (ms : List Key) → AllByRecursion IsKey ms → items form.key (items_of (map key_value ms)) ≡ Some ms
keys-read [] h = refl
keys-read (m ∷ ms) h = rw ((key-is m h.0).is, keys-read ms h.1) refl

keyset-given : (keys id : Data) → IsGiven keys 3 → IsGiven id 0 → IsGiven (object (put (codes "key") keys (put (codes "primaryKeyId") id no_members))) 4
keyset-given keys id k i = record {
  value = rw (k.value, i.value) refl;
  tokens = begun _ (membered (codes "key") _ _ refl k.tokens (membered (codes "primaryKeyId") _ _ refl i.tokens ended));
  depth = omega (arith, k.depth, i.depth);
}

keyset-read : (m : Keyset) → IsKeyset m → form.keyset (keyset_value m) ≡ Some m
unfolding number_field list_field
keyset-read m h = rw (lt-ltb m.primary_key_id (2 ^ 32) h.primary_key_id, keys-read m.key h.key) refl

pub keyset-is : (m : Keyset) → IsKeyset m → IsReadAgain form.keyset m (keyset_value m) 4
keyset-is m h = record {
  given = keyset-given _ _ (given_array _ 2 (keys-given m.key h.key)) (given_unsigned m.primary_key_id (omega (arith, h.primary_key_id)));
  there = refl;
  is = keyset-read m h;
}

-- ---- a message from its text

message-again : {T : Type 0} (read : Data → Option T) (m : T) (d : Data) (k : ℕ) → IsReadAgain read m d k → k ≤ max_depth → form.message_of read (pretty_text d) ≡ Some m
message-again read m d k r shallow =
    let ts = json_tokens (outline d) in
    let text = pretty_text d in
    let utf8 = sound-utf8 ts r.given.tokens in
    let whole : are_whole text ≡ true =
    sym (are_whole-utf8 text utf8) ∙ ap (list_all is_whole_token) (tokens-pretty ts (sound-printable ts r.given.tokens)) ∙ sound-whole ts r.given.tokens in
    let found = value_of-found text d utf8 (read-pretty d k r.given shallow) in
    rw (whole, found) r.is

pub keyset-again : (m : Keyset) → IsKeyset m → form.message_of form.keyset (pretty_text (keyset_value m)) ≡ Some m
keyset-again m h = message-again form.keyset m (keyset_value m) 4 (keyset-is m h) (omega arith)

-- its text begins with a brace
pub keyset-begins : (m : Keyset) → (rest : List ℕ) × (pretty_text (keyset_value m) ≡ 123 ∷ rest)
unfolding pretty_from
keyset-begins m = (_, refl)
