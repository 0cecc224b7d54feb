-- The eleven types of keys build usable keys of streams, or refuse as no key of their type.
use Rattle.std.proofs.Common.{◌≡◌, ◌++◌, ℕ, List, [], ◌∷◌, Bool, true, false, cond, refl, sym, ap, subst, Some, None, length}
use Rattle.std.specs.declared.option.Option.{Option}
use Rattle.std.specs.Prelude.{Result, Ok, Err, is_ok, nat_eq}
use Rattle.tink_io.specs.declared.error.Kind.{Kind}
use Rattle.tink_io.specs.declared.error.Kind.TheVariants.{InvalidKey}
use Rattle.tink_io.specs.Answering.{made_of, or_refused}
use Rattle.tink_primitives.specs.Sorts.{as_aead, as_deterministic_aead, as_mac, as_prf, as_streaming_aead}
use Rattle.tink_primitives.specs.declared.primitive.Primitive.TheVariants.{Aead, DeterministicAead, Mac, Prf, StreamingAead}
use Rattle.tink_proto_keys.specs.Aead as aead_messages
use Rattle.tink_proto_keys.specs.AesCtrHmac as composed_messages
use Rattle.tink_proto_keys.specs.Mac as mac_messages
use Rattle.tink_proto_keys.specs.Prf as prf_messages
use Rattle.tink_proto_keys.specs.Streaming as streaming_messages
use Rattle.tink_proto_keys.specs.Daead as daead_messages
use Rattle.tink_proto_keys.specs.AesCtrHmac.{AesCtrKey}
use Rattle.tink_proto_keys.specs.declared.aes_ctr_hmac.AesCtrParams.{AesCtrParams}
use Rattle.tink_proto_keys.specs.declared.aes_ctr_hmac.AesCtrHmacAeadKey.{AesCtrHmacAeadKey}
use Rattle.tink_proto_keys.specs.declared.mac.AesCmacKey.{AesCmacKey}
use Rattle.tink_proto_keys.specs.declared.mac.AesCmacParams.{AesCmacParams}
use Rattle.tink_proto_keys.specs.Mac.{HmacKey}
use Rattle.tink_proto_keys.specs.declared.mac.HmacParams.{HmacParams}
use Rattle.wire_format.specs.Columns.{Column}
use Rattle.stream_model.specs.Key.{StreamKey, IsUsable}
use Rattle.loading_model.specs.Building.{streaming_of, gcm_hkdf_of}
use Rattle.tink_core_subtle.specs.Hashes.{hash_named}
use Rattle.tink_key_manager.specs.HashTypes.{hash_type_of}
use Rattle.tink_key_manager.specs.Manager.{built_by, built_if, builds, message_of}
use Rattle.tink_prf.specs.KeyTypes as prf_keys
use Rattle.tink_prf.specs.KeyTypes.{built_of}
use Rattle.tink_prf.specs.declared.prf_kind.PrfKind.{PrfKind}
use Rattle.tink_prf.specs.declared.prf_kind.PrfKind.TheVariants as prf_kinds
use Rattle.tink_mac.specs.KeyTypes.{cmac_built, cmac_by_params, hmac_built, hmac_by_params, or_invalid}
use Rattle.tink_mac.specs.Tags.{cmac_params, hmac_tags, CmacTags, HmacTags}
use Rattle.tink_mac.specs.declared.mac_kind.MacKind.{MacKind}
use Rattle.tink_mac.specs.declared.mac_kind.MacKind.TheVariants as mac_kinds
use Rattle.tink_aead_subtle.specs.declared.aes_ctr.AesCtr.{AesCtr}
use Rattle.tink_aead.specs.ComposedKeys.{are_ctr_params, composed_built, ctr_built, ctr_by_params, joined, mac_built}
use Rattle.tink_aead.specs.KeyTypes.{is_versioned_key}
use Rattle.tink_aead.specs.declared.aead_kind.AeadKind.{AeadKind}
use Rattle.tink_aead.specs.declared.aead_kind.AeadKind.TheVariants as aead_kinds
use Rattle.tink_streaming_keys.specs.declared.stream_kind.StreamKind.{StreamKind}
use Rattle.tink_streaming_keys.specs.declared.stream_kind.StreamKind.TheVariants as stream_kinds
use Rattle.tink_streaming_keys.specs.StreamKinds.{key_of}
use Rattle.tink_daead.specs.KeyTypes.{is_accepted}
use Rattle.tink.specs.Rows.{widened}
use Rattle.tink.specs.Managers.{AeadBuilt, DaeadBuilt, MacBuilt, PrfBuilt, StreamBuilt, as_built_aead, as_built_daead, as_built_mac, as_built_prf, as_built_stream, row_of}
use Rattle.tink.specs.Registered.{aead_managers, daead_managers, mac_managers, prf_managers, streaming_managers, managers_alone, with_everything}
use Rattle.tink.specs.declared.managers.Managers.{Managers}
use Rattle.tink_registry.specs.Listed.{Registered}
use Rattle.loading_model.specs.Loading.{LoadingRow}
use Rattle.tink.specs.LoadingRows.{built_key, rows, rows_by}
use Rattle.loading_model.proofs.KeyFacts.{streaming_of_usable, gcm_hkdf_of_usable}
use Rattle.loading_model.proofs.UsableKeys.{AreSound, IsSound}

-- a result refuses by `InvalidKey` alone
abbrev OrInvalid : {T : Type 0} → Result T Kind → Type 0
OrInvalid (Ok v) = Unit {0}
OrInvalid (Err kind) = kind ≡ InvalidKey

if_invalid : {T : Type 0} (b : Bool) (r : Result T Kind) → OrInvalid r → OrInvalid (cond b r (Err InvalidKey))
if_invalid true r h = h
if_invalid false r h = refl

or_invalid_invalid : {T : Type 0} (r : Result T Kind) → OrInvalid (or_invalid r)
or_invalid_invalid (Ok v) = tt
or_invalid_invalid (Err kind) = refl

hmac_params_invalid : (p : Option HmacParams) (key : List ℕ) → OrInvalid (hmac_by_params p key)
hmac_params_invalid None key = refl
hmac_params_invalid (Some p) key = or_invalid_invalid (hmac_tags (hash_named (hash_type_of p.hash)) key p.tag_size)

hmac_invalid : (k : HmacKey) → OrInvalid (hmac_built k)
hmac_invalid k = if_invalid (nat_eq k.version 0) (hmac_by_params k.params k.key_value) (hmac_params_invalid k.params k.key_value)

cmac_params_invalid : (p : Option AesCmacParams) (key : List ℕ) → OrInvalid (cmac_by_params p key)
cmac_params_invalid None key = refl
cmac_params_invalid (Some p) key =
    let tags : CmacTags = record { key = key; tag_size = p.tag_size } in
    if_invalid (is_ok (cmac_params (length key) p.tag_size)) (Ok tags) tt

cmac_invalid : (k : AesCmacKey) → OrInvalid (cmac_built k)
cmac_invalid k = if_invalid (nat_eq k.version 0) (cmac_by_params k.params k.key_value) (cmac_params_invalid k.params k.key_value)

ctr_params_invalid : (p : Option AesCtrParams) (key : List ℕ) → OrInvalid (ctr_by_params p key)
ctr_params_invalid None key = refl
ctr_params_invalid (Some p) key =
    let cipher : AesCtr = record { key = key; iv_size = p.iv_size } in
    if_invalid (are_ctr_params (Some p)) (Ok cipher) tt

ctr_invalid : (k : Option AesCtrKey) → OrInvalid (ctr_built k)
ctr_invalid None = refl
ctr_invalid (Some k) = if_invalid (is_versioned_key k.version k.key_value) (ctr_by_params k.params k.key_value) (ctr_params_invalid k.params k.key_value)

mac_invalid : (k : Option HmacKey) → OrInvalid (mac_built k)
mac_invalid None = refl
mac_invalid (Some k) = hmac_invalid k

joined_invalid : (cipher : Result AesCtr Kind) (mac : Result HmacTags Kind) → OrInvalid cipher → OrInvalid mac → OrInvalid (joined cipher mac)
joined_invalid (Ok cipher) (Ok mac) p q = tt
joined_invalid (Ok cipher) (Err kind) p q = q
joined_invalid (Err kind) mac p q = p

composed_invalid : (k : AesCtrHmacAeadKey) → OrInvalid (composed_built k)
composed_invalid k =
    if_invalid (nat_eq k.version 0) (joined (ctr_built k.aes_ctr_key) (mac_built k.hmac_key))
    (joined_invalid (ctr_built k.aes_ctr_key) (mac_built k.hmac_key) (ctr_invalid k.aes_ctr_key) (mac_invalid k.hmac_key))

prf_sound : {T : Type 0} (kind : T → PrfKind) (o : Option T) → IsSound (made_of built_key (widened as_prf as_built_prf (built_of {P = PrfBuilt} (λ p. Prf (kind p)) o)))
prf_sound kind None = refl
prf_sound kind (Some v) = tt

mac_sound : {T : Type 0} (kind : T → MacKind) (r : Result T Kind) → OrInvalid r → IsSound (made_of built_key (widened as_mac as_built_mac (made_of {T = MacBuilt} (λ m. Mac (kind m)) r)))
mac_sound kind (Ok v) h = tt
mac_sound kind (Err k) h = h

aead_sound : {T : Type 0} (kind : T → AeadKind) (r : Result T Kind) → OrInvalid r → IsSound (made_of built_key (widened as_aead as_built_aead (made_of {T = AeadBuilt} (λ a. Aead (kind a)) r)))
aead_sound kind (Ok v) h = tt
aead_sound kind (Err k) h = h

aead_sound_if : (b : Bool) (a : AeadKind) → IsSound (made_of built_key (widened as_aead as_built_aead (built_if {P = AeadBuilt} b (Aead a))))
aead_sound_if true a = tt
aead_sound_if false a = refl

daead_sound_if : (b : Bool) (key : List ℕ) → IsSound (made_of built_key (widened as_deterministic_aead as_built_daead (built_if {P = DaeadBuilt} b (DeterministicAead key))))
daead_sound_if true key = tt
daead_sound_if false key = refl

stream_sound : (kind : StreamKey → StreamKind) → ((k : StreamKey) → key_of (kind k) ≡ k) → (o : Option StreamKey) → ((k : StreamKey) → o ≡ Some k → IsUsable k)
    → IsSound (made_of built_key (widened as_streaming_aead as_built_stream (made_of {T = StreamBuilt} (λ k. StreamingAead (kind k)) (or_refused InvalidKey o))))
stream_sound kind same None usable = refl
stream_sound kind same (Some k) usable = subst IsUsable (sym (same k)) (usable k refl)

prf_row : {Key T : Type 0} (keys : Column Key) (key : Key → Option T) (kind : T → PrfKind) (value : List ℕ)
    → IsSound (made_of built_key (widened as_prf as_built_prf (builds keys (λ k. built_of {P = PrfBuilt} (λ p. Prf (kind p)) (key k)) value)))
prf_row {Key} keys key kind value = by_message (message_of keys value)
  where
    by_message : (o : Option Key) → IsSound (made_of built_key (widened as_prf as_built_prf (built_by (λ k. built_of {P = PrfBuilt} (λ p. Prf (kind p)) (key k)) o)))
    by_message None = refl
    by_message (Some k) = prf_sound kind (key k)

mac_row : {Key T : Type 0} (keys : Column Key) (key : Key → Result T Kind) → ((k : Key) → OrInvalid (key k)) → (kind : T → MacKind) (value : List ℕ)
    → IsSound (made_of built_key (widened as_mac as_built_mac (builds keys (λ k. made_of {T = MacBuilt} (λ m. Mac (kind m)) (key k)) value)))
mac_row {Key} keys key invalid kind value = by_message (message_of keys value)
  where
    by_message : (o : Option Key) → IsSound (made_of built_key (widened as_mac as_built_mac (built_by (λ k. made_of {T = MacBuilt} (λ m. Mac (kind m)) (key k)) o)))
    by_message None = refl
    by_message (Some k) = mac_sound kind (key k) (invalid k)

aead_row : {Key T : Type 0} (keys : Column Key) (key : Key → Result T Kind) → ((k : Key) → OrInvalid (key k)) → (kind : T → AeadKind) (value : List ℕ)
    → IsSound (made_of built_key (widened as_aead as_built_aead (builds keys (λ k. made_of {T = AeadBuilt} (λ a. Aead (kind a)) (key k)) value)))
aead_row {Key} keys key invalid kind value = by_message (message_of keys value)
  where
    by_message : (o : Option Key) → IsSound (made_of built_key (widened as_aead as_built_aead (built_by (λ k. made_of {T = AeadBuilt} (λ a. Aead (kind a)) (key k)) o)))
    by_message None = refl
    by_message (Some k) = aead_sound kind (key k) (invalid k)

aead_row_if : {Key : Type 0} (keys : Column Key) (accepted : Key → Bool) (kind : Key → AeadKind) (value : List ℕ)
    → IsSound (made_of built_key (widened as_aead as_built_aead (builds keys (λ k. built_if {P = AeadBuilt} (accepted k) (Aead (kind k))) value)))
aead_row_if {Key} keys accepted kind value = by_message (message_of keys value)
  where
    by_message : (o : Option Key) → IsSound (made_of built_key (widened as_aead as_built_aead (built_by (λ k. built_if {P = AeadBuilt} (accepted k) (Aead (kind k))) o)))
    by_message None = refl
    by_message (Some k) = aead_sound_if (accepted k) (kind k)

daead_row_if : {Key : Type 0} (keys : Column Key) (accepted : Key → Bool) (value_of : Key → List ℕ) (value : List ℕ)
    → IsSound (made_of built_key (widened as_deterministic_aead as_built_daead (builds keys (λ k. built_if {P = DaeadBuilt} (accepted k) (DeterministicAead (value_of k))) value)))
daead_row_if {Key} keys accepted value_of value = by_message (message_of keys value)
  where
    by_message : (o : Option Key) → IsSound (made_of built_key (widened as_deterministic_aead as_built_daead (built_by (λ k. built_if {P = DaeadBuilt} (accepted k) (DeterministicAead (value_of k))) o)))
    by_message None = refl
    by_message (Some k) = daead_sound_if (accepted k) (value_of k)

stream_row : {Key : Type 0} (keys : Column Key) (key : Key → Option StreamKey) (kind : StreamKey → StreamKind) → ((k : StreamKey) → key_of (kind k) ≡ k) → ((m : Key) (k : StreamKey) → key m ≡ Some k → IsUsable k) → (value : List ℕ)
    → IsSound (made_of built_key (widened as_streaming_aead as_built_stream (builds keys (λ m. made_of {T = StreamBuilt} (λ k. StreamingAead (kind k)) (or_refused InvalidKey (key m))) value)))
stream_row {Key} keys key kind same usable value = by_message (message_of keys value)
  where
    by_message : (o : Option Key) → IsSound (made_of built_key (widened as_streaming_aead as_built_stream (built_by (λ m. made_of {T = StreamBuilt} (λ k. StreamingAead (kind k)) (or_refused InvalidKey (key m))) o)))
    by_message None = refl
    by_message (Some m) = stream_sound kind same (key m) (usable m)

abbrev pub rows_of : List Managers → List LoadingRow
rows_of managers = rows_by (λ m. (row_of m).url) (λ m. (row_of m).built) managers

prf_rows : AreSound (rows_of prf_managers)
prf_rows = (
  prf_row prf_messages.hmac_prf_key prf_keys.hmac_prf_key_of (λ p. prf_kinds.Hmac p),
  (
    prf_row prf_messages.hkdf_prf_key prf_keys.hkdf_prf_key_of (λ p. prf_kinds.Hkdf p),
    (prf_row prf_messages.aes_cmac_prf_key prf_keys.aes_cmac_prf_key_of (λ p. prf_kinds.AesCmac p), tt),
  ),
)

mac_rows : AreSound (rows_of mac_managers)
mac_rows = (
  mac_row mac_messages.hmac_key hmac_built hmac_invalid (λ m. mac_kinds.Hmac m),
  (mac_row mac_messages.aes_cmac_key cmac_built cmac_invalid (λ m. mac_kinds.AesCmac m), tt),
)

aead_rows : AreSound (rows_of aead_managers)
aead_rows = (
  aead_row composed_messages.aes_ctr_hmac_aead_key composed_built composed_invalid (λ a. aead_kinds.AesCtrHmac a),
  (
    aead_row_if aead_messages.aes_gcm_key (λ k. is_versioned_key k.version k.key_value) (λ k. aead_kinds.AesGcm (record { key = k.key_value })),
    (aead_row_if aead_messages.aes_gcm_siv_key (λ k. is_versioned_key k.version k.key_value) (λ k. aead_kinds.AesGcmSiv (record { key = k.key_value })), tt),
  ),
)

streaming_rows : AreSound (rows_of streaming_managers)
streaming_rows = (
  stream_row streaming_messages.aes_ctr_hmac_streaming_key streaming_of (λ key. stream_kinds.CtrHmac key) (λ key. refl) streaming_of_usable,
  (stream_row streaming_messages.aes_gcm_hkdf_streaming_key gcm_hkdf_of (λ key. stream_kinds.GcmHkdf key) (λ key. refl) gcm_hkdf_of_usable, tt),
)

daead_rows : AreSound (rows_of daead_managers)
daead_rows = (daead_row_if daead_messages.aes_siv_key (λ k. is_accepted k.version k.key_value) (λ k. k.key_value), tt)

-- rows of more than one sort
also : (more rest : List LoadingRow) → AreSound more → AreSound rest → AreSound (more ++ rest)
also [] rest p q = q
also (row ∷ more) rest p q = (p.0, also more rest p.1 q)

pub rows_sound : AreSound rows
unfolding rows
rows_sound =
    also (rows_of prf_managers) (rows_of mac_managers ++ (rows_of aead_managers ++ (rows_of streaming_managers ++ rows_of daead_managers))) prf_rows
    (also (rows_of mac_managers) (rows_of aead_managers ++ (rows_of streaming_managers ++ rows_of daead_managers)) mac_rows
    (also (rows_of aead_managers) (rows_of streaming_managers ++ rows_of daead_managers) aead_rows
    (also (rows_of streaming_managers) (rows_of daead_managers) streaming_rows daead_rows)))

-- those of the registered managers
pub managers_sound : AreSound (rows_of with_everything.managers)
unfolding rows
managers_sound = rows_sound

-- the rows of the registry of all managers
pub rows_of_all : (r : Registered Managers) → r ≡ managers_alone → rows_of r.managers ≡ rows
unfolding rows
rows_of_all r e = ap (λ (x : Registered Managers). rows_of x.managers) e
