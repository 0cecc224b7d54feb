-- Each registered template makes keys of at most 64 draws. One lemma a type of keys, over the format.
use Rattle.std.proofs.Common.{◌≡◌, ◌&&◌, ℕ, ◌+◌, ◌≤◌, List, [], take, drop, length, Bool, true, false, Some, Ok, Result, refl, arith, length-drop}
use Rattle.std.specs.Prelude.{is_some, nat_eq, nat_le, not}
use Rattle.std.proofs.lemmas.Bool.Decides.{nat_tests}
use Rattle.std.proofs.lemmas.Bool.{leb-true}
use Rattle.tink_io.specs.declared.error.Kind.{Kind}
use Rattle.tink_proto.specs.declared.enums.HashType.{HashType}
use Rattle.tink_proto.specs.declared.enums.HashType.TheVariants.{Sha256, Sha512}
use Rattle.tink_proto.specs.declared.enums.OutputPrefixType.{OutputPrefixType}
use Rattle.tink_proto.specs.declared.enums.OutputPrefixType.TheVariants.{Raw, Tink}
use Rattle.tink_proto.specs.declared.messages.keys.KeyData.{KeyData}
use Rattle.tink_proto.specs.declared.messages.keys.KeyTemplate.{KeyTemplate}
use Rattle.tink_proto.specs.Enums.{hash_number, prefix_number}
use Rattle.wire_format.specs.Columns.{Column}
use Rattle.wire_format.specs.Message.{encoded}
use Rattle.wire_format.specs.Writing.{spelling, field, varint, varint_within}
use Rattle.keyset_model.specs.Entries.{is_known_prefix}
use Rattle.keyset_model.proofs.EditLaws.{both}
use Rattle.tink_registry.specs.Listed.{manager_of}
use Rattle.tink_key_manager.specs.Manager.{made_if, makes_data, symmetric}
use Rattle.tink_key_manager.specs.Templates.{template_of}
use Rattle.tink_proto_keys.specs.Prf as prf_messages
use Rattle.tink_proto_keys.specs.Mac as mac_messages
use Rattle.tink_proto_keys.specs.Aead as aead_messages
use Rattle.tink_proto_keys.specs.AesCtrHmac as composed_messages
use Rattle.tink_proto_keys.specs.Streaming as streaming_messages
use Rattle.tink_proto_keys.specs.Daead as daead_messages
use Rattle.tink_proto_keys.specs.declared.aes_ctr_hmac.AesCtrHmacAeadKeyFormat.{AesCtrHmacAeadKeyFormat}
use Rattle.tink_proto_keys.specs.declared.aes_ctr_hmac.AesCtrKeyFormat.{AesCtrKeyFormat}
use Rattle.tink_proto_keys.specs.declared.prf.AesCmacPrfKeyFormat.{AesCmacPrfKeyFormat}
use Rattle.tink_proto_keys.specs.declared.prf.HkdfPrfKeyFormat.{HkdfPrfKeyFormat}
use Rattle.tink_proto_keys.specs.Prf.{HmacPrfKeyFormat}
use Rattle.tink_proto_keys.specs.declared.mac.AesCmacKeyFormat.{AesCmacKeyFormat}
use Rattle.tink_proto_keys.specs.declared.aead.AesGcmKeyFormat.{AesGcmKeyFormat}
use Rattle.tink_proto_keys.specs.declared.aead.AesGcmSivKeyFormat.{AesGcmSivKeyFormat}
use Rattle.tink_proto_keys.specs.Streaming.{AesGcmHkdfStreamingKeyFormat, AesCtrHmacStreamingKeyFormat}
use Rattle.tink_proto_keys.specs.Mac.{HmacKeyFormat}
use Rattle.tink_proto_keys.specs.declared.daead.AesSivKeyFormat.{AesSivKeyFormat}
use Rattle.tink_prf.specs.KeyTypes as prf_keys
use Rattle.tink_prf.specs.Templates.{prf_templates}
use Rattle.tink_mac.specs.KeyTypes as mac_keys
use Rattle.tink_mac.specs.Templates.{mac_templates}
use Rattle.tink_aead.specs.KeyTypes as aead_keys
use Rattle.tink_aead.specs.ComposedKeys.{composed_made, composed_url, is_composed_format, new_composed_key}
use Rattle.tink_aead.specs.Templates.{aead_templates}
use Rattle.tink_aead_subtle.specs.KeySizes.{is_aes_key_size}
use Rattle.loading_model.specs.Building.{aes_ctr_hmac_url, aes_gcm_hkdf_url}
use Rattle.tink_streaming_aead.specs.KeyTypes as streaming_keys
use Rattle.tink_streaming_aead.specs.Templates.{streaming_templates}
use Rattle.tink_daead.specs.KeyTypes as daead_keys
use Rattle.tink_daead.specs.Templates.{daead_templates}
use Rattle.tink.specs.Managers.{row_of}
use Rattle.tink.specs.Registered.{with_aeads, with_everything, with_macs, with_prfs, with_streaming_aeads}
use Rattle.tink.specs.declared.managers.Managers.{Managers}
use Rattle.tink.specs.declared.managers.Managers.TheVariants as managers
use Rattle.tink_keygen.specs.NamedTemplates.{data_by_all, template_named}
use Rattle.tink_keygen.proofs.TemplateSteps.{made_data, made_data_if, of_name, with_more, AllNamed}

-- data is made of at most 64 draws
abbrev GivesData : List ℕ → Result KeyData Kind × List ℕ → Type 0
GivesData draws made = (d : KeyData) × (left : List ℕ) × (made ≡ (Ok d, left)) × (length draws ≤ 64 + length left)

-- a template whose manager makes such data wherever there are so many
abbrev pub MakesKeys : KeyTemplate → Type 0
MakesKeys kt = (draws : List ℕ) → 64 ≤ length draws → GivesData draws (data_by_all kt draws)

by_manager : (m : Managers) (kt : KeyTemplate) → manager_of (λ x. (row_of x).url) kt.type_url with_everything.managers ≡ Some m → is_known_prefix kt.output_prefix_type ≡ true
    → ((draws : List ℕ) → 64 ≤ length draws → GivesData draws ((row_of m).made_data kt.value draws)) → MakesKeys kt
unfolding data_by_all
by_manager m kt found known makes draws enough = rw (found, known) (makes draws enough)

-- what is asked of a format: it can be written, it has bytes, it is accepted, and its keys have at most 64 bytes
abbrev is_good : {Format : Type 0} → Column Format → (Format → Bool) → (Format → ℕ) → Format → Bool
is_good formats accepted size f = formats.fits f && not (nat_eq (length (encoded formats.write f)) 0) && accepted f && nat_le (size f) 64

record AreGood {Format : Type 0} (formats : Column Format) (accepted : Format → Bool) (size : Format → ℕ) (f : Format) : Type 0 where
  fits : formats.fits f ≡ true
  some : nat_eq (length (encoded formats.write f)) 0 ≡ false
  accepts : accepted f ≡ true
  small : size f ≤ 64

is_not : (b : Bool) → not b ≡ true → b ≡ false
is_not true e = absurd (cc)
is_not false e = refl

good_parts : {Format : Type 0} (formats : Column Format) (accepted : Format → Bool) (size : Format → ℕ) (f : Format) → is_good formats accepted size f ≡ true → AreGood formats accepted size f
good_parts formats accepted size f good =
    let some = not (nat_eq (length (encoded formats.write f)) 0) in
    let last = both (formats.fits f && some && accepted f) (nat_le (size f) 64) good in
    let third = both (formats.fits f && some) (accepted f) last.0 in
    let first = both (formats.fits f) some third.0 in
    record { fits = first.0; some = is_not (nat_eq (length (encoded formats.write f)) 0) first.1; accepts = third.1; small = leb-true (size f) 64 last.1 }

left_after : (n : ℕ) (draws : List ℕ) → n ≤ 64 → length draws ≤ 64 + length (drop n draws)
left_after n draws small = omega (arith, length-drop {A = ℕ})

-- a format whose keys are so many draws each
made_by_format : {Key Format : Type 0} (url : List ℕ) (keys : Column Key) (formats : Column Format) (accepted : Format → Bool) (size : Format → ℕ) (message : Format → List ℕ → Key) (f : Format)
    → is_good formats accepted size f ≡ true → (draws : List ℕ) → 64 ≤ length draws
    → GivesData draws (makes_data url keys formats (λ f draws. made_if (accepted f) (size f) (message f) draws) (encoded formats.write f) draws)
made_by_format url keys formats accepted size message f good draws enough =
    let parts = good_parts formats accepted size f good in (
      symmetric url (encoded keys.write (message f (take (size f) draws))),
      drop (size f) draws,
      made_data_if url keys formats accepted size message f parts.fits parts.some parts.accepts draws (omega (arith, parts.small)),
      left_after (size f) draws parts.small,
    )

-- ---- pseudorandom functions

abbrev hkdf_prf_format : ℕ → HashType → HkdfPrfKeyFormat
hkdf_prf_format n hash = record { params = Some (record { hash = hash_number hash; salt = [] }); key_size = n; version = 0 }

abbrev hmac_prf_format : ℕ → HashType → HmacPrfKeyFormat
hmac_prf_format n hash = record { params = Some (record { hash = hash_number hash }); key_size = n; version = 0 }

abbrev is_good_hkdf : HkdfPrfKeyFormat → Bool
is_good_hkdf f = is_good prf_messages.hkdf_prf_key_format (λ f. is_some (prf_keys.hkdf_prf_hash f.params f.key_size)) (λ f. f.key_size) f

hkdf_makes : (f : HkdfPrfKeyFormat) → is_good_hkdf f ≡ true → MakesKeys (template_of prf_keys.hkdf_prf_url prf_messages.hkdf_prf_key_format f Raw)
hkdf_makes f good =
    by_manager managers.HkdfPrf (template_of prf_keys.hkdf_prf_url prf_messages.hkdf_prf_key_format f Raw) refl refl
    (made_by_format prf_keys.hkdf_prf_url prf_messages.hkdf_prf_key prf_messages.hkdf_prf_key_format
    (λ f. is_some (prf_keys.hkdf_prf_hash f.params f.key_size)) (λ f. f.key_size) (λ f. prf_keys.new_hkdf_prf_key f.params) f good)

abbrev is_good_hmac_prf : HmacPrfKeyFormat → Bool
is_good_hmac_prf f = is_good prf_messages.hmac_prf_key_format (λ f. is_some (prf_keys.hmac_prf_hash f.params f.key_size)) (λ f. f.key_size) f

hmac_prf_makes : (f : HmacPrfKeyFormat) → is_good_hmac_prf f ≡ true → MakesKeys (template_of prf_keys.hmac_prf_url prf_messages.hmac_prf_key_format f Raw)
hmac_prf_makes f good =
    by_manager managers.HmacPrf (template_of prf_keys.hmac_prf_url prf_messages.hmac_prf_key_format f Raw) refl refl
    (made_by_format prf_keys.hmac_prf_url prf_messages.hmac_prf_key prf_messages.hmac_prf_key_format
    (λ f. is_some (prf_keys.hmac_prf_hash f.params f.key_size)) (λ f. f.key_size) (λ f. prf_keys.new_hmac_prf_key f.params) f good)

abbrev is_good_cmac_prf : AesCmacPrfKeyFormat → Bool
is_good_cmac_prf f = is_good prf_messages.aes_cmac_prf_key_format (λ f. nat_eq f.key_size 32) (λ f. f.key_size) f

cmac_prf_makes : (f : AesCmacPrfKeyFormat) → is_good_cmac_prf f ≡ true → MakesKeys (template_of prf_keys.aes_cmac_prf_url prf_messages.aes_cmac_prf_key_format f Raw)
cmac_prf_makes f good =
    by_manager managers.AesCmacPrf (template_of prf_keys.aes_cmac_prf_url prf_messages.aes_cmac_prf_key_format f Raw) refl refl
    (made_by_format prf_keys.aes_cmac_prf_url prf_messages.aes_cmac_prf_key prf_messages.aes_cmac_prf_key_format
    (λ f. nat_eq f.key_size 32) (λ f. f.key_size) (λ f. prf_keys.new_aes_cmac_prf_key) f good)

prfs_make : AllNamed MakesKeys prf_templates
unfolding spelling field varint varint_within
prfs_make = (
  hkdf_makes (hkdf_prf_format 32 Sha256) refl,
  (
    hmac_prf_makes (hmac_prf_format 32 Sha256) refl,
    (hmac_prf_makes (hmac_prf_format 64 Sha512) refl, (cmac_prf_makes (record { key_size = 32; version = 0 }) refl, tt)),
  ),
)

-- ---- MACs

abbrev is_good_hmac : HmacKeyFormat → Bool
is_good_hmac f = is_good mac_messages.hmac_key_format (λ f. mac_keys.are_hmac_params f.params f.key_size) (λ f. f.key_size) f

hmac_makes : (f : HmacKeyFormat) → is_good_hmac f ≡ true → MakesKeys (template_of mac_keys.hmac_url mac_messages.hmac_key_format f Tink)
hmac_makes f good =
    by_manager managers.Hmac (template_of mac_keys.hmac_url mac_messages.hmac_key_format f Tink) refl refl
    (made_by_format mac_keys.hmac_url mac_messages.hmac_key mac_messages.hmac_key_format
    (λ f. mac_keys.are_hmac_params f.params f.key_size) (λ f. f.key_size) (λ f. mac_keys.new_hmac_key f) f good)

abbrev is_good_cmac : AesCmacKeyFormat → Bool
is_good_cmac f = is_good mac_messages.aes_cmac_key_format (λ f. mac_keys.are_cmac_params f.params f.key_size) (λ f. f.key_size) f

cmac_makes : (f : AesCmacKeyFormat) → is_good_cmac f ≡ true → MakesKeys (template_of mac_keys.cmac_url mac_messages.aes_cmac_key_format f Tink)
cmac_makes f good =
    by_manager managers.AesCmac (template_of mac_keys.cmac_url mac_messages.aes_cmac_key_format f Tink) refl refl
    (made_by_format mac_keys.cmac_url mac_messages.aes_cmac_key mac_messages.aes_cmac_key_format
    (λ f. mac_keys.are_cmac_params f.params f.key_size) (λ f. f.key_size) (λ f. mac_keys.new_cmac_key f) f good)

macs_make : AllNamed MakesKeys mac_templates
unfolding spelling field varint varint_within
macs_make = (
  hmac_makes (mac_keys.hmac_format 32 Sha256 16) refl,
  (
    hmac_makes (mac_keys.hmac_format 32 Sha256 32) refl,
    (
      hmac_makes (mac_keys.hmac_format 64 Sha512 32) refl,
      (hmac_makes (mac_keys.hmac_format 64 Sha512 64) refl, (cmac_makes (mac_keys.cmac_format 32 16) refl, tt)),
    ),
  ),
)

-- ---- AEADs

abbrev is_good_gcm : AesGcmKeyFormat → Bool
is_good_gcm f = is_good aead_messages.aes_gcm_key_format (λ f. is_aes_key_size f.key_size) (λ f. f.key_size) f

gcm_makes : (f : AesGcmKeyFormat) (prefix : OutputPrefixType) → is_good_gcm f ≡ true → is_known_prefix (prefix_number prefix) ≡ true
    → MakesKeys (template_of aead_keys.gcm_url aead_messages.aes_gcm_key_format f prefix)
gcm_makes f prefix good known =
    by_manager managers.AesGcm (template_of aead_keys.gcm_url aead_messages.aes_gcm_key_format f prefix) refl known
    (made_by_format aead_keys.gcm_url aead_messages.aes_gcm_key aead_messages.aes_gcm_key_format
    (λ f. is_aes_key_size f.key_size) (λ f. f.key_size) (λ f. aead_keys.new_gcm_key) f good)

abbrev is_good_gcm_siv : AesGcmSivKeyFormat → Bool
is_good_gcm_siv f = is_good aead_messages.aes_gcm_siv_key_format (λ f. is_aes_key_size f.key_size) (λ f. f.key_size) f

gcm_siv_makes : (f : AesGcmSivKeyFormat) (prefix : OutputPrefixType) → is_good_gcm_siv f ≡ true → is_known_prefix (prefix_number prefix) ≡ true
    → MakesKeys (template_of aead_keys.gcm_siv_url aead_messages.aes_gcm_siv_key_format f prefix)
gcm_siv_makes f prefix good known =
    by_manager managers.AesGcmSiv (template_of aead_keys.gcm_siv_url aead_messages.aes_gcm_siv_key_format f prefix) refl known
    (made_by_format aead_keys.gcm_siv_url aead_messages.aes_gcm_siv_key aead_messages.aes_gcm_siv_key_format
    (λ f. is_aes_key_size f.key_size) (λ f. f.key_size) (λ f. aead_keys.new_gcm_siv_key) f good)

abbrev composed_format : AesCtrKeyFormat → HmacKeyFormat → AesCtrHmacAeadKeyFormat
composed_format a h = record { aes_ctr_key_format = Some a; hmac_key_format = Some h }

-- the key's two parts have at most 64 bytes together
abbrev is_good_composed : AesCtrKeyFormat → HmacKeyFormat → Bool
is_good_composed a h =
    is_good composed_messages.aes_ctr_hmac_aead_key_format (λ _. is_composed_format a h) (λ _. a.key_size + h.key_size) (composed_format a h)

composed_drawn : (a : AesCtrKeyFormat) (h : HmacKeyFormat) → is_composed_format a h ≡ true → (draws : List ℕ) → a.key_size + h.key_size ≤ length draws
    → composed_made (composed_format a h) draws ≡ (Ok (new_composed_key a h (take a.key_size draws) (take h.key_size (drop a.key_size draws))), drop h.key_size (drop a.key_size draws))
composed_drawn a h accepts draws enough =
    let first : nat_le a.key_size (length draws) ≡ true = grind (arith, nat_tests) in
    let rest : h.key_size ≤ length (drop a.key_size draws) = omega (arith, length-drop {A = ℕ}) in
    let second : nat_le h.key_size (length (drop a.key_size draws)) ≡ true = grind (arith, nat_tests) in
    rw (accepts, first, second) refl

composed_made_by : (a : AesCtrKeyFormat) (h : HmacKeyFormat) → AreGood composed_messages.aes_ctr_hmac_aead_key_format (λ _. is_composed_format a h) (λ _. a.key_size + h.key_size) (composed_format a h)
    → (draws : List ℕ) → 64 ≤ length draws
    → GivesData draws (makes_data composed_url composed_messages.aes_ctr_hmac_aead_key composed_messages.aes_ctr_hmac_aead_key_format composed_made
    (encoded composed_messages.aes_ctr_hmac_aead_key_format.write (composed_format a h)) draws)
composed_made_by a h parts draws enough =
    let key = new_composed_key a h (take a.key_size draws) (take h.key_size (drop a.key_size draws)) in
    let left = drop h.key_size (drop a.key_size draws) in (
      symmetric composed_url (encoded composed_messages.aes_ctr_hmac_aead_key.write key),
      left,
      made_data composed_url composed_messages.aes_ctr_hmac_aead_key composed_messages.aes_ctr_hmac_aead_key_format composed_made (composed_format a h)
          parts.fits parts.some draws left key (composed_drawn a h parts.accepts draws (omega (arith, parts.small))),
      omega (arith, parts.small, length-drop {A = ℕ}),
    )

composed_makes : (a : AesCtrKeyFormat) (h : HmacKeyFormat) → is_good_composed a h ≡ true
    → MakesKeys (template_of composed_url composed_messages.aes_ctr_hmac_aead_key_format (composed_format a h) Tink)
composed_makes a h good =
    by_manager managers.AesCtrHmacAead (template_of composed_url composed_messages.aes_ctr_hmac_aead_key_format (composed_format a h) Tink) refl refl
    (composed_made_by a h (good_parts composed_messages.aes_ctr_hmac_aead_key_format (λ _. is_composed_format a h) (λ _. a.key_size + h.key_size) (composed_format a h) good))

aeads_make : AllNamed MakesKeys aead_templates
unfolding spelling field varint varint_within
aeads_make = (
  gcm_makes (record { key_size = 16; version = 0 }) Tink refl refl,
  (
    gcm_makes (record { key_size = 32; version = 0 }) Tink refl refl,
    (
      gcm_makes (record { key_size = 32; version = 0 }) Raw refl refl,
      (
        gcm_siv_makes (record { version = 0; key_size = 16 }) Tink refl refl,
        (
          gcm_siv_makes (record { version = 0; key_size = 32 }) Tink refl refl,
          (
            gcm_siv_makes (record { version = 0; key_size = 32 }) Raw refl refl,
            (
              composed_makes (record { params = Some (record { iv_size = 16 }); key_size = 16 }) (mac_keys.hmac_format 32 Sha256 16) refl,
              (composed_makes (record { params = Some (record { iv_size = 16 }); key_size = 32 }) (mac_keys.hmac_format 32 Sha256 32) refl, tt),
            ),
          ),
        ),
      ),
    ),
  ),
)

-- ---- streaming AEADs

abbrev is_good_ctr_hmac : AesCtrHmacStreamingKeyFormat → Bool
is_good_ctr_hmac f = is_good streaming_messages.aes_ctr_hmac_streaming_key_format (λ f. streaming_keys.is_ctr_hmac_format f) (λ f. f.key_size) f

ctr_hmac_makes : (f : AesCtrHmacStreamingKeyFormat) → is_good_ctr_hmac f ≡ true → MakesKeys (template_of aes_ctr_hmac_url streaming_messages.aes_ctr_hmac_streaming_key_format f Raw)
ctr_hmac_makes f good =
    by_manager managers.AesCtrHmac (template_of aes_ctr_hmac_url streaming_messages.aes_ctr_hmac_streaming_key_format f Raw) refl refl
    (made_by_format aes_ctr_hmac_url streaming_messages.aes_ctr_hmac_streaming_key streaming_messages.aes_ctr_hmac_streaming_key_format
    (λ f. streaming_keys.is_ctr_hmac_format f) (λ f. f.key_size) (λ f. streaming_keys.new_ctr_hmac_key f) f good)

abbrev is_good_gcm_hkdf : AesGcmHkdfStreamingKeyFormat → Bool
is_good_gcm_hkdf f = is_good streaming_messages.aes_gcm_hkdf_streaming_key_format (λ f. streaming_keys.is_gcm_hkdf_format f) (λ f. f.key_size) f

gcm_hkdf_makes : (f : AesGcmHkdfStreamingKeyFormat) → is_good_gcm_hkdf f ≡ true → MakesKeys (template_of aes_gcm_hkdf_url streaming_messages.aes_gcm_hkdf_streaming_key_format f Raw)
gcm_hkdf_makes f good =
    by_manager managers.AesGcmHkdf (template_of aes_gcm_hkdf_url streaming_messages.aes_gcm_hkdf_streaming_key_format f Raw) refl refl
    (made_by_format aes_gcm_hkdf_url streaming_messages.aes_gcm_hkdf_streaming_key streaming_messages.aes_gcm_hkdf_streaming_key_format
    (λ f. streaming_keys.is_gcm_hkdf_format f) (λ f. f.key_size) (λ f. streaming_keys.new_gcm_hkdf_key f) f good)

streaming_aeads_make : AllNamed MakesKeys streaming_templates
unfolding spelling field varint varint_within
streaming_aeads_make = (
  ctr_hmac_makes (streaming_keys.ctr_hmac_format 16 4096) refl,
  (
    ctr_hmac_makes (streaming_keys.ctr_hmac_format 16 1048576) refl,
    (
      ctr_hmac_makes (streaming_keys.ctr_hmac_format 32 4096) refl,
      (
        ctr_hmac_makes (streaming_keys.ctr_hmac_format 32 1048576) refl,
        (
          gcm_hkdf_makes (streaming_keys.gcm_hkdf_format 16 4096) refl,
          (
            gcm_hkdf_makes (streaming_keys.gcm_hkdf_format 16 1048576) refl,
            (
              gcm_hkdf_makes (streaming_keys.gcm_hkdf_format 32 4096) refl,
              (gcm_hkdf_makes (streaming_keys.gcm_hkdf_format 32 1048576) refl, tt),
            ),
          ),
        ),
      ),
    ),
  ),
)

-- ---- deterministic AEADs

abbrev is_good_aes_siv : AesSivKeyFormat → Bool
is_good_aes_siv f = is_good daead_messages.aes_siv_key_format (λ f. nat_eq f.key_size 64) (λ f. f.key_size) f

aes_siv_makes : (f : AesSivKeyFormat) → is_good_aes_siv f ≡ true → MakesKeys (template_of daead_keys.aes_siv_url daead_messages.aes_siv_key_format f Tink)
aes_siv_makes f good =
    by_manager managers.AesSiv (template_of daead_keys.aes_siv_url daead_messages.aes_siv_key_format f Tink) refl refl
    (made_by_format daead_keys.aes_siv_url daead_messages.aes_siv_key daead_messages.aes_siv_key_format
    (λ f. nat_eq f.key_size 64) (λ f. f.key_size) (λ f. daead_keys.new_aes_siv_key) f good)

daeads_make : AllNamed MakesKeys daead_templates
unfolding spelling field varint varint_within
daeads_make = (aes_siv_makes (record { key_size = 64; version = 0 }) refl, tt)

-- ---- all of them

-- a template that has a name
pub named_makes : (name : List ℕ) (kt : KeyTemplate) → template_named name ≡ Some kt → MakesKeys kt
unfolding template_named
named_makes name kt is = of_name MakesKeys name kt with_everything.templates all is
  where
    prfs : AllNamed MakesKeys with_prfs.templates
    prfs = with_more MakesKeys [] prf_templates tt prfs_make

    macs : AllNamed MakesKeys with_macs.templates
    macs = with_more MakesKeys with_prfs.templates mac_templates prfs macs_make

    aeads : AllNamed MakesKeys with_aeads.templates
    aeads = with_more MakesKeys with_macs.templates aead_templates macs aeads_make

    streams : AllNamed MakesKeys with_streaming_aeads.templates
    streams = with_more MakesKeys with_aeads.templates streaming_templates aeads streaming_aeads_make

    all : AllNamed MakesKeys with_everything.templates
    all = with_more MakesKeys with_streaming_aeads.templates daead_templates streams daeads_make
