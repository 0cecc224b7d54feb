-- Keys of streams that messages make are usable.
use Rattle.std.proofs.Common.{◌≡◌, ℕ, List, [], Bool, true, false, cond, length, subst, arith, Some, None}
use Rattle.std.specs.declared.option.Option.{Option}
use Rattle.std.specs.Prelude.{nat_eq}
use Rattle.std.proofs.lemmas.Bool.Decides.{nat_tests}
use Rattle.std.proofs.lemmas.Option.{cond_some}
use Rattle.hash_keys.specs.declared.Hash.{Hash}
use Rattle.tink_proto_keys.specs.Streaming.{AesGcmHkdfStreamingKey, AesCtrHmacStreamingKey}
use Rattle.wire_format.specs.Reading.{◌>>=◌}
use Rattle.stream_model.specs.Key.{StreamKey, IsUsable}
use Rattle.stream_model.specs.Key.SegmentKind.{CtrHmac, Gcm}
use Rattle.loading_model.specs.Building.{is_streaming, is_gcm_streaming, streaming_key, gcm_streaming_key, streaming_of, gcm_hkdf_of, hash_numbered}

-- a key with these sizes is usable
sizes_usable : (main : List ℕ) (derived : ℕ) (hkdf_hash tag_hash : Hash) (tag segment : ℕ) → is_streaming (length main) derived tag_hash tag segment ≡ true
    → IsUsable (record { main = main; hkdf_hash = Some hkdf_hash; derived = derived; segment = segment; offset = 0; kind = CtrHmac tag_hash tag; out = [] })
sizes_usable main derived hkdf_hash tag_hash tag segment e = record {
  derived = grind (arith, nat_tests);
  tag = (grind (arith, nat_tests), grind (arith, nat_tests));
  room = grind (arith, nat_tests);
  segment = grind (arith, nat_tests);
}

streaming_key_usable : (main : List ℕ) (derived : ℕ) (hkdf_hash tag_hash : Hash) (tag segment : ℕ) (k : StreamKey) → streaming_key main derived hkdf_hash tag_hash tag segment ≡ Some k → IsUsable k
streaming_key_usable main derived hkdf_hash tag_hash tag segment k e =
    let c = cond_some (is_streaming (length main) derived tag_hash tag segment) _ k e in
    subst IsUsable c.1 (sizes_usable main derived hkdf_hash tag_hash tag segment c.0)

-- what a sequence of steps ends in, its last step does
bound : {A B : Type 0} (o : Option A) (f : A → Option B) (b : B) → (o >>= f) ≡ Some b → (a : A) × (f a ≡ Some b)
bound None f b e = absurd (cc)
bound (Some a) f b e = (a, e)

if_some : (b : Bool) (o : Option StreamKey) (k : StreamKey) → cond b o None ≡ Some k → o ≡ Some k
if_some true o k e = e
if_some false o k e = absurd (cc)

pub streaming_of_usable : (m : AesCtrHmacStreamingKey) (k : StreamKey) → streaming_of m ≡ Some k → IsUsable k
unfolding streaming_of
streaming_of_usable m k e =
    let params = bound m.params _ k e in
    let hmac = bound params.0.hmac_params _ k params.1 in
    let hkdf_hash = bound (hash_numbered params.0.hkdf_hash_type) _ k hmac.1 in
    let tag_hash = bound (hash_numbered hmac.0.hash) _ k hkdf_hash.1 in
    streaming_key_usable m.key_value params.0.derived_key_size hkdf_hash.0 tag_hash.0 hmac.0.tag_size params.0.ciphertext_segment_size k
    (if_some (nat_eq m.version 0) _ k tag_hash.1)

-- a key by GCM with these sizes is usable
gcm_sizes_usable : (main : List ℕ) (derived : ℕ) (hkdf_hash : Hash) (segment : ℕ) → is_gcm_streaming (length main) derived segment ≡ true
    → IsUsable (record { main = main; hkdf_hash = Some hkdf_hash; derived = derived; segment = segment; offset = 0; kind = Gcm; out = [] })
gcm_sizes_usable main derived hkdf_hash segment e = record {
  derived = grind (arith, nat_tests);
  tag = tt;
  room = grind (arith, nat_tests);
  segment = grind (arith, nat_tests);
}

gcm_streaming_key_usable : (main : List ℕ) (derived : ℕ) (hkdf_hash : Hash) (segment : ℕ) (k : StreamKey) → gcm_streaming_key main derived hkdf_hash segment ≡ Some k → IsUsable k
gcm_streaming_key_usable main derived hkdf_hash segment k e =
    let c = cond_some (is_gcm_streaming (length main) derived segment) _ k e in
    subst IsUsable c.1 (gcm_sizes_usable main derived hkdf_hash segment c.0)

pub gcm_hkdf_of_usable : (m : AesGcmHkdfStreamingKey) (k : StreamKey) → gcm_hkdf_of m ≡ Some k → IsUsable k
unfolding gcm_hkdf_of
gcm_hkdf_of_usable m k e =
    let params = bound m.params _ k e in
    let hkdf_hash = bound (hash_numbered params.0.hkdf_hash_type) _ k params.1 in
    gcm_streaming_key_usable m.key_value params.0.derived_key_size hkdf_hash.0 params.0.ciphertext_segment_size k
    (if_some (nat_eq m.version 0) _ k hkdf_hash.1)
