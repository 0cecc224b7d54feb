-- The memory that is reserved for the keys of a set has room for a stream of each.
use Rattle.std.proofs.Common.{◌≡◌, ◌∙◌, ◌+◌, ◌*◌, ◌<◌, ◌≤◌, ℕ, List, All, length, map, ap, subst, sym, arith}
use Rattle.std.proofs.lemmas.Simd.{map-map}
use Rattle.std.specs.Prelude.{slice_index_or}
use Rattle.stream_model.specs.Key.{StreamKey, SegmentKind, nonce_size, nonce_size_of}
use Rattle.stream_model.specs.Key.SegmentKind.{CtrHmac, Gcm}
use Rattle.stream_model.specs.Opening.{opening_key}
use Rattle.tink_streaming_keys.specs.Rooms.{HasRoomForEach}
use Rattle.tink_streaming_aead.specs.DecryptReaders.{largest}
use Rattle.tink_run.specs.OpenReads.{room_under}
use Rattle.tink_run.proofs.ReadsSteps.{same_largest}

nonce_fits : (kind : SegmentKind) → nonce_size_of kind ≤ 16
nonce_fits (CtrHmac hash tag) = omega arith
nonce_fits Gcm = omega arith

pub has_room : {T : Type 0} (key_of : T → StreamKey) (ks js : List T) (room sealed text nonce prefix : ℕ) → ks ≡ js → All (λ k. length (key_of k).out + (key_of k).segment < room) ks
    → sealed ≡ room → text ≡ room → nonce ≡ 16 → prefix ≡ 7 → HasRoomForEach key_of js sealed text nonce prefix
has_room key_of ks js room sealed text nonce prefix same most s t n p =
    let all : All (λ k. length (key_of k).out + (key_of k).segment < room) js = subst (All (λ k. length (key_of k).out + (key_of k).segment < room)) same most in
    record {
      sealed_room = λ k d below. omega (arith, s, all k d below);
      text_room = λ k d below. omega (arith, t, all k d below);
      nonce_room = λ k d below. subst (λ m. nonce_size (key_of (slice_index_or js k d)) ≤ m) (sym n) (nonce_fits (key_of (slice_index_or js k d)).kind);
      prefix_room = omega (arith, p);
    }

-- the room of keys that are lent is that of the keys
pub room_is : {T : Type 0} (key_of : T → StreamKey) (aad : List ℕ) (ks js : List T) (room : ℕ) → ks ≡ js → room ≡ largest (map key_of ks) + 1 → room ≡ room_under (map (λ k. opening_key aad (key_of k)) js)
room_is key_of aad ks js room same most =
    let mapped : map (opening_key aad) (map key_of ks) ≡ map (λ k. opening_key aad (key_of k)) js = map-map (opening_key aad) key_of ks ∙ ap (map (λ k. opening_key aad (key_of k))) same in
    most ∙ ap (λ n. n + 1) (same_largest aad (map key_of ks)) ∙ ap room_under mapped

-- what a trial takes whose room is a byte more than the most that one of the keys has of its output prefix and a segment
pub trial_takes : {T : Type 0} (key_of : T → StreamKey) (aad : List ℕ) (ks js : List T) (room memory : ℕ) → ks ≡ js → room ≡ largest (map key_of ks) + 1 → memory ≡ room + room + 16 + 7
    → memory ≡ 2 * room_under (map (λ k. opening_key aad (key_of k)) js) + 23
trial_takes key_of aad ks js room memory same most takes = omega (arith, takes, room_is key_of aad ks js room same most)
