-- From the steps of a new writer to its answer.
use Rattle.std.proofs.Common.{◌≡◌, ◌⊎◌, inl, inr, ◌+◌, ◌<◌, ℕ, false, true, List, [], ◌∷◌, ◌++◌, length, take, drop, sym, ap, subst, ◌∙◌, Some, None, get_or}
use Rattle.std.specs.Prelude.{Err}
use Rattle.std.proofs.lemmas.Bool.{false≢true}
use Rattle.std.proofs.lemmas.List.{take-append-drop}
use Rattle.std.specs.declared.option.Option.{Option}
use Rattle.hash_keys.specs.declared.Hash.{Hash}
use Rattle.hash_keys.specs.declared.Hash.TheVariants.{Sha1, Sha224, Sha256, Sha384, Sha512}
use Rattle.tink_io.specs.declared.error.Kind.{Kind}
use Rattle.tink_io.specs.declared.error.Kind.TheVariants.{OutOfMemory, RandomFault, UnknownHash, UnsupportedHash, WriteFault}
use Rattle.tink_primitives.specs.Meaning.{IsEndOf}
use Rattle.stream_model.specs.Key.{StreamKey, first_room, front, header, header_length, keys_of, nonce_size, room}
use Rattle.stream_model.specs.Sealing.{drawn, nonce_prefix_of, salt_of}
use Rattle.tink_streaming_ciphers.specs.declared.stream_segment.StreamSegment.{StreamSegment}
use Rattle.tink_streaming_io.specs.declared.writing.Mode.{Mode}
use Rattle.tink_streaming_io.specs.declared.writing.Mode.TheVariants.{Open}
use Rattle.tink_streaming_keys.specs.Encrypting.{DrewHeader, NewWriterRefused}
use Rattle.tink_streaming_keys.specs.NewStreams.{IsPrepared, NotPrepared}
use Rattle.tink_streaming_ciphers.specs.StreamSegments.{segment_by}
use Rattle.tink_streaming_keys.specs.StreamingKeys.{IsDerived, deriving_hash}
use Rattle.tink_streaming_keys.proofs.HeaderFacts.{drawn_header, enough_drawn, header_parts, seg_is}
use Rattle.stream_model.specs.Cut.{numbered}

-- a draw that was not refused took a salt and a prefix
pub drew_header : (k : StreamKey) (draws left : List ℕ) → (length draws < drawn k → false ≡ true) → left ≡ drop (drawn k) draws → DrewHeader k draws left
drew_header k draws left few rest = record {
  enough = enough_drawn (length draws) (drawn k) (λ short. false≢true (few short));
  rest = rest;
}

-- by which kinds a hash is refused
pub hash_refusal : (h : Option Hash) (kind : Kind) → deriving_hash h ≡ Err kind → (kind ≡ UnknownHash) ⊎ (kind ≡ UnsupportedHash)
hash_refusal None kind e = inl (cc)
hash_refusal (Some Sha1) kind e = absurd (cc)
hash_refusal (Some Sha224) kind e = inr (cc)
hash_refusal (Some Sha256) kind e = absurd (cc)
hash_refusal (Some Sha384) kind e = absurd (cc)
hash_refusal (Some Sha512) kind e = absurd (cc)

-- the hash is refused
pub hash_refused : (k : StreamKey) (draws left : List ℕ) (kind : Kind) → DrewHeader k draws left → deriving_hash k.hkdf_hash ≡ Err kind → NotPrepared k draws left kind
hash_refused k draws left kind drew e = elim (hash_refusal k.hkdf_hash kind e) [
  | inl unknown ↦ subst (NotPrepared k draws left) (sym unknown) (record { drew = drew; hash = subst (λ x. deriving_hash k.hkdf_hash ≡ Err x) unknown e })
  | inr unsupported ↦ subst (NotPrepared k draws left) (sym unsupported) (record { drew = drew; hash = subst (λ x. deriving_hash k.hkdf_hash ≡ Err x) unsupported e })
]

-- a header that was drawn, and the cipher that is derived under its salt
module _ (k : StreamKey) (aad draws left h : List ℕ) (n m : ℕ) (cipher : StreamSegment) (drew : DrewHeader k draws left) (out : List ℕ) (out_is : out ≡ k.out) (size : n ≡ header_length k) (t : take n h ≡ header_length k ∷ take (drawn k) draws)
    (salt : m ≡ k.derived) (d : IsDerived k aad (take m (drop 1 (take n h))) cipher) where
  abbrev parts : (length (take n h) ≡ header_length k) × (get_or (take n h) 0 0 ≡ header_length k) × (take k.derived (drop 1 (take n h)) ≡ salt_of k draws) × (drop (k.derived + 1) (take n h) ≡ nonce_prefix_of k draws)
  parts = drawn_header k draws h n size drew.enough t

  header_is : take n h ≡ header k (salt_of k draws) (nonce_prefix_of k draws)
  header_is = header_parts k (take n h) parts.0 parts.1 ∙ ap (λ s. header k s (drop (k.derived + 1) (take n h))) parts.2 ∙ ap (header k (salt_of k draws)) parts.3

  -- its bytes behind what stands before a header are the front
  front_is : out ++ take n h ≡ front k (salt_of k draws) (nonce_prefix_of k draws)
  front_is = ap (λ xs. xs ++ take n h) out_is ∙ ap (λ xs. k.out ++ xs) header_is

  salt_is : take m (drop 1 (take n h)) ≡ salt_of k draws
  salt_is = ap (λ x. take x (drop 1 (take n h))) salt ∙ parts.2

  keys_are : keys_of k aad (salt_of k draws) ≡ Some d.keys
  keys_are = subst (λ s. keys_of k aad s ≡ Some d.keys) salt_is d.keys_are

  -- a fresh writer by the cipher is that of the key's new stream
  pub prepared : (encrypter : StreamSegment) (size : ℕ) (prefix : List ℕ) (a b : ℕ) (mode : Mode) (number : ℕ) (held : List ℕ) → encrypter ≡ cipher → size ≡ nonce_size k → prefix ≡ drop (k.derived + 1) (take n h) → a ≡ first_room k → b ≡ room k
      → mode ≡ Open → number ≡ 0 → held ≡ []
      → IsPrepared k aad draws left (out ++ take n h) (numbered (segment_by encrypter) size prefix) a b mode number held
  prepared encrypter size prefix a b mode number held e s p first later is_open none_written none_held = record {
    drew = drew;
    keys = d.keys;
    keys_are = keys_are;
    front_is = front_is;
    segments = seg_is k aad (take m (drop 1 (take n h))) (nonce_prefix_of k draws) cipher encrypter size prefix d e s (p ∙ parts.3);
    first_is = first;
    later_is = later;
    is_open = is_open;
    none_written = none_written;
    none_held = none_held;
  }

-- ---- the draws that are left are an end of those that there were

pub drew_end : (k : StreamKey) (draws left : List ℕ) → DrewHeader k draws left → IsEndOf left draws
drew_end k draws left drew = (take (drawn k) draws, sym (take-append-drop (drawn k) draws) ∙ ap (λ xs. take (drawn k) draws ++ xs) (sym drew.rest))

-- and after a refusal too
pub refused_end : {W : Type 0} (got : W → Option (List ℕ)) (faults : W → ℕ) (k : StreamKey) (aad draws left : List ℕ) (old new : W) (kind : Kind) → NewWriterRefused got faults k aad draws left old new kind → IsEndOf left draws
refused_end got faults k aad draws left old new OutOfMemory r = ([], sym r.undrawn)
refused_end got faults k aad draws left old new RandomFault r = ([], sym r.untouched.undrawn)
refused_end got faults k aad draws left old new UnknownHash r = drew_end k draws left r.drew
refused_end got faults k aad draws left old new UnsupportedHash r = drew_end k draws left r.drew
refused_end got faults k aad draws left old new WriteFault r = drew_end k draws left r.drew
refused_end got faults k aad draws left old new _ r = absurd r
