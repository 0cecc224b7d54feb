-- From the table of answers to the promises.
use Rattle.std.proofs.Common.{◌≡◌, ◌≤◌, ◌<◌, ◌^◌, ℕ, List, length, refl, sym, ap, subst, ◌∙◌, arith, None}
use Rattle.std.specs.Prelude.{Result, Ok, Err}
use Rattle.std.specs.Io.KnownBytes.{Appends}
use Rattle.tink_io.proofs.OutsideFacts.{told_appended, told_consumed, told_whole}
use Rattle.tink_io.specs.declared.error.Kind.{Kind}
use Rattle.tink_io.specs.declared.error.Kind.TheVariants.{OutOfMemory, ReadFault, WriteFault, RandomFault, BadKeyset, InvalidKeyset, UnsupportedKeyType, InvalidKey, NoPrimary, WrongPrimitive, UnsupportedHash, TooManySegments}
use Rattle.tink_io.specs.declared.error.TinkError.{TinkError}
use Rattle.stream_model.specs.Key.{StreamKey, IsUsable, first_room, room, keys_of}
use Rattle.tink_run.proofs.LoadedFacts.{loaded_usable}
use Rattle.stream_model.specs.Sealing.{stream, chunk_count, drawn, salt_of, nonce_prefix_of}
use Rattle.stream_model.proofs.SealingFacts.{chunks_more}
use Rattle.loading_model.specs.Loading.{Loaded}
use Rattle.tink_run.specs.AllKeys.{load}
use Rattle.tink_run.specs.declared.report.Report.{Report}
use Rattle.tink_io.specs.Outside.{Outside, HasNoFault, AreKnown}
use Rattle.tink_run.specs.SealAnswers.{SealsLoaded, SealingRefused, SealMeans, SealRefused}
use Rattle.tink_run.specs.Run.{IsWholeStream, IsOkOrWant, CanSeal}

pub seal_succeeds : (keyset aad draws left_draws T G : List ℕ) (old new : Outside) (report : Report) → SealsLoaded keyset aad draws left_draws old new (Ok report) → AreKnown old T G
    → IsWholeStream keyset aad draws left_draws T G new report
seal_succeeds keyset aad draws left_draws T G old new report s t =
    let whole = told_whole old.left new.left T s.means.text t.left s.means.read s.means.at_end in
    record {
      loaded = s.loaded;
      loads = s.loads;
      written = told_appended old.got new.got G (stream s.loaded.primary aad (salt_of s.loaded.primary draws) (nonce_prefix_of s.loaded.primary draws) T) t.got
          (subst (λ (x : List ℕ). Appends old.got new.got (stream s.loaded.primary aad (salt_of s.loaded.primary draws) (nonce_prefix_of s.loaded.primary draws) x)) (sym whole.0) s.means.written);
      at_end = whole.1;
      rest = s.rest;
      segments = s.means.segments ∙ ap (chunk_count s.loaded.primary) (sym whole.0);
      bytes = s.means.bytes ∙ ap length (sym whole.0);
    }

room_some : (k : StreamKey) → IsUsable k → (0 < first_room k) × (0 < room k)
room_some k u = (omega (arith, u.room), omega (arith, u.room))

-- a sealing that can succeed is refused for no other cause than a fault
pub sealing_complete : (keyset aad draws left_draws T G : List ℕ) (old new : Outside) (e : TinkError) (kind : Kind) → e.kind ≡ kind → SealsLoaded keyset aad draws left_draws old new (Err e) → AreKnown old T G → HasNoFault old new → CanSeal keyset aad draws T → ⊥
sealing_complete keyset aad draws left_draws T G old new e kind same s t n c = go kind (subst (SealingRefused s.loaded.primary aad (salt_of s.loaded.primary draws) (nonce_prefix_of s.loaded.primary draws) old new) same s.means)
  where
    loaded_same : s.loaded ≡ c.loaded
    loaded_same = let p = s.loads in let q = c.loads in cc

    go : (kind : Kind) → SealingRefused s.loaded.primary aad (salt_of s.loaded.primary draws) (nonce_prefix_of s.loaded.primary draws) old new kind → ⊥
    go ReadFault r = n.reads r.rose
    go WriteFault r = n.writes r.rose
    go TooManySegments r =
        let k = s.loaded.primary in
        let few : chunk_count k T ≤ 2 ^ 32 = subst (λ (l : Loaded). chunk_count l.primary T ≤ 2 ^ 32) (sym loaded_same) c.few in
        let rest = told_consumed old.left new.left T r.text t.left r.read in
        let some = room_some k (loaded_usable keyset s.loaded s.loads).1.usable in
        omega (arith, r.many, few, chunks_more (first_room k) (room k) r.text rest.0 some.0 some.1, ap (chunk_count k) rest.2)
    go _ r = r

-- a seal that can succeed does, or there is no memory
pub seal_complete : (keyset aad draws left_draws T G : List ℕ) (old new : Outside) (answer : Result Report TinkError) → SealMeans keyset aad draws left_draws old new answer → AreKnown old T G → HasNoFault old new → CanSeal keyset aad draws T → IsOkOrWant answer
seal_complete keyset aad draws left_draws T G old new (Ok report) m t n c = tt
seal_complete keyset aad draws left_draws T G old new (Err e) m t n c = go e.kind refl m
  where
    loads_not : (kind : Kind) → load keyset ≡ Err kind → ⊥
    loads_not kind e = let f = c.loads in cc

    go : (kind : Kind) → e.kind ≡ kind → SealRefused keyset aad draws left_draws old new e kind → e.kind ≡ OutOfMemory
    go OutOfMemory same r = same
    go BadKeyset same r = absurd (loads_not BadKeyset r.cause)
    go InvalidKeyset same r = absurd (loads_not InvalidKeyset r.cause)
    go UnsupportedKeyType same r = absurd (loads_not UnsupportedKeyType r.cause)
    go InvalidKey same r = absurd (loads_not InvalidKey r.cause)
    go NoPrimary same r = absurd (loads_not NoPrimary r.cause)
    go WrongPrimitive same r = absurd (loads_not WrongPrimitive r.cause)
    go RandomFault same r =
        let p = r.loads in
        let q = c.loads in
        let one : r.loaded ≡ c.loaded = cc in
        absurd (omega (arith, r.few, subst (λ (l : Loaded). drawn l.primary ≤ length draws) (sym one) c.enough))
    go UnsupportedHash same r =
        let p = r.loads in
        let q = c.loads in
        let one : r.loaded ≡ c.loaded = cc in
        absurd (c.derives (subst (λ (l : Loaded). keys_of l.primary aad (salt_of l.primary draws) ≡ None) one r.none))
    go ReadFault same r = absurd (sealing_complete keyset aad draws left_draws T G old new e ReadFault same r t n c)
    go WriteFault same r = absurd (sealing_complete keyset aad draws left_draws T G old new e WriteFault same r t n c)
    go TooManySegments same r = absurd (sealing_complete keyset aad draws left_draws T G old new e TooManySegments same r t n c)
    go _ same r = absurd r
