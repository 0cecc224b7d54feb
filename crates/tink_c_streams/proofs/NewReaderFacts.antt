-- From the keys of a file to a reader under them.
use Rattle.std.proofs.Common.{◌≡◌, inl, inr, ℕ, List, [], map, Ok, ap, refl, sym, subst, ◌∙◌, take}
use Rattle.std.proofs.lemmas.Simd.{map-map}
use Rattle.std.specs.Prelude.{Result, Err, IfOk, IfErr, MatchResult}
use Rattle.tink_io.specs.Answering.{Answers}
use Rattle.tink_io.specs.declared.error.Kind.TheVariants.{OutOfMemory}
use Rattle.tink_io.specs.declared.error.TinkError.{TinkError}
use Rattle.stream_model.specs.Opening.{IsChosen, opening_key}
use Rattle.tink_keyset_io.specs.Files.{wire_of}
use Rattle.tink_sets.specs.declared.entry.TypedEntry.{TypedEntry}
use Rattle.tink_sets.specs.declared.typed_set.TypedPrimitiveSet.{TypedPrimitiveSet}
use Rattle.tink_streaming_keys.specs.StreamKinds.{key_in_set}
use Rattle.tink_streaming_keys.specs.declared.stream_kind.StreamKind.{StreamKind}
use Rattle.tink_streaming_aead.specs.Wrapped.{KeepsOrder, all_entries, keys_in}
use Rattle.tink_run.specs.AllKeys.{load}
use Rattle.tink_run.specs.HeldKeys.{GivesLoaded}
use Rattle.tink_run.proofs.LoadedFacts.{loaded_usable}
use Rattle.tink_rewrap.proofs.SetSteps.{chosen_of_loaded}
use Rattle.tink_c_streams.specs.NewReaders.{BeginsNoReader, BeginsReader, HasKeys, IsNewReader, NoNewReader}
use Rattle.tink_c_streams.specs.declared.readers.PieceReader.{PieceReader}
use Rattle.tink_c_streams.specs.declared.readers.PieceReader.TheVariants.{Choosing}

-- copies of the entries have their keys
pub copied : (aad own : List ℕ) (items entries : List (TypedEntry StreamKind)) → own ≡ aad → items ≡ entries
    → map (λ k. opening_key own (key_in_set k)) items ≡ map (opening_key aad) (keys_in entries)
copied aad own items entries d e =
    ap (λ x. map (λ k. opening_key x (key_in_set k)) items) d ∙ ap (λ xs. map (λ k. opening_key aad (key_in_set k)) xs) e
    ∙ sym (map-map (opening_key aad) key_in_set entries)

-- no byte is kept
pub none_kept : (filled : ℕ) (bytes : List ℕ) → filled ≡ 0 → take filled bytes ≡ []
none_kept filled bytes none = ap (λ n. take n bytes) none

module _ (wire aad : List ℕ) (set : TypedPrimitiveSet StreamKind) (loads : GivesLoaded (Ok set) (load wire)) (order : KeepsOrder set.entries) where
  new_reader : (r : PieceReader) → HasKeys (map (opening_key aad) (keys_in (all_entries set.entries))) r → IsNewReader wire aad r
  new_reader (Choosing c) has = record {
    loaded = loads.0;
    loads = loads.1;
    is_open = tt;
    reads = (
      λ S chosen h. chosen_of_loaded aad loads.0 set (loaded_usable wire loads.0 loads.1).0 loads.2 order S chosen (subst (λ ks. IsChosen ks S chosen) has.0 h),
      has.1,
      refl,
    );
  }
  new_reader _ has = absurd has

  pub under_keyset : (result : Result PieceReader TinkError) → IfOk result (λ r. HasKeys (map (opening_key aad) (keys_in (all_entries set.entries))) r) → IfErr result (λ e. e.kind ≡ OutOfMemory)
      → MatchResult result (λ r. IsNewReader wire aad r) (λ e. NoNewReader wire e.kind)
  under_keyset (Ok r) has want = new_reader r has
  under_keyset (Err e) has want = inl want

module _ (file aad : List ℕ) where
  pub under_file : (wire : List ℕ) (result : Result PieceReader TinkError) → wire_of file ≡ Ok wire → MatchResult result (λ r. IsNewReader wire aad r) (λ e. NoNewReader wire e.kind)
      → MatchResult result (λ r. BeginsReader file aad r) (λ e. BeginsNoReader file e.kind)
  under_file wire (Ok r) is m = record { wire = wire; reads = is; holds = m }
  under_file wire (Err e) is m = inr (inr (record { wire = wire; reads = is; holds = m }))

pub no_file : (file : List ℕ) (e : TinkError) → Answers {T = List ℕ} (Err e) (wire_of file) → BeginsNoReader file e.kind
no_file file e (inl want) = inl want
no_file file e (inr is) = inr (inl is)
