-- The promises of a rewrap over known bytes.
use Rattle.std.specs.Prelude.{◌≡◌, ℕ, ◌≤◌, ◌^◌, List, [], ◌++◌, length, drop, Some, None, Result, Ok, Err}
use Rattle.std.specs.Io.KnownBytes.{Keeps}
use Rattle.tink_io.specs.Written.{AppendsPrefix}
use Rattle.tink_io.specs.declared.error.Kind.{Kind}
use Rattle.tink_io.specs.declared.error.Kind.TheVariants.{WriteFault}
use Rattle.tink_io.specs.declared.error.TinkError.{TinkError}
use Rattle.stream_model.specs.Agree.{joined}
use Rattle.stream_model.specs.Key.{keys_of}
use Rattle.stream_model.specs.Opening.{OpeningKey, IsAgreed, IsChosen, IsStream}
use Rattle.stream_model.specs.Sealing.{stream, part, chunk_count, drawn, salt_of, nonce_prefix_of}
use Rattle.loading_model.specs.Loading.{Loaded, opening_keys}
use Rattle.tink_run.specs.AllKeys.{load}
use Rattle.tink_run.specs.declared.report.Report.{Report}
use Rattle.tink_io.specs.Outside.{Outside, HasNoFault, AreKnown}
use Rattle.tink_run.specs.Run.{IsOkOrWant}
use Rattle.tink_rewrap.specs.Rewrapping.{Sides}

-- The source was exactly a stream of the chosen key. Exactly the stream of its text under the other primary key, with the
-- first draws, was written, and nothing is left.
pub record IsWholeRewrap (s : Sides) (draws left_draws S G : List ℕ) (new : Outside) (report : Report) : Type 0 where
  pub from_loaded : Loaded
  pub from_loads : load s.from ≡ Ok from_loaded
  pub to_loaded : Loaded
  pub to_loads : load s.to ≡ Ok to_loaded
  pub key : OpeningKey
  pub chosen : IsChosen (opening_keys s.from_aad from_loaded) S (Some key)
  pub texts : List (List ℕ)
  pub written : new.got ≡ Some (G ++ stream to_loaded.primary s.to_aad (salt_of to_loaded.primary draws) (nonce_prefix_of to_loaded.primary draws) (joined texts))
  pub stream : IsStream key S texts
  pub at_end : new.left ≡ Some []
  pub rest : left_draws ≡ drop (drawn to_loaded.primary) draws
  pub segments : report.segments ≡ chunk_count to_loaded.primary (joined texts)
  pub bytes : report.bytes ≡ length (joined texts)

-- by this answer the last segment, which is marked, may be written: the source is a stream of the key
abbrev pub MayEnd : Result Report TinkError → OpeningKey → List ℕ → Type 0
MayEnd (Ok report) key S = (texts : List (List ℕ)) × IsStream key S texts
MayEnd (Err e) key S = (e.kind ≡ WriteFault) × (texts : List (List ℕ)) × IsStream key S texts

-- Else what was written is a prefix of the front and of unmarked segments of the text that agrees. It is nothing where no key
-- is chosen or a keyset does not load.
pub record IsUnended (s : Sides) (draws S : List ℕ) (old new : Outside) (answer : Result Report TinkError) : Type 0 where
  pub under_a_key : (l m : Loaded) (key : OpeningKey) (texts : List (List ℕ)) → load s.from ≡ Ok l → load s.to ≡ Ok m
      → IsChosen (opening_keys s.from_aad l) S (Some key) → IsAgreed key S texts → (MayEnd answer key S → ⊥)
      → AppendsPrefix old.got new.got (part m.primary s.to_aad (salt_of m.primary draws) (nonce_prefix_of m.primary draws) (joined texts))
  pub under_none : (l : Loaded) → load s.from ≡ Ok l → IsChosen (opening_keys s.from_aad l) S None → Keeps old.got new.got
  pub from_unloaded : (kind : Kind) → load s.from ≡ Err kind → Keeps old.got new.got
  pub to_unloaded : (kind : Kind) → load s.to ≡ Err kind → Keeps old.got new.got

abbrev pub LeavesUnended : Sides → List ℕ → Outside → Outside → Result Report TinkError → Type 0
LeavesUnended s draws old new answer = (S G : List ℕ) → AreKnown old S G → IsUnended s draws S old new answer

-- both keysets load, draws suffice, keys are derived, the source is a stream of the chosen key, and its text has at most
-- 2^32 chunks
pub record CanRewrap (s : Sides) (draws S : List ℕ) : Type 0 where
  pub from_loaded : Loaded
  pub from_loads : load s.from ≡ Ok from_loaded
  pub to_loaded : Loaded
  pub to_loads : load s.to ≡ Ok to_loaded
  pub enough : drawn to_loaded.primary ≤ length draws
  pub derives : keys_of to_loaded.primary s.to_aad (salt_of to_loaded.primary draws) ≡ None → ⊥
  pub key : OpeningKey
  pub chosen : IsChosen (opening_keys s.from_aad from_loaded) S (Some key)
  pub texts : List (List ℕ)
  pub stream : IsStream key S texts
  pub few : chunk_count to_loaded.primary (joined texts) ≤ 2 ^ 32

-- where neither count rose and the stream can be moved, it is, or there is no memory
abbrev pub CompletesRewrap : Sides → List ℕ → Outside → Outside → Result Report TinkError → Type 0
CompletesRewrap s draws old new answer = (S G : List ℕ) → AreKnown old S G → HasNoFault old new → CanRewrap s draws S → IsOkOrWant answer
