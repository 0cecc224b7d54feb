-- What is chosen of the rest of the keys is chosen, and so many of those before were tried.
use Rattle.std.proofs.Common.{◌≡◌, ◌≤◌, ◌+◌, ◌*◌, ◌-◌, IfSome, vec_len, vec_capacity}
use Rattle.stream_model.specs.Opening.{opening_key}
use Rattle.tink_streaming_io.proofs.ChoosingSteps.{ChosenFrom}
use Rattle.tink_range.specs.Objects.{KeepsObject}
use Rattle.tink_range.proofs.PlacedFacts.{PlacedFrom}
use Rattle.tink_range.proofs.TriesFacts.{TriesFrom}
use Rattle.tink_range.proofs.choosing_at.choose_at.Given as goal

abbrev pub invariant-loop-place : goal.invariant-loop-place
invariant-loop-place g l =
    let object = g.A.ReadAt in
    record {
      sealed_len : vec_len l.sealed ≡ vec_len l.fn.sealed;
      text_room : vec_capacity l.fn.text ≤ vec_capacity l.text;
      nonce_len : vec_len l.nonce ≡ vec_len l.fn.nonce;
      prefix_room : 7 ≤ vec_capacity l.prefix;
      chosen : IfSome (object.bytes l.fn.object) (ChosenFrom (λ k. opening_key l.fn.aad (g.T.DerivesStreams.key_of k)) l.keys l.place);
      tried : IfSome (object.bytes l.fn.object) (TriesFrom (λ k. opening_key l.fn.aad (g.T.DerivesStreams.key_of k)) l.keys l.place (l.steps - l.fn.steps));
      placed : IfSome (object.bytes l.fn.object) (PlacedFrom (λ k. opening_key l.fn.aad (g.T.DerivesStreams.key_of k)) l.keys l.place);
      ticked : l.fn.steps ≤ l.steps;
      few : l.steps ≤ l.fn.steps + l.place;
      kept : KeepsObject object.length_of object.bytes object.faults l.fn.object l.object;
      count : object.faults l.object ≡ object.faults l.fn.object;
      taken : object.taken l.object ≤ object.taken l.fn.object + l.place * vec_len l.fn.sealed;
      same : object.same l.fn.object l.object;
    }
