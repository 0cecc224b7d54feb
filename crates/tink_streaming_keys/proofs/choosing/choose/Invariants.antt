use Rattle.std.proofs.Common.{◌≡◌, ◌≤◌, IfSome, [], map, vec_len, vec_capacity}
use Rattle.std.specs.Io.KnownBytes.{Keeps}
use Rattle.stream_model.specs.Opening.{opening_key}
use Rattle.tink_streaming_io.specs.Keeping.{kept_rest}
use Rattle.tink_streaming_io.proofs.ChoosingSteps.{ChosenFrom, KeepsFronts}
use Rattle.tink_streaming_keys.proofs.choosing.choose.Given as goal

-- what is chosen of the rest of the keys is chosen
abbrev pub invariant-loop-key : goal.invariant-loop-key
invariant-loop-key g l =
    let source = g.S.Source in
    record {
      len : vec_len l.kept.buffer ≡ vec_len l.fn.kept.buffer;
      nonce_len : vec_len l.nonce ≡ vec_len l.fn.nonce;
      capacity : vec_capacity l.opened ≡ vec_capacity l.fn.opened;
      kept_capacity : vec_capacity l.kept.buffer ≡ vec_capacity l.fn.kept.buffer;
      nonce_capacity : vec_capacity l.nonce ≡ vec_capacity l.fn.nonce;
      more : l.fn.kept.filled ≤ l.kept.filled;
      prefix_capacity : vec_capacity l.prefix ≡ vec_capacity l.fn.prefix;
      rest : Keeps (kept_rest source.left l.fn.kept l.fn.source) (kept_rest source.left l.kept l.source);
      chosen : IfSome (kept_rest source.left l.fn.kept l.fn.source) (ChosenFrom (λ k. opening_key l.fn.aad (g.T.DerivesStreams.key_of k)) l.keys l.key-index);
      further : IfSome (kept_rest source.left l.fn.kept l.fn.source) (KeepsFronts (map (λ k. opening_key l.fn.aad (g.T.DerivesStreams.key_of k)) l.keys) l.fn.kept.filled l.kept.filled);
      empty : l.opened.items ≡ [];
      later : source.faults l.fn.source ≤ source.faults l.source;
      same : source.same l.fn.source l.source;
    }
