-- Sets with the same groups decrypt alike.
use Rattle.std.proofs.Common.{ℕ, List, [], length, take, drop, ap₂}
use Rattle.std.specs.Prelude.{Option, None, Result, Vec, if◌then◌else◌, nat_lt, unwrap_or}
use Rattle.std.specs.BTreeMap.{BTreeMap}
use Rattle.tink_io.specs.declared.error.Kind.{Kind}
use Rattle.tink_io.specs.declared.error.Kind.TheVariants.{DecryptFailed}
use Rattle.tink_sets.specs.declared.entry.TypedEntry.{TypedEntry}
use Rattle.tink_sets.specs.Groups.{group_of, HaveSameGroups}
use Rattle.tink_keysets.specs.Accepting.{first_value, or_else, value_or}
use Rattle.tink_keysets.specs.Decrypting.{entry_decrypts}
use Rattle.tink_aead.specs.Wrapped.{HasSameAnswers}

pub same_answers : {P A : Type 0} (decrypts : P → List ℕ → List ℕ → Result (List ℕ) Kind) (old new : BTreeMap (Vec ℕ A) (List (TypedEntry P))) → HaveSameGroups old new
    → HasSameAnswers decrypts (group_of old) (group_of new)
same_answers {P} decrypts old new same = λ input aad.
    let answer = entry_decrypts decrypts aad in
    ap₂ (λ (prefixed raw : Option (List (TypedEntry P))). value_or DecryptFailed
    (or_else (if nat_lt 5 (length input) then first_value (λ e. answer e (drop 5 input)) (unwrap_or prefixed []) else None) (first_value (λ e. answer e input) (unwrap_or raw []))))
    (same (take 5 input)) (same [])
