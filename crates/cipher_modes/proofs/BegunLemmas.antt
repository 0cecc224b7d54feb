-- An answer that begins an output says what was made there.
use Rattle.std.proofs.Common.{◌≡◌, ℕ, ◌≤◌, List, Option, None, Some, length, take, ap, sym, ◌∙◌, ◌%◌, refl, eq-eqb, le_trans, le_of_eq, ◌<◌, inl, inr}
use Rattle.std.proofs.lemmas.Bool.{cases_lt, false≢true}
use Rattle.cipher.specs.Buffers.{pick}
use Rattle.cipher.proofs.Parts.{length-pick}
use Rattle.std.specs.Prelude.{option_map, Result, Ok, Err, IsOk, IsErr, IfOk, MatchResult, ◌↔◌}
use Rattle.std.specs.Borrow.{Bor}
use Rattle.cipher.specs.Transcript.{Block}
use Rattle.cipher_modes.specs.Padded.{bytes_run, IsFrontOf, IsEncrypted, deciphered, left_by, message_in}
use Rattle.cipher_modes.proofs.MessageLemmas.{encrypted-prefix}

pub begun-ok : {E : Type 0} (bytes : List ℕ) (made : Result ℕ E) (r : Result (Bor (List ℕ)) E) (F : Type 0) → IsFrontOf bytes made r → (IsOk made ↔ F) → IsOk r ↔ F
begun-ok bytes (Ok n) (Ok x) F b iff = iff
begun-ok bytes (Ok n) (Err e) F b iff = absurd b
begun-ok bytes (Err e) (Ok x) F b iff = absurd b
begun-ok bytes (Err e) (Err f) F b iff = iff

-- the encrypted bytes: o is the padded message as the code reads it
pub begun-encrypted : {S E : Type 0} (step : S → Block → Block × S) (s : S) (B : ℕ) (o wanted : Option (List ℕ)) (old new : List ℕ) (made : Result ℕ E) (r : Result (Bor (List ℕ)) E) → (IsOk made → wanted ≡ o) → length new ≡ length old
    → IsFrontOf new made r → IfOk made (λ n. IsEncrypted step s B o n old new) → IfOk r (λ x. option_map (bytes_run step s B) wanted ≡ Some x.now)
begun-encrypted step s B o wanted old new (Ok n) (Ok x) same size b h = encrypted-prefix step s B o wanted n old new (same refl) size h ∙ ap Some (sym b)
begun-encrypted step s B o wanted old new (Ok n) (Err e) same size b h = absurd b
begun-encrypted step s B o wanted old new (Err e) (Ok x) same size b h = absurd b
begun-encrypted step s B o wanted old new (Err e) (Err f) same size b h = tt

-- the message: wanted is the message as a clause has it
pub begun-message : {E : Type 0} (wanted message : Option (List ℕ)) (bytes : List ℕ) (k : ℕ) (made : Result ℕ E) (r : Result (Bor (List ℕ)) E) → wanted ≡ message → IsFrontOf bytes made r
    → MatchResult made (λ n. (n ≤ k) × (message ≡ Some (take n bytes))) (λ _. message ≡ None) → MatchResult r (λ x. wanted ≡ Some x.now) (λ _. wanted ≡ None)
begun-message wanted message bytes k (Ok n) (Ok x) same b h = same ∙ (h.1 ∙ ap Some (sym b))
begun-message wanted message bytes k (Ok n) (Err e) same b h = absurd b
begun-message wanted message bytes k (Err e) (Ok x) same b h = absurd b
begun-message wanted message bytes k (Err e) (Err f) same b h = same ∙ h

pub message-within : {E : Type 0} (message : Option (List ℕ)) (bytes : List ℕ) (k m : ℕ) (made : Result ℕ E)
    → MatchResult made (λ n. (n ≤ k) × (message ≡ Some (take n bytes))) (λ _. message ≡ None) → k ≤ m → IfOk made (λ n. n ≤ m)
message-within message bytes k m (Ok n) h order = le_trans h.0 order
message-within message bytes k m (Err e) h order = tt

pub begun-err : {E : Type 0} (bytes : List ℕ) (made : Result ℕ E) (r : Result (Bor (List ℕ)) E) → IsFrontOf bytes made r → IsErr made → IsErr r
begun-err bytes (Ok n) (Ok x) b h = h
begun-err bytes (Ok n) (Err e) b h = absurd b
begun-err bytes (Err e) (Ok x) b h = absurd b
begun-err bytes (Err e) (Err f) b h = h

err-within : {E : Type 0} (made : Result ℕ E) (m : ℕ) → IsErr made → IfOk made (λ n. n ≤ m)
err-within (Ok n) m h = absurd (false≢true h)
err-within (Err e) m h = tt

-- where the message is told only where the output has room
pub told-within : {E : Type 0} (message : Option (List ℕ)) (bytes : List ℕ) (k old m : ℕ) (made : Result ℕ E) → m ≡ old → (old < k → IsErr made)
    → (k ≤ old → MatchResult made (λ n. (n ≤ k) × (message ≡ Some (take n bytes))) (λ _. message ≡ None)) → IfOk made (λ n. n ≤ m)
told-within message bytes k old m made same short told =
    elim (cases_lt old k) [ inl less ↦ err-within made m (short less) | inr room ↦ message-within message bytes k m made (told room) (le_trans room (le_of_eq (sym same))) ]

-- in a longer output that begins alike
pub message-behind : {E : Type 0} (wanted message : Option (List ℕ)) (k m : ℕ) (bytes longer : List ℕ) (made : Result ℕ E) → wanted ≡ message → k ≤ m → ((n : ℕ) → n ≤ k → take n longer ≡ take n bytes)
    → MatchResult made (λ n. (n ≤ k) × (message ≡ Some (take n bytes))) (λ _. message ≡ None) → MatchResult made (λ n. (n ≤ m) × (wanted ≡ Some (take n longer))) (λ _. wanted ≡ None)
message-behind wanted message k m bytes longer (Ok n) same order alike h = (le_trans h.0 order, same ∙ (h.1 ∙ ap Some (sym (alike n h.0))))
message-behind wanted message k m bytes longer (Err e) same order alike h = same ∙ h

-- what was deciphered of whole blocks
deciphered-whole : {S : Type 0} (step : S → Block → Block × S) (s : S) (B : ℕ) (input old : List ℕ) → length old % B ≡ 0 → deciphered step s B (pick input old) ≡ Some (bytes_run step s B (pick input old))
deciphered-whole step s B input old whole = rw (eq-eqb (length (pick input old) % B) 0 (ap (λ n. n % B) (length-pick input old) ∙ whole)) refl

pub run-written : {S : Type 0} (step : S → Block → Block × S) (s : S) (B : ℕ) (input old mid new : List ℕ) → length old % B ≡ 0 → mid ≡ pick input old → new ≡ bytes_run step s B mid
    → new ≡ left_by (deciphered step s B (pick input old)) old
run-written step s B input old mid new whole loaded ran = ran ∙ (ap (bytes_run step s B) loaded ∙ ap (λ o. left_by o old) (sym (deciphered-whole step s B input old whole)))

pub run-told : {S : Type 0} (step : S → Block → Block × S) (s : S) (B : ℕ) (unpadded : ℕ → List ℕ → Option (List ℕ)) (input old mid new : List ℕ) (answer : Option (List ℕ)) → length old % B ≡ 0 → mid ≡ pick input old
    → new ≡ bytes_run step s B mid → unpadded B new ≡ answer → message_in unpadded B (deciphered step s B (pick input old)) ≡ answer
run-told step s B unpadded input old mid new answer whole loaded ran told =
    ap (message_in unpadded B) (deciphered-whole step s B input old whole) ∙ (ap (unpadded B) (sym (ran ∙ ap (bytes_run step s B) loaded)) ∙ told)
