-- A message with its padding as a prefix of a buffer.
use Rattle.std.proofs.Common.{◌≡◌, ℕ, ◌+◌, ◌-◌, ◌%◌, ◌≤◌, true, false, List, ◌++◌, Option, None, Some, length, take, drop, ap, sym, ◌∙◌, refl, arith, append_assoc, length-append, length-take, length-drop, inl, inr}
use Rattle.std.proofs.lemmas.Bool.{cases_lt}
use Rattle.std.proofs.lemmas.List.{take_at, take_all, drop_at, drop_all, drop-drop, append-nil}
use Rattle.std.specs.Prelude.{option_map, Result, Ok, Err, IsOk, OnErr, ◌↔◌}
use Rattle.cipher.specs.Buffers.{pick}
use Rattle.cipher.specs.Transcript.{Block}
use Rattle.cipher.proofs.Parts.{pick-same, length-pick}
use Rattle.cipher_modes.specs.Paddings.{Fits, IsPadded, padded}
use Rattle.cipher_modes.specs.Padded.{bytes_run, IsEncrypted}

-- behind a message in front of a buffer the buffer is as it was
drop-behind : (message old : List ℕ) (len n : ℕ) → length message ≡ len → len ≤ n → drop n (message ++ drop len old) ≡ drop n old
drop-behind message old len n size order =
    let k : ℕ = n - len in
    let split : n ≡ len + k = omega arith in
    ap (λ m. drop m (message ++ drop len old)) split
    ∙ (sym (drop-drop k len (message ++ drop len old)) ∙ (ap (drop k) (drop_at message (drop len old) len size) ∙ (drop-drop k len old ∙ ap (λ m. drop m old) (sym split))))

pub fits-room : (o : Option (List ℕ)) (len room : ℕ) → Fits o len room → len ≤ room
fits-room None len room h = absurd h
fits-room (Some tail) len room h = omega arith

-- the input is read into the front of the padded output
pub padded-loaded : (o : Option (List ℕ)) (len n : ℕ) (input old mid new : List ℕ) → len ≤ length old → IsPadded o len n old mid → new ≡ pick input (take len mid) ++ drop len mid
    → IsPadded o len n (pick input (take len old) ++ drop len old) new
padded-loaded None len n input old mid new room h e = h
padded-loaded (Some tail) len n input old mid new room h e =
    let front : length (take len old) ≡ len = simp length-take (omega arith) in
    let split : mid ≡ take len old ++ (tail ++ drop n old) = h.1 ∙ append_assoc (take len old) tail (drop n old) in
    let kept : take len mid ≡ take len old = ap (take len) split ∙ take_at (take len old) (tail ++ drop n old) len front in
    let behind : drop len mid ≡ tail ++ drop n old = ap (drop len) split ∙ drop_at (take len old) (tail ++ drop n old) len front in
    let read : List ℕ = pick input (take len old) in
    let size : length read ≡ len = length-pick input (take len old) ∙ front in
    let is : new ≡ (read ++ tail) ++ drop n old =
    e ∙ (ap (λ zs. pick input zs ++ drop len mid) kept ∙ (ap (λ zs. read ++ zs) behind ∙ sym (append_assoc read tail (drop n old)))) in
    let n_is : n ≡ len + length tail = h.0 in
    let first : take len (read ++ drop len old) ≡ read = take_at read (drop len old) len size in
    let last : drop n (read ++ drop len old) ≡ drop n old = drop-behind read old len n size (omega arith) in
    (h.0, rw (first, last) is)

-- a padded message is within the room, and is whole blocks by the law of its padding
pub padded-within : (o : Option (List ℕ)) (len n room : ℕ) (old new : List ℕ) → Fits o len room → IsPadded o len n old new → n ≤ room
padded-within None len n room old new fits h = absurd h
padded-within (Some tail) len n room old new fits h = let n_is : n ≡ len + length tail = h.0 in omega arith

pub padded-whole : (o : Option (List ℕ)) (B len n : ℕ) (old new : List ℕ) → ((tail : List ℕ) → o ≡ Some tail → (len + length tail) % B ≡ 0) → IsPadded o len n old new → n % B ≡ 0
padded-whole None B len n old new law h = absurd h
padded-whole (Some tail) B len n old new law h = ap (λ m. m % B) h.0 ∙ law tail refl

encrypted : {S : Type 0} (step : S → Block → Block × S) (s : S) (B : ℕ) (o : Option (List ℕ)) (len n : ℕ) (message old mid new : List ℕ) → length message ≡ len
    → IsPadded o len n (message ++ drop len old) mid → new ≡ bytes_run step s B (take n mid) ++ drop n mid → IsEncrypted step s B (option_map (λ tail. message ++ tail) o) n old new
encrypted step s B None len n message old mid new size h e = h
encrypted step s B (Some tail) len n message old mid new size h e =
    let n_is : n ≡ len + length tail = h.0 in
    let first : take len (message ++ drop len old) ≡ message = take_at message (drop len old) len size in
    let last : drop n (message ++ drop len old) ≡ drop n old = drop-behind message old len n size (omega arith) in
    let is : mid ≡ (message ++ tail) ++ drop n old = h.1 ∙ (ap (λ zs. (zs ++ tail) ++ drop n (message ++ drop len old)) first ∙ ap (λ zs. (message ++ tail) ++ zs) last) in
    let whole : length (message ++ tail) ≡ n = length-append message tail ∙ omega arith in
    let front : take n mid ≡ message ++ tail = ap (take n) is ∙ take_at (message ++ tail) (drop n old) n whole in
    let rest : drop n mid ≡ drop n old = ap (drop n) is ∙ drop_at (message ++ tail) (drop n old) n whole in
    (sym whole, e ∙ (ap (λ zs. bytes_run step s B zs ++ drop n mid) front ∙ ap (λ zs. bytes_run step s B (message ++ tail) ++ zs) rest))

-- and what a mode makes of it
pub message-encrypted : {S : Type 0} (step : S → Block → Block × S) (s : S) (B : ℕ) (padding : ℕ → ℕ → Option (List ℕ)) (len n : ℕ) (input old mid new : List ℕ) → len ≤ length old
    → IsPadded (padding B len) len n (pick input (take len old) ++ drop len old) mid → new ≡ bytes_run step s B (take n mid) ++ drop n mid
    → IsEncrypted step s B (padded padding B (pick input (take len old))) n old new
message-encrypted step s B padding len n input old mid new room h e =
    let size : length (pick input (take len old)) ≡ len = length-pick input (take len old) ∙ simp length-take (omega arith) in
    rw size (encrypted step s B (padding B len) len n (pick input (take len old)) old mid new size h e)

-- where the room is enough for any padding, a refusal says that there is none
pub cannot-pad : {E : Type 0} (f : List ℕ → List ℕ) (r : Result ℕ E) (o : Option (List ℕ)) (len room : ℕ) → (IsOk r ↔ Fits o len room) → ((tail : List ℕ) → o ≡ Some tail → len + length tail ≤ room)
    → OnErr r (option_map f o ≡ None)
cannot-pad f (Ok n) o len room iff fits = tt
cannot-pad f (Err e) None len room iff fits = refl
cannot-pad f (Err e) (Some tail) len room iff fits = let no : false ≡ true = iff.1 (fits tail refl) in cc

-- the encrypted bytes, with which the output then begins: o is the padded message as the code reads it
pub encrypted-prefix : {S : Type 0} (step : S → Block → Block × S) (s : S) (B : ℕ) (o wanted : Option (List ℕ)) (n : ℕ) (old new : List ℕ) → wanted ≡ o → length new ≡ length old
    → IsEncrypted step s B o n old new → option_map (bytes_run step s B) wanted ≡ Some (take n new)
encrypted-prefix step s B None wanted n old new same size h = absurd h
encrypted-prefix step s B (Some message) wanted n old new same size h =
    let made : List ℕ = bytes_run step s B message in
    let count : length made + (length old - n) ≡ length old = sym (ap length h.1 ∙ simp (length-append, length-drop) refl) ∙ size in
    let front : take n new ≡ made = elim (cases_lt (length old) n) [
      | inl past ↦ take_all n new (omega arith) ∙ (h.1 ∙ (ap (λ zs. made ++ zs) (drop_all n old (omega arith)) ∙ append-nil made))
      | inr room ↦ ap (take n) h.1 ∙ take_at made (drop n old) n (omega arith)
    ] in
    ap (option_map (bytes_run step s B)) same ∙ ap Some (sym front)

-- a front of a list has its length
pub cut_length : (n : ℕ) (xs : List ℕ) → n ≤ length xs → length (take n xs) ≡ n
cut_length n xs h = simp length-take (omega arith)

pub joined_length : (n : ℕ) (xs ys : List ℕ) → n ≤ length ys → length xs ≡ length (take n ys) → length (xs ++ drop n ys) ≡ length ys
joined_length n xs ys h e = let front : length (take n ys) ≡ n = cut_length n ys h in simp (length-append, length-drop) (omega arith)

-- an output of the padded length is all encrypted
pub all-encrypted : {S : Type 0} (step : S → Block → Block × S) (s : S) (B : ℕ) (p : Option (List ℕ)) (message new rest old : List ℕ) (n len : ℕ) → ((tail : List ℕ) → p ≡ Some tail → len ≡ length message + length tail)
    → length old ≡ len → length new ≡ length old → IsEncrypted step s B (option_map (λ tail. message ++ tail) p) n old new → option_map (bytes_run step s B) (option_map (λ tail. message ++ tail) p) ≡ Some (take len (new ++ rest))
all-encrypted step s B None message new rest old n len law size same h = absurd h
all-encrypted step s B (Some tail) message new rest old n len law size same h =
    let made : List ℕ = bytes_run step s B (message ++ tail) in
    let n_is : n ≡ length message + length tail = h.0 ∙ length-append message tail in
    let len_is : len ≡ length message + length tail = law tail refl in
    let is : new ≡ made = h.1 ∙ (ap (λ zs. made ++ zs) (drop_all n old (omega arith)) ∙ append-nil made) in
    ap Some (sym (take_at new rest len (same ∙ size) ∙ is))

-- a message that is read is the input
pub message-read : (message old : List ℕ) → length message ≤ length old → pick message (take (length message) old) ≡ message
message-read message old room =
    let size : length (take (length message) old) ≡ length message = simp length-take (omega arith) in pick-same message (take (length message) old) (sym size)
