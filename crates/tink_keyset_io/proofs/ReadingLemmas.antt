-- Texts that are read piece by piece.
use Rattle.std.proofs.Common.{◌≡◌, inl, inr, ℕ, ◌+◌, ◌^◌, ◌<◌, ◌≤◌, List, [], ◌++◌, length, take, Bool, true, false, cond, Some, None, Ok, Err, Result, refl, sym, ap, ◌∙◌, subst, arith, length-append, append-nil, IfOk, IfSome}
use Rattle.std.proofs.lemmas.Bool.{le-ltb, lt-ltb}
use Rattle.std.proofs.KnownBytes.{Consumes-trans, Consumes-nil, Consumes-kept}
use Rattle.std.proofs.lemmas.List.{length-take}
use Rattle.std.specs.declared.option.Option.{Option}
use Rattle.std.specs.Io.KnownBytes.{Consumes, IsAtEnd, Keeps}
use Rattle.tink_io.specs.declared.error.Kind.{Kind}
use Rattle.tink_io.specs.declared.error.Kind.TheVariants.{KeysetTooLong}
use Rattle.tink_io.specs.declared.error.TinkError.{TinkError}
use Rattle.tink_io.proofs.FaultLemmas.{Rose-earlier}
use Rattle.tink_io.specs.Answering.{or_refused}
use Rattle.tink_keysets.specs.Ends.{IsAsTold, IsReadRefusal, HasRead}
use Rattle.tink_keyset_io.specs.Reading.{told, IsFault, IsUnreadText, IsPiece}
use Rattle.tink_io.specs.Taken.{LosesAtMost}

-- a piece behind a text
pub text_goes_on : (a b c : Option (List ℕ)) (before after piece : List ℕ) (n : ℕ) → Consumes a b before → IsPiece b c before after piece n → Consumes a c after
text_goes_on a b c before after piece n first next = subst (Consumes a c) (sym next.text) (Consumes-trans a b c before (take n piece) first next.taken)

-- how long the text is then
pub length-piece : (b c : Option (List ℕ)) (before after piece : List ℕ) (n : ℕ) → IsPiece b c before after piece n → length after ≡ length before + n
length-piece b c before after piece n next =
    ap length next.text ∙ omega (arith, next.within, length-append before (take n piece), length-take n piece)

-- a front that is lost after a text
pub loses_more : (a b c : Option (List ℕ)) (text : List ℕ) (most room : ℕ) → Consumes a b text → LosesAtMost room b c → length text + room ≤ most → LosesAtMost most a c
loses_more a b c text most room first next fits =
    (text ++ next.0, omega (arith, next.1, fits, length-append text next.0), Consumes-trans a b c text next.0 first next.2)

pub loses_none : (a b : Option (List ℕ)) (most : ℕ) → Keeps a b → LosesAtMost most a b
loses_none a b most same = ([], omega arith, Consumes-kept a a b [] (Consumes-nil a) same)

-- a fault after a while is a fault
pub fault_later : (k : Kind) (before then now : ℕ) → before ≤ then → IsFault k then now → IsFault k before now
fault_later k before then now later (inl memory) = inl memory
fault_later k before then now later (inr fault) = inr (fault.0, Rose-earlier before then now later fault.1)

-- a text of which more than the most was read is too long
pub too_long : (a b : Option (List ℕ)) (text : List ℕ) (most : ℕ) → Consumes a b text → most < length text → IfSome a (λ all. most < length all)
too_long None b text most h long = tt
too_long (Some all) None text most h long = absurd h
too_long (Some all) (Some rest) text most h long = omega (arith, ap length h, length-append text rest)

-- what is read at the end of known bytes is all of them
pub whole : (a b : Option (List ℕ)) (text : List ℕ) → Consumes a b text → IsAtEnd b → IfSome a (λ all. all ≡ text)
whole None b text h end = tt
whole (Some all) None text h end = absurd h
whole (Some all) (Some rest) text h end = h ∙ ap (λ l. text ++ l) end ∙ append-nil text

-- the text is what the given answer is of
pub told_of : {M : Type 0} (refusal : Kind) (message : List ℕ → Option M) (a : Option (List ℕ)) (text given : List ℕ)
    → given ≡ text → IfSome a (λ all. all ≡ text) → length text ≤ 2 ^ 26 → IsAsTold (told refusal message a) (or_refused refusal (message given))
told_of refusal message None text given same is fits = tt
told_of refusal message (Some all) text given same is fits = rw (same, is, le-ltb (2 ^ 26) (length text) fits) refl

-- why a text could not be had is why the read is refused
pub refused_of : {M : Type 0} (refusal : Kind) (message : List ℕ → Option M) (a : Option (List ℕ)) (k : Kind) (before now : ℕ)
    → IsUnreadText (2 ^ 26) KeysetTooLong a k before now → IsReadRefusal (told refusal message a) k before now
refused_of refusal message a k before now (inl (inl memory)) = rw memory tt
refused_of refusal message a k before now (inl (inr fault)) = rw fault.0 fault.1
refused_of refusal message None k before now (inr long) = rw long.0 tt
refused_of refusal message (Some all) k before now (inr long) = rw (long.0, lt-ltb (2 ^ 26) (length all) long.1) refl

message_of : {M : Type 0} (refusal : Kind) (found : Option M) (m : M) → or_refused refusal found ≡ Ok m → found ≡ Some m
message_of refusal None m h = cc
message_of refusal (Some n) m h = cc

message_unless : {M : Type 0} (refusal : Kind) (found : Option M) (m : M) (long : Bool) → cond long (Err KeysetTooLong) (or_refused refusal found) ≡ Ok m → found ≡ Some m
message_unless refusal found m true h = cc
message_unless refusal found m false h = message_of refusal found m h

-- what a read gives is the message of the bytes left
pub told_is : {M : Type 0} (refusal : Kind) (message : List ℕ → Option M) (a : Option (List ℕ)) (m : M)
    → IsAsTold (told refusal message a) (Ok m) → IfSome a (λ text. message text ≡ Some m)
told_is refusal message None m h = tt
told_is refusal message (Some text) m h = message_unless refusal (message text) m _ h

-- the same of a whole answer
pub gives_message : {M : Type 0} (refusal : Kind) (message : List ℕ → Option M) (a : Option (List ℕ)) (r : Result M TinkError) (before now : ℕ)
    → HasRead r (told refusal message a) before now → IfOk r (λ m. IfSome a (λ text. message text ≡ Some m))
gives_message refusal message a (Ok m) before now h = told_is refusal message a m h
gives_message refusal message a (Err e) before now h = tt
