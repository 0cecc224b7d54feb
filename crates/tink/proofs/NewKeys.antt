-- The data of a new key is its type's URL and the key's bytes.
use Rattle.std.proofs.Common.{◌≡◌, ◌∙◌, ℕ, List, refl, sym, ap, subst, inl, inr, ⊎_elim}
use Rattle.std.specs.Prelude.{Result, Ok, Err}
use Rattle.tink_io.specs.declared.error.Kind.{Kind}
use Rattle.tink_io.specs.declared.error.TinkError.{TinkError}
use Rattle.tink_io.specs.Answering.{Replies, made_of}
use Rattle.tink_proto.specs.declared.messages.keys.KeyData.{KeyData}
use Rattle.tink_key_manager.specs.Manager.{symmetric}
use Rattle.tink.specs.Managers.{row_of}
use Rattle.tink.specs.declared.managers.Managers.{Managers}
use Rattle.tink.specs.declared.managers.Managers.TheVariants as managers

abbrev with_url : List ℕ → Result (List ℕ) Kind × List ℕ → Result KeyData Kind × List ℕ
with_url url told = (made_of (symmetric url) told.0, told.1)

data_is : (m : Managers) (format draws : List ℕ) → (row_of m).made_data format draws ≡ with_url (row_of m).url ((row_of m).made format draws)
data_is managers.AesCmacPrf format draws = refl
data_is managers.HkdfPrf format draws = refl
data_is managers.HmacPrf format draws = refl
data_is managers.AesCmac format draws = refl
data_is managers.Hmac format draws = refl
data_is managers.AesGcm format draws = refl
data_is managers.AesGcmSiv format draws = refl
data_is managers.AesCtrHmacAead format draws = refl
data_is managers.AesCtrHmac format draws = refl
data_is managers.AesGcmHkdf format draws = refl
data_is managers.AesSiv format draws = refl

module _ (m : Managers) (format old new : List ℕ) where
  behind : (r : Result KeyData TinkError) → Replies r (with_url (row_of m).url ((row_of m).made format old)) old new → Replies r ((row_of m).made_data format old) old new
  behind r replies = subst (λ (t : Result KeyData Kind × List ℕ). Replies r t old new) (sym (data_is m format old)) replies

  pub data_made : (value : List ℕ) (d : KeyData) → Replies {T = List ℕ} (Ok value) ((row_of m).made format old) old new → d ≡ symmetric (row_of m).url value → Replies (Ok d) ((row_of m).made_data format old) old new
  data_made value d replies is = behind (Ok d) (ap (made_of (symmetric (row_of m).url)) replies.0 ∙ ap Ok (sym is), replies.1)

  pub data_refused : (e : TinkError) → Replies {T = List ℕ} (Err e) ((row_of m).made format old) old new → Replies {T = KeyData} (Err e) ((row_of m).made_data format old) old new
  data_refused e replies = behind (Err e) (⊎_elim (λ short. inl short) (λ as_told. inr (ap (made_of (symmetric (row_of m).url)) as_told.0, as_told.1)) replies)
