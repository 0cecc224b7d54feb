-- Lists that are read item by item.
use Rattle.std.proofs.Common.{◌≡◌, ℕ, ◌+◌, List, [], ◌∷◌, ◌++◌, drop, Option, Some, None, option_map, refl, sym, ap, append_assoc, append-nil}
use Rattle.wire_format.specs.Reading.{◌>>=◌}
use Rattle.serde_json.specs.Data.{Data}
use Rattle.serde_json.specs.View.{view, items_view}
use Rattle.serde_json.specs.declared.value.Value.{Value}
use Rattle.tink_json.specs.Fields.{items}

module _ {T : Type 0} (form : Data → Option T) where
  -- the items behind a place, read behind what those before it were read as
  abbrev pub after : List T → List Value → ℕ → Option (List T)
  after done values place = option_map (λ rest. done ++ rest) (items form (items_view (drop place values)))

  same_after_none : (read : Option (List T)) → read ≡ option_map (λ rest. [] ++ rest) read
  same_after_none None = refl
  same_after_none (Some rest) = refl

  pub after-start : (values : List Value) → items form (items_view values) ≡ after [] values 0
  after-start values = same_after_none (items form (items_view values))

  one_more : (done : List T) (m : T) (read : Option (List T)) → option_map (λ rest. done ++ rest) (read >>= λ ms. Some (m ∷ ms)) ≡ option_map (λ rest. (done ++ m ∷ []) ++ rest) read
  one_more done m None = refl
  one_more done m (Some ms) = ap Some (sym (append_assoc done (m ∷ []) ms))

  -- an item that is read
  pub after-item : (done : List T) (values : List Value) (place : ℕ) (v : Value) (m : T) → drop place values ≡ v ∷ drop (place + 1) values
      → form (view v) ≡ Some m → after done values place ≡ after (done ++ m ∷ []) values (place + 1)
  after-item done values place v m is read = rw (is, read) (one_more done m (items form (items_view (drop (place + 1) values))))

  -- an item that is not
  pub after-bad : (done : List T) (values : List Value) (place : ℕ) (v : Value) → drop place values ≡ v ∷ drop (place + 1) values
      → form (view v) ≡ None → after done values place ≡ None
  after-bad done values place v is read = rw (is, read) refl

  pub after-end : (done : List T) (values : List Value) (place : ℕ) → drop place values ≡ [] → after done values place ≡ Some done
  after-end done values place is = rw is (ap Some (append-nil done))
