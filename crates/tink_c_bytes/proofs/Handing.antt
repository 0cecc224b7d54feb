-- From what was put into the caller's buffer to what is told of it.
use Rattle.std.proofs.Common.{◌≡◌, inl, inr, ℕ, List, Result, Ok, Err, ap, subst, sym, ◌∙◌}
use Rattle.tink_io.specs.Answering.{Answers}
use Rattle.tink_io.specs.declared.error.Kind.{Kind}
use Rattle.tink_io.specs.declared.error.Kind.TheVariants.{OutOfMemory}
use Rattle.tink_io.specs.declared.error.TinkError.{TinkError}
use Rattle.tink_c_bytes.specs.Delivered.{Delivers, Handed, Hands, HasNoMemory, IsUnmade, MadeBy, Puts}
use Rattle.tink_c_bytes.specs.Statuses.{c_status}

module _ (Gives : List ℕ → Type 0) (Refuses : Kind → Type 0) where
  no_memory : (e : TinkError) (h : Handed) → e.kind ≡ OutOfMemory → IsUnmade e.kind h → HasNoMemory h
  no_memory e h is u = record { status = u.status ∙ ap c_status is; unchanged = u.unchanged; counted = u.counted }

  pub hands : (made : Result (List ℕ) TinkError) (h : Handed) → MadeBy Gives Refuses made → Puts made h → Hands Gives Refuses h
  hands (Ok made) h gives (inl g) =
      inl (record { bytes = g.bytes; gives = subst Gives (sym g.gives) gives; status = g.status; fits = g.fits; filled = g.filled; counted = g.counted })
  hands (Ok made) h gives (inr n) =
      inr (inl (record { bytes = n.bytes; gives = subst Gives (sym n.gives) gives; status = n.status; longer = n.longer; unchanged = n.unchanged; counted = n.counted }))
  hands (Err e) h (inl is) u = inr (inr (inr (no_memory e h is u)))
  hands (Err e) h (inr refuses) u =
      inr (inr (inl (record { kind = e.kind; refuses = refuses; status = u.status; unchanged = u.unchanged; counted = u.counted })))

-- a call that gives exactly this
answered : (made : Result (List ℕ) TinkError) (told : Result (List ℕ) Kind) → Answers made told
    → MadeBy (λ bytes. told ≡ Ok bytes) (λ kind. told ≡ Err kind) made
answered (Ok bytes) told is = is
answered (Err e) told is = is

pub delivers : (made : Result (List ℕ) TinkError) (h : Handed) (told : Result (List ℕ) Kind) → Puts made h → Answers made told → Delivers told h
delivers made h told puts is = hands (λ bytes. told ≡ Ok bytes) (λ kind. told ≡ Err kind) made h (answered made told is) puts
