use Rattle.std.proofs.Common.{◌%◌, ◌<◌, ◌^◌, ◌∙◌, [], ap, get_or, subst, arith}
use Rattle.std.proofs.lemmas.Nat.{and_mask}
use Rattle.gcm.specs.Carries.{bytes_of}
use Rattle.gcm.specs.Multiples.{multiple8}
use Rattle.gcm.proofs.EightBits.{multiple8_below}
use Rattle.gcm.proofs.large_multiples.LargeMultiples.entry_bytes.Goals as goal

pub returns-clause-below : goal.returns-clause-below
returns-clause-below c = multiple8_below c.args.self.now (c.args.x % 256) (subst (λ y. y < 2 ^ 128) c.self.view_is c.self.invariant.fits)

pub returns-clause-bytes : goal.returns-clause-bytes
returns-clause-bytes c = ap (λ n. get_or c.self.inside.table n []) (and_mask c.args.x 8) ∙ c.self.invariant.table (c.args.x % 256) (omega arith) ∙ ap (λ y. bytes_of (multiple8 y (c.args.x % 256))) c.self.view_is
