use Rattle.std.proofs.Common.{◌≡◌, ℕ, ◌++◌, ◌%◌, ◌≤◌, List, ap, drop, length, refl, sym, le_trans, le_of_eq, ◌∙◌}
use Rattle.cipher_modes.proofs.MessageLemmas.{message-encrypted, padded-loaded, padded-within, padded-whole, fits-room, cut_length, joined_length}
use Rattle.cipher_modes.proofs.padded.encrypt_message.Goals as goal

pub slice_bounds-load-end : goal.slice_bounds-load-end
slice_bounds-load-end g c = le_trans (fits-room _ _ _ (c.in-Ok.ensures.ok.0 refl)) (le_of_eq (sym c.pad.auto.buffer))

pub slice_bounds-load-end-2 : goal.slice_bounds-load-end-2
slice_bounds-load-end-2 g c = sym (cut_length _ c.pad.new.buffer (le_trans (fits-room _ _ _ (c.in-Ok.ensures.ok.0 refl)) (le_of_eq (sym c.pad.auto.buffer))))

pub slice_bounds-run_bytes-end : goal.slice_bounds-run_bytes-end
slice_bounds-run_bytes-end g c =
    let inside = le_trans (fits-room _ _ _ (c.in-Ok.ensures.ok.0 refl)) (le_of_eq (sym c.pad.auto.buffer)) in
    let size = joined_length c.args.len c.load.new.output c.pad.new.buffer inside c.load.auto.output ∙ c.pad.auto.buffer in
    let within = le_trans (padded-within _ _ _ _ _ _ (c.in-Ok.ensures.ok.0 refl) c.in-Ok.ensures.value) (le_of_eq (sym size)) in within

pub slice_bounds-run_bytes-end-2 : goal.slice_bounds-run_bytes-end-2
slice_bounds-run_bytes-end-2 g c =
    let inside = le_trans (fits-room _ _ _ (c.in-Ok.ensures.ok.0 refl)) (le_of_eq (sym c.pad.auto.buffer)) in
    let size = joined_length c.args.len c.load.new.output c.pad.new.buffer inside c.load.auto.output ∙ c.pad.auto.buffer in
    let within = le_trans (padded-within _ _ _ _ _ _ (c.in-Ok.ensures.ok.0 refl) c.in-Ok.ensures.value) (le_of_eq (sym size)) in sym (cut_length _ (c.load.new.output ++ drop c.args.len c.pad.new.buffer) within)

pub run_bytes-requires : goal.run_bytes-requires
run_bytes-requires g c =
    let inside = le_trans (fits-room _ _ _ (c.in-Ok.ensures.ok.0 refl)) (le_of_eq (sym c.pad.auto.buffer)) in
    let size = joined_length c.args.len c.load.new.output c.pad.new.buffer inside c.load.auto.output ∙ c.pad.auto.buffer in
    let within = le_trans (padded-within _ _ _ _ _ _ (c.in-Ok.ensures.ok.0 refl) c.in-Ok.ensures.value) (le_of_eq (sym size)) in
    ap (λ m. m % g.row.B) (cut_length _ (c.load.new.output ++ drop c.args.len c.pad.new.buffer) within)
    ∙ padded-whole _ _ _ _ _ _ (λ tail e. (g.met.P.Padding.whole g.row.B c.args.len tail g.met.M.BlockModeEncrypt.block_size.0 e).0) c.in-Ok.ensures.value

pub returns-clause-within : goal.returns-clause-within
returns-clause-within g c =
    let inside = le_trans (fits-room _ _ _ (c.in-Ok.ensures.ok.0 refl)) (le_of_eq (sym c.pad.auto.buffer)) in
    let size = joined_length c.args.len c.load.new.output c.pad.new.buffer inside c.load.auto.output ∙ c.pad.auto.buffer in
    let within = le_trans (padded-within _ _ _ _ _ _ (c.in-Ok.ensures.ok.0 refl) c.in-Ok.ensures.value) (le_of_eq (sym size)) in
    le_trans within (le_of_eq (sym (joined_length c.in-Ok.n c.run_bytes.new.bytes (c.load.new.output ++ drop c.args.len c.pad.new.buffer) within c.run_bytes.auto.bytes)))

pub returns-clause-ok : goal.returns-clause-ok
returns-clause-ok g c = c.in-Ok.ensures.ok

pub returns-clause-value : goal.returns-clause-value
returns-clause-value g c =
    let room : c.args.len ≤ length c.args.output.now = fits-room _ _ _ (c.in-Ok.ensures.ok.0 refl) in
    let mid : List ℕ = c.load.new.output ++ drop c.args.len c.pad.new.buffer in
    let loaded = padded-loaded _ _ _ c.args.input.now c.args.output.now c.pad.new.buffer mid room c.in-Ok.ensures.value (ap (λ zs. zs ++ drop c.args.len c.pad.new.buffer) c.load.ensures.value) in
    message-encrypted g.M.BlockModeEncrypt.step c.args.mode.now g.row.B g.P.Padding.padding c.args.len _ c.args.input.now c.args.output.now mid _ room loaded (ap (λ zs. zs ++ drop c.in-Ok.n mid) c.run_bytes.ensures.value)

pub returns-in-Err-clause-ok : goal.returns-in-Err-clause-ok
returns-in-Err-clause-ok g c = c.in-Err.ensures.ok

pub returns-in-Err-clause-err : goal.returns-in-Err-clause-err
returns-in-Err-clause-err g c = c.in-Err.ensures.err
