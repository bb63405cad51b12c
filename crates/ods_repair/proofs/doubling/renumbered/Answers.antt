use Rattle.std.proofs.Common.{◌≡◌, ◌/◌, ◌++◌, ◌∙◌, ℕ, List, ap, drop, length, subst, sym, take}
use Rattle.std.proofs.lemmas.Result.{err_from_is_err_and}
use Rattle.ods_directory.specs.Entry.{entry_at}
use Rattle.ods_mount.specs.Faults.{contents_of, mark_at}
use Rattle.ods_repair.specs.Doubled.{AreRenumbered}
use Rattle.ods_repair.proofs.DoubledLaw.{not_full, taken_back}
use Rattle.ods_repair.proofs.doubling.renumbered.Goals as goal

pub returns-in_err-renumber-clause-refused : goal.returns-in_err-renumber-clause-refused
returns-in_err-renumber-clause-refused c =
    let I = c.args.disk.now.image.now in
    let L = c.args.disk.now.layout.now in
    let bs = c.in_ok-found.found.lbns.items in
    let same : c.deref_mut.result.now ≡ contents_of I bs = c.deref_mut.ensures.value ∙ c.in_ok-blocks.ensures ∙ ap (contents_of I) c.deref.ensures.value in
    let why = not_full I L c.args.directory bs c.deref_mut.result.now (c.in_ok-found.found.mark / 16) c.in_ok-found.ensures.ready.has same (ap (λ m. m / 16) c.in_ok-found.ensures.whole.end) c.in_err-renumber.field-0.0 c.in_err-renumber.ensures.refused in
    let p = err_from_is_err_and c.from_residual-in_err-renumber.result c.from_residual-in_err-renumber.ensures.1 in
    rw (p.1, p.2) why

pub returns-clause-names : goal.returns-clause-names
returns-clause-names c =
    let I = c.args.disk.now.image.now in
    let L = c.args.disk.now.layout.now in
    let bs = c.in_ok-found.found.lbns.items in
    let new = c.renumber.new.blocks in
    let count : ℕ = mark_at I L c.args.directory bs / 16 in
    let same : c.deref_mut.result.now ≡ contents_of I bs = c.deref_mut.ensures.value ∙ c.in_ok-blocks.ensures ∙ ap (contents_of I) c.deref.ensures.value in
    let back : take c.in_ok-blocks.blocks.len (new ++ drop (length new) c.in_ok-blocks.blocks.items) ≡ new =
    taken_back new (drop (length new) c.in_ok-blocks.blocks.items) c.in_ok-blocks.blocks.len (c.in_ok-blocks.blocks.ok.0 ∙ ap length (sym c.deref_mut.ensures.value) ∙ sym c.in_ok-renumber.ensures.long) in
    let made : AreRenumbered (entry_at c.deref_mut.result.now) (entry_at new) (c.in_ok-found.found.mark / 16) = c.in_ok-renumber.ensures.names in
    subst (λ (ys : List (List ℕ)). AreRenumbered (entry_at (contents_of I bs)) (entry_at ys) count) (sym back)
    (subst (λ n. AreRenumbered (entry_at (contents_of I bs)) (entry_at new) n) (ap (λ m. m / 16) c.in_ok-found.ensures.whole.end)
    (subst (λ (xs : List (List ℕ)). AreRenumbered (entry_at xs) (entry_at new) (c.in_ok-found.found.mark / 16)) same made))
