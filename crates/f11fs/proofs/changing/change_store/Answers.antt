use Rattle.std.proofs.Common.{◌≡◌, ◌⊎◌, ℕ, List, Bor, Option, None, false, subst, sym}
use Rattle.std.specs.Prelude.{OnErr}
use Rattle.f11fs.specs.Stores.{ImageStays, IsMadeAndSaved, IsSavedIn, MakesChange}
use Rattle.f11fs.proofs.Storing.{change_made, kept_after, made_saved, on_err_holds, told_alone, told_by}
use Rattle.f11fs.proofs.changing.change_store.Goals as goal

pub returns-clause-status : goal.returns-clause-status
returns-clause-status g c = c.status_of.ensures c.in_ok-finished.ensures.status

pub returns-in_err-finished-clause-told : goal.returns-in_err-finished-clause-told
returns-in_err-finished-clause-told g c =
    told_by g.S.Store.has g.S.Store.has_copy c.args.words.now.saving.only_tells c.in_ok-before.before (λ copy. copy ≡ c.in_ok-volume.volume) c.args.store.now c.read_volume.new.store c.finish.new.store c.in_ok-before.ensures c.finish.ensures.unsaved
    c.in_ok-volume.ensures.stays c.in_ok-volume.ensures.copies

pub returns-clause-told : goal.returns-clause-told
returns-clause-told g c =
    told_by g.S.Store.has g.S.Store.has_copy c.args.words.now.saving.only_tells c.in_ok-before.before (λ copy. copy ≡ c.in_ok-volume.volume) c.args.store.now c.read_volume.new.store c.finish.new.store c.in_ok-before.ensures c.finish.ensures.unsaved
    c.in_ok-volume.ensures.stays c.in_ok-volume.ensures.copies

pub returns-in_err-finished-clause-kept : goal.returns-in_err-finished-clause-kept
returns-in_err-finished-clause-kept g c =
    let Makes = MakesChange (g.R.Host.gives c.args.rt.now) c.args.change c.args.words.now in
    let a = g.S.Store.has c.args.store.now in
    let b = g.S.Store.has c.read_volume.new.store in
    let z = g.S.Store.has c.finish.new.store in
    let after = c.in_ok-filing.filing.image in
    let made : Makes c.in_ok-volume.volume.image after =
    change_made (g.R.Host.gives c.args.rt.now) c.args.change c.args.words.now c.in_ok-volume.volume.image c.in_ok-volume.volume.layout c.in_ok-asker.asker.stamp c.in_ok-asker.asker.user c.in_ok-filing.filing c.in_ok-asker.ensures.user c.in_ok-asker.ensures.stamp c.in_ok-filing.ensures in
    let kept : ImageStays b z ⊎ z after = subst (λ (blocks : List (List ℕ)). ImageStays b z ⊎ z blocks) c.mounted.ensures.0 c.in_err-finished.ensures.kept in
    let copies = g.S.Store.has_copy c.finish.new.store in
    on_err_holds (ImageStays a z ⊎ IsMadeAndSaved Makes None a z copies) c.from_residual-in_err-finished.result
    (kept_after Makes c.in_ok-volume.volume.image after a b z copies c.in_ok-volume.ensures.read made c.in_ok-volume.ensures.stays kept)

pub returns-clause-saved : goal.returns-clause-saved
returns-clause-saved g c = λ saves.
    let Makes = MakesChange (g.R.Host.gives c.args.rt.now) c.args.change c.args.words.now in
    let out = c.args.words.now.saving.out in
    let a = g.S.Store.has c.args.store.now in
    let b = g.S.Store.has c.read_volume.new.store in
    let z = g.S.Store.has c.finish.new.store in
    let copies = g.S.Store.has_copy c.finish.new.store in
    let after = c.in_ok-filing.filing.image in
    let made : Makes c.in_ok-volume.volume.image after =
    change_made (g.R.Host.gives c.args.rt.now) c.args.change c.args.words.now c.in_ok-volume.volume.image c.in_ok-volume.volume.layout c.in_ok-asker.asker.stamp c.in_ok-asker.asker.user c.in_ok-filing.filing c.in_ok-asker.ensures.user c.in_ok-asker.ensures.stamp c.in_ok-filing.ensures in
    let alone : c.in_ok-before.before ≡ None = told_alone c.args.words.now.saving.only_tells c.in_ok-before.before (λ copy. copy ≡ c.in_ok-volume.volume) c.in_ok-before.ensures saves in
    let saved : IsSavedIn out b z copies after = subst (λ (blocks : List (List ℕ)). IsSavedIn out b z copies blocks) c.mounted.ensures.0 (c.in_ok-finished.ensures.saved alone) in
    made_saved Makes out c.in_ok-volume.volume.image after a b z copies c.in_ok-volume.ensures.read made c.in_ok-volume.ensures.stays saved
