use Rattle.std.proofs.Common.{◌≡◌, ◌⊎◌, ℕ, List, Option, None, false, subst}
use Rattle.std.specs.Prelude.{MatchOption}
use Rattle.std.specs.Str.Lines.{lines}
use Rattle.ods_filing.specs.Filed.{Filed}
use Rattle.f11fs.specs.Changed.{AreAllDone, AreLinesEnded}
use Rattle.f11fs.specs.Stores.{ImageStays, IsMadeAndSaved, IsSavedIn, MakesLines}
use Rattle.f11fs.proofs.Storing.{kept_after, lines_made, made_saved, on_err_holds, told_alone, told_by}
use Rattle.f11fs.proofs.command_files.save_lines.Goals as goal

pub returns-in_err-finished-clause-told : goal.returns-in_err-finished-clause-told
returns-in_err-finished-clause-told g c =
    told_by g.S.Store.has g.S.Store.has_copy c.args.words.now.saving.only_tells c.in_ok-before.before (λ copy. copy ≡ c.in_ok-volume.volume) c.args.store.now c.read_volume.new.store c.finish.new.store c.in_ok-before.ensures c.finish.ensures.unsaved
    c.in_ok-volume.ensures.stays c.in_ok-volume.ensures.copies

pub returns-clause-told : goal.returns-clause-told
returns-clause-told g c =
    told_by g.S.Store.has g.S.Store.has_copy c.args.words.now.saving.only_tells c.in_ok-before.before (λ copy. copy ≡ c.in_ok-volume.volume) c.args.store.now c.read_volume.new.store c.finish.new.store c.in_ok-before.ensures c.finish.ensures.unsaved
    c.in_ok-volume.ensures.stays c.in_ok-volume.ensures.copies

pub returns-in_err-finished-clause-kept : goal.returns-in_err-finished-clause-kept
returns-in_err-finished-clause-kept g c =
    let Makes = MakesLines (g.R.Host.gives c.args.rt.now) c.args.keep_going c.args.words.now c.args.text.now in
    let a = g.S.Store.has c.args.store.now in
    let b = g.S.Store.has c.read_volume.new.store in
    let z = g.S.Store.has c.finish.new.store in
    let copies = g.S.Store.has_copy c.finish.new.store in
    let before = c.in_ok-volume.volume.image in
    let after = c.in-Some.filing.image in
    let image = c.args.words.now.image in
    let stamp = c.in_ok-asker.asker.stamp in
    let user = c.in_ok-asker.asker.user in
    let goes_on = c.args.keep_going in
    let text = lines c.args.text.now in
    let status = c.in_ok-status.status in
    let filed : Filed = record { image = before; layout = c.in_ok-volume.volume.layout; user = user } in
    let made : Makes before after =
    lines_made (g.R.Host.gives c.args.rt.now) c.args.keep_going c.args.words.now c.args.text.now before c.in_ok-volume.volume.layout c.in_ok-asker.asker.stamp c.in_ok-asker.asker.user c.in_ok-status.status c.in-Some.filing c.in_ok-asker.ensures.user c.in_ok-asker.ensures.stamp
    (subst (λ (some : Option Filed). MatchOption some (AreLinesEnded (g.R.Host.gives c.args.rt.now) image stamp user goes_on text status filed) (AreAllDone (g.R.Host.gives c.args.rt.now) image stamp user goes_on text status filed)) c.in-Some.is c.in_ok-status.ensures) in
    let kept : ImageStays b z ⊎ z after = subst (λ (blocks : List (List ℕ)). ImageStays b z ⊎ z blocks) c.mounted.ensures.0 c.in_err-finished.ensures.kept in
    on_err_holds (ImageStays a z ⊎ IsMadeAndSaved Makes None a z copies) c.from_residual-in_err-finished.result
    (kept_after Makes before after a b z copies c.in_ok-volume.ensures.read made c.in_ok-volume.ensures.stays kept)

pub returns-clause-saved : goal.returns-clause-saved
returns-clause-saved g c = λ saves.
    let Makes = MakesLines (g.R.Host.gives c.args.rt.now) c.args.keep_going c.args.words.now c.args.text.now in
    let out = c.args.words.now.saving.out in
    let a = g.S.Store.has c.args.store.now in
    let b = g.S.Store.has c.read_volume.new.store in
    let z = g.S.Store.has c.finish.new.store in
    let copies = g.S.Store.has_copy c.finish.new.store in
    let before = c.in_ok-volume.volume.image in
    let after = c.in-Some.filing.image in
    let image = c.args.words.now.image in
    let stamp = c.in_ok-asker.asker.stamp in
    let user = c.in_ok-asker.asker.user in
    let goes_on = c.args.keep_going in
    let text = lines c.args.text.now in
    let status = c.in_ok-status.status in
    let filed : Filed = record { image = before; layout = c.in_ok-volume.volume.layout; user = user } in
    let made : Makes before after =
    lines_made (g.R.Host.gives c.args.rt.now) c.args.keep_going c.args.words.now c.args.text.now before c.in_ok-volume.volume.layout c.in_ok-asker.asker.stamp c.in_ok-asker.asker.user c.in_ok-status.status c.in-Some.filing c.in_ok-asker.ensures.user c.in_ok-asker.ensures.stamp
    (subst (λ (some : Option Filed). MatchOption some (AreLinesEnded (g.R.Host.gives c.args.rt.now) image stamp user goes_on text status filed) (AreAllDone (g.R.Host.gives c.args.rt.now) image stamp user goes_on text status filed)) c.in-Some.is c.in_ok-status.ensures) in
    let alone : c.in_ok-before.before ≡ None = told_alone c.args.words.now.saving.only_tells c.in_ok-before.before (λ copy. copy ≡ c.in_ok-volume.volume) c.in_ok-before.ensures saves in
    let saved : IsSavedIn out b z copies after = subst (λ (blocks : List (List ℕ)). IsSavedIn out b z copies blocks) c.mounted.ensures.0 (c.in_ok-finished.ensures.saved alone) in
    made_saved Makes out before after a b z copies c.in_ok-volume.ensures.read made c.in_ok-volume.ensures.stays saved
