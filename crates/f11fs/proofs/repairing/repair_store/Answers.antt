use Rattle.std.proofs.Common.{◌≡◌, ℕ, List, Bool, true, false, Bor, Option}
use Rattle.f11fs.specs.Stores.{ImageStays, IsMadeAndSaved, MakesRepairs}
use Rattle.f11fs.proofs.Storing.{kept_either, made_saved}
use Rattle.f11fs.proofs.repairing.repair_store.Goals as goal

pub returns-clause-kept : goal.returns-clause-kept
returns-clause-kept g c =
    let Makes = MakesRepairs c.args.kinds c.args.words.now c.args.into in
    let out = c.args.words.now.saving.out in
    let a = g.S.Store.has c.args.store.now in
    let b = g.S.Store.has c.read_image.new.store in
    let z = g.S.Store.has c.save_mended.new.store in
    let copies = g.S.Store.has_copy c.save_mended.new.store in
    kept_either g.S.Store.has Makes out c.args.words.now.saving.only_tells a copies c.read_image.new.store c.save_mended.new.store c.in_ok-image.ensures.stays c.in_ok-finished.ensures.told
    (λ saves. made_saved Makes out c.in_ok-image.image c.in_ok-image-2.image a b z copies c.in_ok-image.ensures.read (c.in_ok-asker.asker.stamp, c.in_ok-asker.ensures.stamp, c.in_ok-image-2.ensures.leaves) c.in_ok-image.ensures.stays (c.in_ok-finished.ensures.saved saves))
