use Rattle.std.proofs.Common.{◌≡◌, ◌+◌, ap, arith, subst, sym, ◌∙◌}
use Rattle.std.specs.Prelude.{slice_index}
use Rattle.ods_alloc.specs.Bitmaps.{IsRun}
use Rattle.ods_alloc.proofs.counting.run_in.Goals as goal

pub returns-in-Storage : goal.returns-in-Storage
returns-in-Storage c =
    let known = c.bitmap_run.ensures in
    subst (λ m. IsRun c.args.layout.now m c.bitmap_run.result) (sym c.in-Storage.is)
    (record { within = known.within; places = λ j low. let next : 1 + j ≡ j + 1 = omega arith in ap (slice_index c.args.layout.now.bitmap) next ∙ known.places j low })
