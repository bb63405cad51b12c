use Rattle.std.proofs.Common.{◌≡◌, List, ℕ, Option, Result, IfOk, subst, sym}
use Rattle.fs_host.specs.declared.containers.Extent.{Extent}
use Rattle.fs_reads.specs.declared.volume.VolumeFault.{VolumeFault}
use Rattle.f11fs.specs.Given.{Volume}
use Rattle.f11fs.proofs.Taking.{image_out}
use Rattle.f11fs.proofs.copying_from.taken_or_opened.Goals as goal

pub returns-in-Some-clause-taken : goal.returns-in-Some-clause-taken
returns-in-Some-clause-taken g c =
    let out = c.in-Some.ensures.out in
    (image_out (g.R.Host.gives c.args.rt.now) c.args.path.now c.args.early.now c.take_image.new.self out.0 out.1 c.requires out.2 out.4 out.5 out.6).1

pub returns-in-Some-clause-given : goal.returns-in-Some-clause-given
returns-in-Some-clause-given g c =
    let out = c.in-Some.ensures.out in
    subst (λ (r : Result (List (List ℕ) × Option Extent) VolumeFault). IfOk r (λ opened. g.R.Host.gives c.args.rt.now c.args.path.now (Volume opened.0))) (sym out.3)
    (image_out (g.R.Host.gives c.args.rt.now) c.args.path.now c.args.early.now c.take_image.new.self out.0 out.1 c.requires out.2 out.4 out.5 out.6).0
