use Rattle.std.proofs.Common.{◌≡◌, List, Option, Result, subst}
use Rattle.std.specs.Prelude.{ℕ, IfOk}
use Rattle.std.proofs.lemmas.Result.{IfErr-weaker, IfOk-weaker}
use Rattle.fs_host.specs.declared.containers.Extent.{Extent}
use Rattle.fs_reads.specs.Readable.{IsReadableOf}
use Rattle.fs_reads.specs.Volumes.{IsNoVolume}
use Rattle.fs_reads.specs.declared.stop.Stop.{Stop}
use Rattle.fs_reads.specs.declared.volume.VolumeFault.{VolumeFault}
use Rattle.f11fs.specs.Changed.{IsRefusal}
use Rattle.f11fs.proofs.Opened.{no_volume_refusal}
use Rattle.f11fs.proofs.Taking.{volume_given}
use Rattle.f11fs.proofs.copying_from.open_other.Goals as goal

pub returns-clause-err : goal.returns-clause-err
returns-clause-err g c =
    IfErr-weaker c.readable_of.result (λ (end : Stop). (why : VolumeFault) × IsNoVolume c.args.image why end) IsRefusal (λ end told. no_volume_refusal c.args.image told.0 end told.1) c.readable_of.ensures.err

pub returns-clause-given : goal.returns-clause-given
returns-clause-given g c =
    IfOk-weaker c.readable_of.result _ _ (λ volume is. volume_given (g.R.Host.gives c.args.rt.now) c.args.image.now c.taken_or_opened-opened.result volume c.taken_or_opened-opened.ensures.given is) c.readable_of.ensures.ok

pub returns-clause-early : goal.returns-clause-early
returns-clause-early g c place one first there =
    subst (λ (o : Result (List (List ℕ) × Option Extent) VolumeFault). IfOk c.readable_of.result (λ volume. IsReadableOf o volume)) (c.taken_or_opened-opened.ensures.early place one first there) c.readable_of.ensures.ok
