use Rattle.std.proofs.Common.{IfOk, Some, subst, sym}
use Rattle.fs_host.specs.declared.containers.Extent.{Extent}
use Rattle.fs_reads.specs.Volumes.{IsPartThere}
use Rattle.fs_reads.proofs.volume.part_by.Goals as goal

pub returns-in-Shorter : goal.returns-in-Shorter
returns-in-Shorter c = subst (λ (e : Extent). IfOk c.readable_part.result (IsPartThere (Some e) c.args.image)) (sym c.in-Shorter.is) c.readable_part.ensures
