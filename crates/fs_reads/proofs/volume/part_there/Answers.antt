use Rattle.std.proofs.Common.{IfOk, Option, subst, sym}
use Rattle.fs_host.specs.declared.containers.Extent.{Extent}
use Rattle.fs_reads.specs.Volumes.{IsPartThere}
use Rattle.fs_reads.proofs.volume.part_there.Goals as goal

pub returns-in-Some : goal.returns-in-Some
returns-in-Some c = subst (λ (e : Option Extent). IfOk c.part_by.result (IsPartThere e c.args.image)) (sym c.in-Some.is) c.part_by.ensures
