use Rattle.std.proofs.Common.{Bool, IfOk, MatchBool, Option, subst, sym}
use Rattle.fs_host.specs.declared.containers.Extent.{Extent}
use Rattle.fs_reads.specs.Volumes.{LacksBlocks}
use Rattle.fs_reads.proofs.volume.lacks_blocks.Goals as goal

pub returns-in-Some : goal.returns-in-Some
returns-in-Some c =
    subst (λ (e : Option Extent). IfOk c.lacks_by.result (λ (lacks : Bool). MatchBool lacks (LacksBlocks e c.args.image.now) (¬ LacksBlocks e c.args.image.now))) (sym c.in-Some.is) c.lacks_by.ensures
