use Rattle.std.proofs.Common.{Bool, true, false, MatchBool, Some, subst, sym}
use Rattle.std.specs.Prelude.{not}
use Rattle.fs_host.specs.declared.containers.Extent.{Extent}
use Rattle.ods_container.specs.Part.{HaveBlocksBelow}
use Rattle.fs_reads.specs.Volumes.{LacksBlocks}
use Rattle.fs_reads.proofs.volume.lacks_by.Goals as goal

-- an image lacks blocks if it has not all
turned : (H : Type 0) (all : Bool) → MatchBool all H (¬ H) → MatchBool (not all) (¬ H) (¬ ¬ H)
turned H true has = λ lacks. lacks has
turned H false lacks = lacks

pub returns-in_ok-has_all_blocks-in-Shorter : goal.returns-in_ok-has_all_blocks-in-Shorter
returns-in_ok-has_all_blocks-in-Shorter c =
    let all = c.in_ok-has_all_blocks-in-Shorter.field-0 in
    subst (λ (e : Extent). MatchBool (not all) (LacksBlocks (Some e) c.args.image.now) (¬ LacksBlocks (Some e) c.args.image.now)) (sym c.in-Shorter.is)
    (turned (HaveBlocksBelow c.args.image.now c.in-Shorter.count) all c.in_ok-has_all_blocks-in-Shorter.ensures)
