use Rattle.std.proofs.Common.{take}
use Rattle.std.specs.List.{All}
use Rattle.ods_upkeep.specs.CopiedFrom.{FindsNoTwins}
use Rattle.ods_upkeep.proofs.copying_from.refuse_twins.Given as goal

abbrev pub invariant-loop-path : goal.invariant-loop-path
invariant-loop-path l = All (λ path. FindsNoTwins l.other.image.now l.other.layout.now path.now) (take l.path-index l.paths)
