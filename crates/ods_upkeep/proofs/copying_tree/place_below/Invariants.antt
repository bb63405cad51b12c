use Rattle.std.proofs.Common.{drop}
use Rattle.ods_base.specs.declared.file_id.FileId.{FileId}
use Rattle.ods_filing.specs.Filed.{Filed}
use Rattle.ods_upkeep.specs.CopiedTree.{IsPlaceBelow}
use Rattle.ods_upkeep.specs.UncopiedTree.{IsNoPlaceBelow}
use Rattle.ods_upkeep.specs.declared.failure.Why.{Why}
use Rattle.ods_upkeep.proofs.copying_tree.place_below.Given as goal

abbrev pub invariant-loop-name : goal.invariant-loop-name
invariant-loop-name l = record {
  leads : (place : FileId) (new : Filed) → IsPlaceBelow l.stamp l.place (drop l.name-index l.names) l.filing place new → IsPlaceBelow l.stamp l.fn.dir l.names l.initial.filing place new;
  stops : (why : Why) (new : Filed) → IsNoPlaceBelow l.stamp l.place (drop l.name-index l.names) l.filing new why → IsNoPlaceBelow l.stamp l.fn.dir l.names l.initial.filing new why;
}
