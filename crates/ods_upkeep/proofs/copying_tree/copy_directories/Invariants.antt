use Rattle.std.proofs.Common.{drop}
use Rattle.ods_filing.specs.Filed.{Filed}
use Rattle.ods_upkeep.specs.UncopiedTree.{StopsCopyingTree}
use Rattle.ods_upkeep.specs.declared.failure.Failure.{Failure}
use Rattle.ods_upkeep.proofs.CopiedTrees.{Adds, Along}
use Rattle.ods_upkeep.proofs.copying_tree.copy_directories.Given as goal

abbrev pub invariant-loop-directory : goal.invariant-loop-directory
invariant-loop-directory l = record {
  copies : Adds l.initial.due.items l.due.items
      (Along l.other.image.now l.other.layout.now l.how l.stamp l.path l.dir l.depth l.directories (drop l.directory-index l.directories) l.initial.filing l.filing);
  stops : (new : Filed) (failure : Failure) → StopsCopyingTree l.other.image.now l.other.layout.now l.how l.stamp l.path l.dir l.depth (drop l.directory-index l.directories) l.filing new failure
      → StopsCopyingTree l.other.image.now l.other.layout.now l.how l.stamp l.path l.dir l.depth l.directories l.initial.filing new failure;
}
