use Rattle.std.proofs.Common.{length}
use denote.Shadow.{shadow}
use denote.Text.{Utf8}
use Rattle.ods_upkeep.proofs.TreeNaming.{NamesSo}
use Rattle.ods_upkeep.proofs.WaysMade.{Reaches}
use Rattle.ods_upkeep.proofs.tree_names.folder_names.Given as goal

abbrev pub invariant-loop-folder : goal.invariant-loop-folder
invariant-loop-folder l = record { text : shadow (Utf8 l.rest); so : NamesSo l.path l.rest l.names.items; reaches : Reaches l.path l.rest }

abbrev pub decreases-loop-folder : goal.decreases-loop-folder
decreases-loop-folder l = length l.rest
