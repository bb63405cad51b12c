-- The entry stands in none of the directories so far.
use Rattle.std.proofs.Common.{take}
use Rattle.std.specs.List.{All}
use Rattle.fs_reads.specs.Tars.{LeadsTo}
use Rattle.fs_reads.proofs.tar_folders.directory_of.Given as goal

abbrev pub invariant-loop-directory : goal.invariant-loop-directory
invariant-loop-directory l = All (λ d. ¬ LeadsTo l.place l.shown d) (take l.directory-index l.directories)
