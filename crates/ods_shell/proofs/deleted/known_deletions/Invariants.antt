-- What is known of those up to this number that are looked for.
use Rattle.std.proofs.Common.{◌≤◌}
use Rattle.ods_paths.specs.Views.{said_files}
use Rattle.ods_space.specs.Layout.{last_number}
use Rattle.ods_shell.specs.Deleted.{IsDeletion, IsSoughtFile}
use Rattle.ods_shell.proofs.SoughtFiles.{AreKnownTo}
use Rattle.ods_shell.proofs.deleted.known_deletions.Given as goal

abbrev pub invariant-loop-before : goal.invariant-loop-before
invariant-loop-before l =
    AreKnownTo (IsSoughtFile l.fn.disk.image.now l.fn.disk.layout.now (said_files l.files)) (IsDeletion l.fn.disk.image.now l.fn.disk.layout.now) l.before l.all.items
    × (l.before ≤ last_number l.fn.disk.layout.now)
