use Rattle.std.proofs.Common.{ap}
use Rattle.ods_paths.specs.Views.{folder as said_folder, said, said_files}
use Rattle.fs_reads.proofs.InArchive.{means_within}
use Rattle.fs_reads.proofs.tar_folders.meant_by.Goals as goal

pub returns-in-Ok-Within-clause-directories : goal.returns-in-Ok-Within-clause-directories
returns-in-Ok-Within-clause-directories c =
    means_within c.args.disk.now.image.now c.args.disk.now.layout.now c.args.path.now c.as_bytes.result.now c.args.closed.now (said_folder c.in-Ok-Within.folder) (said_files c.in-Ok-Within.files)
    (λ m. m.directories.items) (said c.in-Ok-Within.field-0) c.meant_within.result c.says_one_thing.ensures c.as_bytes.ensures.value (ap said c.in-Ok-Within.field-0-is) c.in-Ok-Within.ensures c.meant_within.ensures.directories
