use Rattle.ods_space.specs.Files.{Holds}
use Rattle.ods_mount.proofs.Sharing.{table_unnamed}
use Rattle.ods_mount.proofs.Tables.{table_past}
use Rattle.ods_mount.proofs.file.check_file.Goals as goal

pub returns-in_default-clause-table : goal.returns-in_default-clause-table
returns-in_default-clause-table c = table_past (Holds c.args.disk.now.image.now c.args.disk.now.layout.now) c.args.number c.args.held.now (λ v b held. c.in_default.ensures held.file.file) c.requires.table

pub returns-in_default-clause-named : goal.returns-in_default-clause-named
returns-in_default-clause-named c = table_unnamed c.args.disk.now.image.now c.args.disk.now.layout.now c.args.number c.args.named.now c.in_default.ensures c.requires.named

pub returns-clause-named : goal.returns-clause-named
returns-clause-named c = c.in_default-check_apart.ensures.ok

pub returns-clause-file : goal.returns-clause-file
returns-clause-file c _ =
    let file = c.in_default-check_blocks.ensures.file in
    record {
      blocks = file.0;
      has = file.1;
      not_free = file.2;
      no_place = file.3;
      directory = c.in_default-check_directory.ensures.ok file.0 file.1;
    }

pub returns-clause-table : goal.returns-clause-table
returns-clause-table c = c.in_default-check_blocks.ensures.table
