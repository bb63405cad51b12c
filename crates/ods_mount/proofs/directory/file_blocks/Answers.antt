use Rattle.ods_mount.proofs.Holders.{chain_is_fault}
use Rattle.ods_mount.proofs.directory.file_blocks.Goals as goal

pub returns-in-Err-clause-err : goal.returns-in-Err-clause-err
returns-in-Err-clause-err c = chain_is_fault c.args.disk.now.image.now c.args.disk.now.layout.now c.args.number c.in-Err.fault c.chain_fault.result c.requires.file c.in-Err.ensures.err c.chain_fault.ensures
