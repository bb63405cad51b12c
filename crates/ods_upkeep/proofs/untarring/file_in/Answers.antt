use Rattle.ods_upkeep.specs.Written.{bytes_of}
use Rattle.ods_upkeep.proofs.Packing.{is_not_given, is_unfiled}
use Rattle.ods_upkeep.proofs.untarring.file_in.Goals as goal

pub returns-in-Err-set_access : goal.returns-in-Err-set_access
returns-in-Err-set_access c =
    let w = c.args.written.now in
    is_not_given c.args.packed.now c.args.dir c.args.name c.args.said w.attributes (bytes_of w) c.bytes.result.now c.user-user.result c.version_for-version.result c.args.filing.now c.version_for-version.new.filing
    c.version_for-version.ensures c.user-user.ensures c.bytes.ensures c.in-Ok.id c.put_new.new.filing c.set_access.new.self c.in-Err-set_access.refusal c.in-Ok.ensures.made c.in-Err-set_access.ensures.refused
    c.in-Err-set_access.ensures.unchanged

pub returns-in-Err : goal.returns-in-Err
returns-in-Err c =
    let w = c.args.written.now in
    is_unfiled c.args.packed.now c.args.dir c.args.name c.args.said w.attributes (bytes_of w) c.bytes.result.now c.user-user.result c.version_for-version.result c.args.filing.now c.version_for-version.new.filing
    c.version_for-version.ensures c.user-user.ensures c.bytes.ensures c.put_new.new.filing c.in-Err.why c.in-Err.ensures.refused
