use Rattle.std.proofs.Common.{◌≢◌, rules}
use Rattle.ods_mount.specs.declared.fault.MountFault.TheVariants.{NoMemory}
use Rattle.ods_mount.proofs.layout.readable_layout.Goals as goal

pub index_layout-requires : goal.index_layout-requires
index_layout-requires c =
    let other : c.in-Err.field-0 ≢ NoMemory = search rules in
    c.in-Err.ensures.none other
