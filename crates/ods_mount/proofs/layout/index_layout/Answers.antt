use Rattle.std.proofs.Common.{◌≢◌, rules}
use Rattle.ods_space.specs.declared.fault.LayoutFault.TheVariants.{NoMemory}
use Rattle.ods_mount.proofs.Unlaid.{finds_none}
use Rattle.ods_mount.proofs.layout.index_layout.Goals as goal

pub returns-in-Err : goal.returns-in-Err
returns-in-Err c =
    let other : c.in-Err.field-0 ≢ NoMemory = search rules in
    record { some = tt; none = finds_none c.args.image.now c.in-Ok.home (c.in-Ok.field-0-0, c.in-Ok.ensures.ok.0, c.in-Ok.ensures.ok.1) c.in-Err.field-0 c.in-Err.ensures.err c.in-Err.ensures.first other }
