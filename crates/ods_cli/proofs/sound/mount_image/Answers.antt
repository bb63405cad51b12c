use Rattle.std.proofs.Common.{rules}
use Rattle.ods_cli.proofs.sound.mount_image.Goals as goal

-- the fault is the mount's, with its number and its line
pub returns-clause-ok : goal.returns-clause-ok
returns-clause-ok c =
    let told = c.in_ok-line-in-Err.ensures.ok in
    let found = c.in-Err.ensures.fault in
    record { fault = c.in-Err.fault; reason = search (rules, told, found); number_is = search (rules); line_is = told.1 }
