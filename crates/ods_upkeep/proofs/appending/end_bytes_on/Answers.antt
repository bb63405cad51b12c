use Rattle.std.proofs.Common.{sym, subst, inl}
use Rattle.ods_upkeep.specs.Copied.{IsUnread}
use Rattle.ods_upkeep.proofs.Copies.{unread}
use Rattle.ods_upkeep.proofs.appending.end_bytes_on.Goals as goal

pub returns-in-Err-clause-err : goal.returns-in-Err-clause-err
returns-in-Err-clause-err c =
    let I = c.args.disk.now.image.now in
    let L = c.args.disk.now.layout.now in
    inl (subst (IsUnread I L c.args.file.number) (sym c.why_unread.ensures) (unread I L c.args.file.number c.in-Err.fault c.in-Err.ensures.err))
