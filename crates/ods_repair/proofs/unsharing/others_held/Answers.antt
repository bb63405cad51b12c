use Rattle.std.proofs.Common.{◌*◌, ◌≤◌, length, subst, arith}
use Rattle.ods_repair.proofs.SetCopies.{all_copied}
use Rattle.ods_repair.proofs.unsharing.others_held.Goals as goal

pub returns-clause-held : goal.returns-clause-held
returns-clause-held c =
    all_copied c.args.disk.now.image.now c.args.disk.now.layout.now c.args.file c.in_ok-others.others c.in_ok-held.held c.len.result (let size = c.len.ensures.value in omega (arith, size)) c.in_ok-others.ensures c.in_ok-held.ensures.copied

pub returns-clause-room : goal.returns-clause-room
returns-clause-room c = subst (λ k. k ≤ 64 * length c.in_ok-held.held) c.len.ensures.value c.in_ok-held.ensures.room
