use Rattle.std.proofs.Common.{subst}
use Rattle.std.proofs.lemmas.Result.{err_from_is_err_and}
use Rattle.ods_mount.specs.Sound.{IsSoundBy}
use Rattle.ods_request.specs.declared.requests.Request.TheVariants.{Create}
use Rattle.ods_space.specs.Layout.{Disk}
use Rattle.ods_filing.proofs.Added.{is_created}
use Rattle.ods_upkeep.specs.Refused.{IsRefusedBy}
use Rattle.ods_upkeep.proofs.directories.create.Goals as goal

pub returns-in_err-made : goal.returns-in_err-made
returns-in_err-made c =
    let p = err_from_is_err_and c.from_residual.result c.from_residual.ensures.1 in
    rw (p.1, p.2) (subst (λ blocks. IsRefusedBy c.args.filing.now (Create c.args.name 1 blocks c.args.stamp) c.in_err-made.field-0.0) c.blocks_for.ensures c.in_err-made.ensures.refused, c.in_err-made.ensures.unchanged)

pub unreachable-requires : goal.unreachable-requires
unreachable-requires c =
    let sound = subst (λ (d : Disk). IsSoundBy d.image d.layout) (λ i. record { image = c.disk.ensures.image i; layout = c.disk.ensures.layout i }) c.disk.ensures.sound in
    let made = is_created c.args.filing.now c.make.new.filing sound (record { name = c.args.name; version = 1; stamp = c.args.stamp }) c.blocks_for.result c.in_ok-made.made c.in_ok-made.ensures.done in
    c.in_default.not-Created made.0 made.1
