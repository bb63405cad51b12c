use Rattle.std.proofs.Common.{subst}
use Rattle.std.proofs.lemmas.Result.{err_from_is_err_and}
use Rattle.ods_mount.specs.Sound.{IsSoundBy}
use Rattle.ods_request.specs.declared.requests.Request.TheVariants.{Create}
use Rattle.ods_space.specs.Layout.{Disk}
use Rattle.ods_filing.specs.Filed.{IsDone}
use Rattle.ods_filing.specs.Put.{heading_of}
use Rattle.ods_filing.proofs.Added.{is_created, first_added}
use Rattle.ods_filing.proofs.Led.{obeyed}
use Rattle.ods_filing.proofs.put.make.Goals as goal

pub returns-in_err-made-clause-err : goal.returns-in_err-made-clause-err
returns-in_err-made-clause-err c =
    let p = err_from_is_err_and c.from_residual.result c.from_residual.ensures.1 in
    rw (p.1, p.2) c.in_err-made.ensures.refused

pub unreachable-requires : goal.unreachable-requires
unreachable-requires c =
    let sound = subst (λ (d : Disk). IsSoundBy d.image d.layout) (λ i. record { image = c.disk.ensures.image i; layout = c.disk.ensures.layout i }) c.disk.ensures.sound in
    let made = is_created c.args.filing.now c.request.new.self sound (heading_of c.args.file.now) c.args.blocks c.in_ok-made.made c.in_ok-made.ensures.accepted in
    c.in_default.not-Created made.0 made.1

pub returns-clause-ok : goal.returns-clause-ok
returns-clause-ok c =
    let sound = subst (λ (d : Disk). IsSoundBy d.image d.layout) (λ i. record { image = c.disk.ensures.image i; layout = c.disk.ensures.layout i }) c.disk.ensures.sound in
    let f = c.args.file.now in
    let next = c.request.new.self in
    let request = Create f.name f.version c.args.blocks f.stamp in
    first_added c.args.filing.now next sound (heading_of f) c.args.blocks c.in-Created.id c.requires.plain
    (subst (λ a. IsDone c.args.filing.now request a next) c.in-Created.is c.in_ok-made.ensures.accepted)

pub returns-clause-led : goal.returns-clause-led
returns-clause-led c =
    let f = c.args.file.now in
    obeyed (Create f.name f.version c.args.blocks f.stamp) tt (c.in_ok-made.made, c.in_ok-made.ensures.accepted)
