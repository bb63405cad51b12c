use Rattle.std.proofs.Common.{refl}
use Rattle.ods_request.specs.declared.requests.Request.TheVariants.{Delete}
use Rattle.ods_space.specs.Draft.{applied}
use Rattle.ods_state.proofs.Served.{refused_by_fault, refused_for_memory}
use Rattle.ods_change.proofs.Deleting.{delete_is_step}
use Rattle.ods_change.proofs.delete_file.delete.Goals as goal

pub returns-in-Err : goal.returns-in-Err
returns-in-Err c = refused_by_fault c.args.disk.now.image.now c.args.disk.now.layout.now c.args.who (Delete c.args.file) c.in-Err.refusal c.in-Err.ensures.err

pub returns-in-Ok-without_file : goal.returns-in-Ok-without_file
returns-in-Ok-without_file c =
    let known = c.in-Ok.ensures.ok in
    delete_is_step c.requires known.0 known.1 (applied c.args.disk.now.image.now c.in-Ok-without_file.draft) c.in-Ok-without_file.ensures c.args.who known.3

pub returns-in-Err-without_file : goal.returns-in-Err-without_file
returns-in-Err-without_file c = refused_for_memory c.args.disk.now.image.now c.args.disk.now.layout.now c.args.who (Delete c.args.file) refl c.in-Ok.ensures.ok.3
