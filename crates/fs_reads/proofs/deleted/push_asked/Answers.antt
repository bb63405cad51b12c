use Rattle.fs_reads.proofs.DeletedShown.{shown_all}
use Rattle.fs_reads.proofs.deleted.push_asked.Goals as goal

pub returns-in_ok-push_each-clause-ok : goal.returns-in_ok-push_each-clause-ok
returns-in_ok-push_each-clause-ok c =
    let told = c.in_ok-push_each.ensures.ok in
    (told.0, shown_all c.args.disk.now.image.now c.args.disk.now.layout.now c.args.json c.args.image.now c.args.long c.args.paths.now told.0 c.if-paths-gt0.true told.1, told.2)
