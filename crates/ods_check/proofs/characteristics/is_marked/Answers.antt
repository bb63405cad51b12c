use Rattle.ods_space.specs.Files.{IsFile}
use Rattle.ods_space.specs.Layout.{header_at}
use Rattle.ods_check.specs.Findings.{SaysDeleted}
use Rattle.ods_check.proofs.Telling.{told_of_header}
use Rattle.ods_check.proofs.characteristics.is_marked.Goals as goal

pub returns-in-Some : goal.returns-in-Some
returns-in-Some c =
    let I = c.args.disk.now.image.now in
    let L = c.args.disk.now.layout.now in
    told_of_header c.has_mark.result (IsFile I L c.args.number) SaysDeleted c.in-Some.first.now (header_at I L c.args.number) c.in-Some.ensures.some.0 c.in-Some.ensures.some.1 c.has_mark.ensures
