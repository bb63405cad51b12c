use Rattle.ods_space.specs.Disks.{on}
use Rattle.ods_shell.specs.Contents.{IsGot, IsGotBy}
use Rattle.ods_shell.specs.Shown.{ContentsAre}
use Rattle.ods_shell.proofs.GotContents.{got_of_file}
use Rattle.ods_shell.proofs.form.open_contents.Goals as goal

pub returns-in-Ok-clause-ok : goal.returns-in-Ok-clause-ok
returns-in-Ok-clause-ok c =
    got_of_file (λ x got. ContentsAre got.contents x) (λ x got. IsGotBy c.args.wanted c.in-Ok.body x got.remark) (λ x got. on IsGot c.args.disk.now c.args.number c.args.wanted x got.remark)
    (λ x got holds. (c.in-Ok.body, c.in-Ok.ensures.ok, holds)) c.contents_of.result c.contents_of.ensures.ok
