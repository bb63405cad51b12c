use Rattle.std.proofs.Common.{ℕ, List, Option, Result, Ok, refl}
use Rattle.ods_shell.specs.Contents.{IsGot, IsNotGot}
use Rattle.ods_shell.specs.Shown.{ContentsAre}
use Rattle.ods_shell.specs.declared.form.FormFault.{FormFault}
use Rattle.ods_shell.specs.declared.form.Remark.{Remark}
use Rattle.ods_shell.specs.declared.status.Status.{Status}
use Rattle.fs_reads.specs.Targets.{IsWritten}
use Rattle.fs_reads.proofs.FilesGot.{unread_got, written_ends}
use Rattle.fs_reads.proofs.getting.get_file.Goals as goal

pub returns-in-Ok-clause-ends : goal.returns-in-Ok-clause-ends
returns-in-Ok-clause-ends g c =
    let I = c.args.disk.now.image.now in
    let L = c.args.disk.now.layout.now in
    let Gives : ℕ → List ℕ → Option Remark → Type 0 = λ n. IsGot I L n c.args.how.wanted in
    let Lacks : ℕ → FormFault → Type 0 = λ n. IsNotGot I L n c.args.how.wanted in
    written_ends c.args.how.reader.user c.args.how.only_tells Gives Lacks (g.T.Targets.took c.keep.new.targets) c.args.host.now c.args.found.now (ContentsAre c.in-Ok.got.contents) c.in-Ok.got.remark c.args.found.now.facts refl
    c.in-Ok.ensures.some c.in-Ok.ensures.ok c.keep.result c.keep.ensures.status c.keep.ensures.took

pub returns-in_ok-keep_part-in-Err-clause-ends : goal.returns-in_ok-keep_part-in-Err-clause-ends
returns-in_ok-keep_part-in-Err-clause-ends g c =
    let I = c.args.disk.now.image.now in
    let L = c.args.disk.now.layout.now in
    let Gives : ℕ → List ℕ → Option Remark → Type 0 = IsWritten c.args.how.only_tells (g.T.Targets.took c.keep_part.new.targets) (λ n. IsGot I L n c.args.how.wanted) in
    let Lacks : ℕ → FormFault → Type 0 = λ n. IsNotGot I L n c.args.how.wanted in
    let ends : Result Status ℕ = Ok c.in_ok-done-in-Err.done in
    unread_got c.args.how.reader.user Gives Lacks c.args.found.now ends c.in-Err.fault c.args.found.now.facts refl c.in-Err.ensures.err c.in_ok-done-in-Err.ensures.ok
