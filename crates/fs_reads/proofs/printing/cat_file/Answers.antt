use Rattle.std.proofs.Common.{inl, refl}
use Rattle.ods_shell.specs.Contents.{IsGot, IsNotGot}
use Rattle.ods_shell.specs.Shown.{ContentsAre}
use Rattle.fs_reads.specs.Cats.{IsFileOutput}
use Rattle.fs_reads.proofs.Catting.{one_output}
use Rattle.fs_reads.proofs.FilesGot.{opened, unread_ends}
use Rattle.fs_reads.proofs.Parting.{nothing_of}
use Rattle.fs_reads.proofs.printing.cat_file.Goals as goal

pub returns-in-Ok-write_to-clause-ok : goal.returns-in-Ok-write_to-clause-ok
returns-in-Ok-write_to-clause-ok g c =
    let I = c.args.disk.now.image.now in
    let L = c.args.disk.now.layout.now in
    let got = opened c.args.reader.user (λ n. IsGot I L n c.args.wanted) (λ n. IsNotGot I L n c.args.wanted) c.args.found.now (ContentsAre c.in-Ok.got.contents) c.in-Ok.got.remark
    c.args.found.now.facts refl c.in-Ok.ensures.some c.in-Ok.ensures.ok in
    inl (refl, got)

pub returns-in-Ok-write_to-clause-written : goal.returns-in-Ok-write_to-clause-written
returns-in-Ok-write_to-clause-written g c =
    one_output c.args.disk.now.image.now c.args.disk.now.layout.now c.args.wanted c.args.reader.user c.args.found.now (ContentsAre c.in-Ok.got.contents) c.in-Ok.got.remark c.args.found.now.facts
    (g.W.Write.contents c.args.writer.now) (g.W.Write.contents c.write_to.new.writer) refl c.in-Ok.ensures.some c.in-Ok.ensures.ok c.in-Ok-write_to.ensures.ok

pub returns-clause-ok : goal.returns-clause-ok
returns-clause-ok g c =
    let I = c.args.disk.now.image.now in
    let L = c.args.disk.now.layout.now in
    unread_ends c.args.reader.user (λ n. IsGot I L n c.args.wanted) (λ n. IsNotGot I L n c.args.wanted) c.args.found.now c.say_unread.result c.in-Err.fault c.args.found.now.facts refl c.in-Err.ensures.err
    c.say_unread.ensures.ok

pub returns-clause-written : goal.returns-clause-written
returns-clause-written g c =
    nothing_of (λ bytes. bytes) _ c.say_unread.result (g.W.Write.contents c.args.writer.now) (IsFileOutput c.args.disk.now.image.now c.args.disk.now.layout.now c.args.wanted c.args.reader.user c.args.found.now) c.say_unread.ensures.ok
