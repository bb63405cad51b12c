use Rattle.std.proofs.Common.{subst}
use Rattle.fs_reads.specs.Cats.{AreFilesOutput, HoldsFiles}
use Rattle.fs_reads.proofs.Catting.{path_output}
use Rattle.fs_reads.proofs.printing.cat_path.Goals as goal

pub returns-clause-written : goal.returns-clause-written
returns-clause-written g c =
    let I = c.args.disk.now.image.now in
    let L = c.args.disk.now.layout.now in
    let user = c.args.reader.user in
    let old = g.W.Write.contents c.args.writer.now in
    let new = g.W.Write.contents c.cat_files.new.writer in
    let held : HoldsFiles old new c.in_ok-done.done (AreFilesOutput I L c.args.wanted user c.add_named.new.all.items) = subst (λ l. HoldsFiles old new c.in_ok-done.done (AreFilesOutput I L c.args.wanted user l)) c.deref.ensures.value c.in_ok-done.ensures.written in
    path_output I L c.args.wanted user c.args.closed.now c.args.path.now old new c.new-files.result.items c.add_named.new.all.items c.in_ok-named.named c.in_ok-done.done c.or.result
    c.new-files.ensures.items c.in_ok-named.ensures.named held c.or.ensures.done c.or.ensures.fault
