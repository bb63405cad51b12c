use Rattle.std.proofs.Common.{rules, List, ℕ}
use Rattle.ods_shell.specs.Ways.{CountAsClosed}
use Rattle.ods_shell.specs.declared.alone.Alone.TheVariants as alone
use Rattle.fs_reads.specs.Named.{AreOfPath}
use Rattle.fs_reads.proofs.AddedFiles.{added}
use Rattle.fs_reads.proofs.printing.add_named.Goals as goal

pub returns-else-have_twins-clause-named : goal.returns-else-have_twins-clause-named
returns-else-have_twins-clause-named g c =
    let I = c.args.disk.now.image.now in
    let L = c.args.disk.now.layout.now in
    let named : (shut : List ℕ) → CountAsClosed c.args.closed.now c.in-Ok.met.items shut → AreOfPath I L alone.Files shut c.args.path.now c.in-Ok.found.items = search rules in
    added I L c.args.user c.args.closed.now c.args.path.now c.in-Ok.met.items c.deref-in-Ok.result.now c.in-Ok.found.items _ _ c.add_found.result
    c.deref-in-Ok.ensures.value c.add_found.ensures.all c.add_found.ensures.status named
