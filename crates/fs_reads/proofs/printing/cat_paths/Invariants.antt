-- The files of the paths so far are written.
use Rattle.std.proofs.Common.{◌≡◌, true, take}
use Rattle.fs_reads.specs.Cats.{HoldsFiles, IsPathOutput}
use Rattle.fs_reads.specs.Ends.{may_name}
use Rattle.fs_reads.specs.Parts.{HaveParts}
use Rattle.fs_reads.proofs.printing.cat_paths.Given as goal

abbrev pub invariant-loop-path : goal.invariant-loop-path
invariant-loop-path g l = record {
  may : may_name l.status ≡ true;
  held : HoldsFiles (g.W.Write.contents l.initial.writer) (g.W.Write.contents l.writer) l.status
      (HaveParts (λ path. IsPathOutput l.disk.image.now l.disk.layout.now l.wanted l.reader.user l.closed path.now) (take l.path-index l.paths));
}
