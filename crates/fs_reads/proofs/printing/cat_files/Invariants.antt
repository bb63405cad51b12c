-- The files so far are written.
use Rattle.std.proofs.Common.{◌≡◌, true, take}
use Rattle.fs_reads.specs.Cats.{HoldsFiles, IsFileOutput}
use Rattle.fs_reads.specs.Ends.{may_name}
use Rattle.fs_reads.specs.Parts.{HaveParts}
use Rattle.fs_reads.proofs.printing.cat_files.Given as goal

abbrev pub invariant-loop-found : goal.invariant-loop-found
invariant-loop-found g l = record {
  may : may_name l.status ≡ true;
  held : HoldsFiles (g.W.Write.contents l.initial.writer) (g.W.Write.contents l.writer) l.status
      (HaveParts (IsFileOutput l.disk.image.now l.disk.layout.now l.wanted l.reader.user) (take l.found-index l.files));
}
