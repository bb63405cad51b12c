use Rattle.std.proofs.Common.{◌∙◌, sym}
use Rattle.std.specs.Prelude.{string_bytes}
use Rattle.fs_reads.proofs.Archiving.{directory_in}
use Rattle.fs_reads.proofs.tarring_directories.tar_directory.Goals as goal

pub returns-clause-written : goal.returns-clause-written
returns-clause-written g c =
    directory_in c.args.folder.now (string_bytes c.in_ok-name.name) c.args.found.now c.in-Some.facts c.in-Some-place.place (g.W.Write.contents c.args.writer.now) (g.W.Write.contents c.tar_named.new.writer) c.tar_named.result
    (sym c.facts.ensures ∙ c.in-Some.is) (sym c.place.ensures ∙ c.in-Some-place.is) c.in_ok-name.ensures c.tar_named.ensures.written
